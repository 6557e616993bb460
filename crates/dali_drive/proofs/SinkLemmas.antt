-- The part of a sink of records, and of records that are put there, that a stop leaves.
use Rattle.std.proofs.Common.{◌≡◌, ◌≤◌, ◌⊎◌, ◌∙◌, sym, ap, arith, ℕ, Bool, true, false, List, [], ◌++◌, Option, Some, None}
use Rattle.std.proofs.Common.{length, length-append, append-nil, append_assoc}
use Rattle.std.proofs.lemmas.Bool.{cases_lt}
use Rattle.std.specs.Io.KnownBytes.{Appends, Keeps}
use Rattle.dali_store.specs.Stores.{IsDurable, IsBetween, Elapses}
use Rattle.dali_drive.specs.LentSinks.{SinkLeaves, SinkLeft, flushed_count, longer_begins}
use Rattle.dali_drive.specs.Streams.{IsPart, Flushes, PutsFirst}

-- if a stop leaves all, all was flushed
all_flushed : (flushed held : List ℕ) → IsPart (Some flushed) (Some held)
    → IsDurable (Some held) (SinkLeaves (Some flushed) (Some held)) → flushed ≡ held
all_flushed flushed held (rest, is) settled = settled flushed ([], rest, sym (append-nil flushed), is)

-- all that was put since was flushed, or nothing
abbrev FlushedSince : List ℕ → List ℕ → Option (List ℕ) → Type 0
FlushedSince before now flushed = (flushed ≡ Some before) ⊎ (flushed ≡ Some now)

flushed_since : (done : Bool) (before now : List ℕ) (new : Option (List ℕ))
    → Flushes done (Some now) (Some before) new → FlushedSince before now new
flushed_since done before now new flushes = grind arith

module _ (before more now : List ℕ) (is : now ≡ before ++ more) where
  left_behind : (flushed : Option (List ℕ)) → FlushedSince before now flushed → (c : List ℕ)
      → SinkLeaves flushed (Some now) c → IsBetween (Some before) (Some now) c
  left_behind flushed since c left = grind (arith, append_assoc)

  part_of : (flushed : Option (List ℕ)) → FlushedSince before now flushed → (t : ℕ) (c : List ℕ)
      → SinkLeft flushed (Some now) t c → (t ≤ length c) × ((rest : List ℕ) × (now ≡ c ++ rest))
  part_of flushed since t c left = grind arith

  between : (c rest : List ℕ) → now ≡ c ++ rest → length before ≤ length c → IsBetween (Some before) (Some now) c
  between c rest so le = grind (arith, longer_begins)

  left_or_between : (t : ℕ) (c rest : List ℕ) → now ≡ c ++ rest → t ≤ length c
      → SinkLeft (Some before) (Some before) t c ⊎ IsBetween (Some before) (Some now) c
  left_or_between t c rest so le = grind (arith, cases_lt, longer_begins, between)

  counted : (flushed : Option (List ℕ)) → FlushedSince before now flushed → length before ≤ flushed_count flushed
  counted flushed since = grind (arith, length-append)

-- of what was put, a stop leaves a first part
pub leaves_put : (done : Bool) (flushed held flushed_now held_now : Option (List ℕ)) (more : List ℕ)
    → IsPart flushed held → Appends held held_now more → Flushes done held_now flushed flushed_now
    → IsDurable held (SinkLeaves flushed held) → (c : List ℕ) → SinkLeaves flushed_now held_now c
    → IsBetween held held_now c
leaves_put true None held new now more part put flushes settled c left = absurd (rw flushes at left)
leaves_put false None held new now more part put flushes settled c left = absurd (rw flushes at left)
leaves_put done (Some flushed) None new now more part put flushes settled c left = absurd part
leaves_put done (Some flushed) (Some held) new None more part put flushes settled c left = absurd put
leaves_put done (Some flushed) (Some held) new (Some now) more part put flushes settled c left =
    let now_all = rw (all_flushed flushed held part settled) at flushes in
    left_behind held more now put new (flushed_since done held now new now_all) c left

-- some bytes were put
pub some_put : (done : Bool) (old new : Option (List ℕ)) (bytes : List ℕ) → (done ≡ true → Appends old new bytes)
    → (done ≡ false → PutsFirst old new bytes) → (more : List ℕ) × Appends old new more
some_put done old new bytes whole cut = grind arith

-- and so it does at each moment
pub record PutOver (flushed held flushed_now held_now : Option (List ℕ)) : Type 0 where
  pub later : flushed_count flushed ≤ flushed_count flushed_now
  pub each : (c : List ℕ) → SinkLeft flushed_now held_now (flushed_count flushed) c → IsBetween held held_now c
  pub before : (t : ℕ) (c : List ℕ) → t ≤ flushed_count flushed → SinkLeft flushed_now held_now t c
      → SinkLeft flushed held t c ⊎ IsBetween held held_now c

none_over : (held now : Option (List ℕ)) → PutOver None held None now
none_over held now = grind arith

pub put_over : (done : Bool) (flushed held flushed_now held_now : Option (List ℕ)) (more : List ℕ)
    → IsPart flushed held → Appends held held_now more → Flushes done held_now flushed flushed_now
    → IsDurable held (SinkLeaves flushed held) → PutOver flushed held flushed_now held_now
put_over true None held new now more part put flushes settled = rw flushes (none_over held now)
put_over false None held new now more part put flushes settled = rw flushes (none_over held now)
put_over done (Some flushed) None new now more part put flushes settled = absurd part
put_over done (Some flushed) (Some held) new None more part put flushes settled = absurd put
put_over done (Some flushed) (Some held) new (Some now) more part put flushes settled =
    let all = all_flushed flushed held part settled in
    let since = flushed_since done held now new (rw all at flushes) in
    rw all (record {
      later = counted held more now put new since;
      each = λ c left.
          let p = part_of held more now put new since (length held) c left in
          between held more now put c p.1.0 p.1.1 p.0;
      before = λ t c le left.
          let p = part_of held more now put new since t c left in left_or_between held more now put t c p.1.0 p.1.1 p.0;
    })

-- what a flush leaves was left before
pub flush_leaves : (done : Bool) (flushed held flushed_now held_now : Option (List ℕ)) → IsPart flushed held
    → Keeps held held_now → Flushes done held_now flushed flushed_now → (c : List ℕ)
    → SinkLeaves flushed_now held_now c → SinkLeaves flushed held c
flush_leaves true None held new now part kept flushes c left = absurd (rw flushes at left)
flush_leaves false None held new now part kept flushes c left = absurd (rw flushes at left)
flush_leaves done (Some flushed) None new now part kept flushes c left = absurd part
flush_leaves done (Some flushed) (Some held) new None part kept flushes c left = absurd kept
flush_leaves true (Some flushed) (Some held) new (Some now) (rest, is) kept flushes c left =
    let (more, behind, front, whole) = rw flushes at left in (
      rest ++ more,
      behind,
      front ∙ ap (λ (l : List ℕ). l ++ more) (kept ∙ is) ∙ append_assoc flushed rest more,
      sym kept ∙ whole,
    )
flush_leaves false (Some flushed) (Some held) new (Some now) part kept flushes c left = rw (flushes, kept) at left

-- and time goes on
pub flush_elapses : (done : Bool) (flushed held flushed_now held_now : Option (List ℕ)) → IsPart flushed held
    → Keeps held held_now → Flushes done held_now flushed flushed_now
    → Elapses (flushed_count flushed) (flushed_count flushed_now) (SinkLeft flushed held)
    (SinkLeft flushed_now held_now) (SinkLeaves flushed_now held_now)
flush_elapses done flushed held new now part kept flushes = grind (arith, length-append)

-- A desk of streams that are lent, of which the journal is a sink.
use Rattle.std.specs.Prelude.{◌≡◌, ◌≤◌, ℕ, List, [], ◌∷◌, ◌++◌, Option, Some, None, length}
use Rattle.std.proofs.Common.{refl, sym, ap, arith, ◌∙◌}
use Rattle.dali_store.specs.Stores.{IsBetween}
use Rattle.dali_drive.specs.declared.lent_sinks.LentSinks.{LentSinks}
use Rattle.dali_drive.specs.Streams.{IsPart}

-- The bytes that a stop may leave of a sink: of what it holds a first part that has all that was flushed last. Nothing
-- is said of one that doesn't show what was flushed.
abbrev pub SinkLeaves : Option (List ℕ) → Option (List ℕ) → List ℕ → Type 0
SinkLeaves None held c = ⊥
SinkLeaves (Some flushed) held c = IsBetween (Some flushed) held c

-- the bytes that a stop might have left since this many bytes were flushed: a first part of that length or more
abbrev pub SinkLeft : Option (List ℕ) → Option (List ℕ) → ℕ → List ℕ → Type 0
SinkLeft None held t c = ⊥
SinkLeft (Some flushed) held t c = (t ≤ length c) × IsPart (Some c) held

-- how many were flushed
abbrev pub flushed_count : Option (List ℕ) → ℕ
flushed_count None = 0
flushed_count (Some flushed) = length flushed

-- the streams are the same
pub record IsSame {I L S O : Type 0} (old new : LentSinks I L S O) : Type 0 where
  pub link_in : new.link_in.ghost_name ≡ old.link_in.ghost_name
  pub link_out : new.link_out.ghost_name ≡ old.link_out.ghost_name
  pub journal : new.journal.ghost_name ≡ old.journal.ghost_name
  pub out : new.out.ghost_name ≡ old.out.ghost_name

pub same_now : {I L S O : Type 0} (desk : LentSinks I L S O) → IsSame desk desk
same_now desk = record { link_in = refl; link_out = refl; journal = refl; out = refl }

pub same_on : {I L S O : Type 0} (a b c : LentSinks I L S O) → IsSame a b → IsSame b c → IsSame a c
same_on a b c first second = record {
  link_in = second.link_in ∙ first.link_in;
  link_out = second.link_out ∙ first.link_out;
  journal = second.journal ∙ first.journal;
  out = second.out ∙ first.out;
}

-- of two first parts of the same bytes the longer one begins with the other
pub longer_begins : (a c x y : List ℕ) → a ++ x ≡ c ++ y → length a ≤ length c → (more : List ℕ) × (c ≡ a ++ more)
longer_begins [] c x y same le = (c, refl)
longer_begins (h ∷ a) [] x y same le = absurd (omega (arith, le))
longer_begins (h ∷ a) (k ∷ c) x y same le =
    let is : k ≡ h = sym (grind (arith, same)) in
    let next = longer_begins a c x y (grind (arith, same)) (omega (arith, le)) in
    (next.0, rw is (ap (λ (l : List ℕ). h ∷ l) next.1))

-- since this moment there is no other
pub left_now : (flushed held : Option (List ℕ)) → IsPart flushed held → (c : List ℕ)
    → SinkLeft flushed held (flushed_count flushed) c → SinkLeaves flushed held c
left_now None held part c left = left
left_now (Some flushed) None part c left = absurd part
left_now (Some flushed) (Some held) (rest, is) c (le, (behind, so)) =
    let begins = longer_begins flushed c rest behind (sym is ∙ so) le in
    (begins.0, behind, begins.1, so)

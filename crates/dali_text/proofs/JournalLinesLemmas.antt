-- Lemmas on how a journal is printed.
use Rattle.std.proofs.Common.{◌≡◌, ◌∙◌, Bool, true, OnOk, Result, Ok, Err, ℕ, List, [], ◌∷◌, ◌++◌, Option, length, drop, reverse}
use Rattle.std.proofs.Common.{length-append, append_assoc, append-nil, ap, sym, subst, refl, arith}
use Rattle.std.specs.List.{AllByRecursion, flat_map}
use Rattle.std.specs.Io.KnownBytes.{Appends}
use Rattle.std.proofs.lemmas.List.{flat_map_more, reverse-append}
use Rattle.std.proofs.Math.Seq.{drop-append_seam}
use Rattle.dali_bank.specs.Order.{Contents}
use Rattle.dali_journal.specs.declared.record.Record.{Record}
use Rattle.dali_journal.specs.declared.record.Record.TheVariants.{Began}
use Rattle.dali_journal.specs.declared.read.Piece.{Piece}
use Rattle.dali_journal.specs.declared.read.Piece.TheVariants.{Whole}
use Rattle.dali_journal.specs.declared.version.Version.TheVariants.{Two}
use Rattle.dali_journal.specs.Reading.{IsRead}
use Rattle.dali_journal.specs.Spelling.{IsRecord, records_spelling, spelling}
use Rattle.dali_journal.proofs.DecodeLemmas.{read_is, some_bytes}
use Rattle.dali_text.specs.JournalLines.{record_line, record_lines}
use Rattle.dali_text.specs.OrderLines.{update_line}
use Rattle.dali_text.proofs.StreamLemmas.{appends_both}
use Rattle.dali_bank.proofs.ListLemmas.{all_one_more}
use Rattle.std.proofs.KnownBytes.{Appends-nil}

-- the bytes of a journal, the oldest record first
pub journal_forward : (records : List Record) → records_spelling Two records ≡ flat_map (spelling Two) (reverse records)
journal_forward [] = refl
journal_forward (newest ∷ older) =
    ap (λ bytes. bytes ++ spelling Two newest) (journal_forward older)
    ∙ flat_map_more (spelling Two) [] (reverse older) newest
    ∙ ap (flat_map (spelling Two)) (sym (reverse-append (newest ∷ []) older))

pub all_forward : (records : List Record) → AllByRecursion (IsRecord Two) records
    → AllByRecursion (IsRecord Two) (reverse records)
all_forward [] all = tt
all_forward (newest ∷ older) all =
    subst (AllByRecursion (IsRecord Two)) (sym (reverse-append (newest ∷ []) older))
    (all_one_more (IsRecord Two) (reverse older) newest (all_forward older all.1) all.0)

-- the updates of an order after the record that begins it
pub updates_behind : {A E : Type 0} (r : Result A E) (with_updates : Bool) (entry : Record) (order : Contents)
    (moment : ℕ)
    (updates : List (ℕ × ℕ)) (before mid now : Option (List ℕ))
    → with_updates ≡ true → entry ≡ Began order moment → updates ≡ order.updates
    → Appends before mid (record_line entry) → OnOk r (Appends mid now (flat_map update_line updates))
    → OnOk r (Appends before now (record_lines with_updates entry))
updates_behind (Ok _) with_updates entry order moment updates before mid now wanted is same line behind =
    rw (wanted, is)
    (appends_both before mid now (record_line (Began order moment)) (flat_map update_line order.updates)
    (subst (λ those. Appends before mid (record_line those)) is line)
    (subst (λ those. Appends mid now (flat_map update_line those)) same behind))
updates_behind (Err error) with_updates entry order moment updates before mid now wanted is same line behind = tt

-- some of the records are printed, and the rest of the bytes are those of the others
pub record WrittenSoFar (with_updates : Bool) (records : List Record) (rest : List ℕ) (before now : Option (List ℕ)) :
    Type 0 where
  pub done : List Record
  pub left : List Record
  pub split : records ≡ done ++ left
  pub in_range : AllByRecursion (IsRecord Two) left
  pub bytes : rest ≡ flat_map (spelling Two) left
  pub appended : Appends before now (flat_map (record_lines with_updates) done)

-- before the first
pub none_told : (with_updates : Bool) (records : List Record) (bytes : List ℕ) (before : Option (List ℕ))
    → AllByRecursion (IsRecord Two) records
    → bytes ≡ flat_map (spelling Two) records → WrittenSoFar with_updates records bytes before before
none_told with_updates records bytes before all are =
    record { done = []; left = records; split = refl; in_range = all; bytes = are; appended = Appends-nil before }

-- a record is read off the rest, and printed
read_off : (with_updates : Bool) (records done left : List Record) (rest : List ℕ) (entry : Record) (len : ℕ)
    (before mid now : Option (List ℕ))
    → IsRead Two rest (Whole entry len)
    → records ≡ done ++ left → AllByRecursion (IsRecord Two) left → rest ≡ flat_map (spelling Two) left
    → Appends before mid (flat_map (record_lines with_updates) done)
    → Appends mid now (record_lines with_updates entry) → WrittenSoFar with_updates records (drop len rest) before now
read_off with_updates records done [] rest entry len before mid now reads split all bytes told line =
    let long = ap length (sym bytes ∙ reads.0.2) ∙ length-append (spelling Two entry) reads.0.1 in
    absurd (omega (arith, long, some_bytes Two entry))
read_off with_updates records done (first ∷ others) rest entry len before mid now reads split all bytes told line =
    let same : Whole entry len ≡ Whole first (length (spelling Two first)) =
    read_is Two rest first (Whole entry len) reads (all.0, flat_map (spelling Two) others, bytes) in
    let is : entry ≡ first = cc in
    let long : len ≡ length (spelling Two first) = cc in
    record {
      done = done ++ first ∷ [];
      left = others;
      split = split ∙ sym (append_assoc done (first ∷ []) others);
      in_range = all.1;
      bytes =
          ap (λ n. drop n rest) long ∙ ap (drop (length (spelling Two first))) bytes
          ∙ drop-append_seam (spelling Two first) (flat_map (spelling Two) others);
      appended =
          subst (λ text. Appends before now text)
          (ap (λ r. flat_map (record_lines with_updates) done ++ record_lines with_updates r) is
          ∙ flat_map_more (record_lines with_updates) [] done first)
          (appends_both before mid now (flat_map (record_lines with_updates) done)
          (record_lines with_updates entry) told line);
    }

pub told_more : (with_updates : Bool) (records : List Record) (rest : List ℕ) (entry : Record) (len : ℕ)
    (before mid now : Option (List ℕ))
    → IsRead Two rest (Whole entry len)
    → WrittenSoFar with_updates records rest before mid → Appends mid now (record_lines with_updates entry)
    → WrittenSoFar with_updates records (drop len rest) before now
told_more with_updates records rest entry len before mid now reads told line =
    read_off with_updates records told.done told.left rest entry len before mid now reads told.split told.in_range
    told.bytes
    told.appended line

-- if the rest begins with no record, all are printed
none_left : (with_updates : Bool) (records done left : List Record) (rest : List ℕ) (piece : Piece)
    (before now : Option (List ℕ))
    → IsRead Two rest piece → ((entry : Record) (len : ℕ) → ¬ (piece ≡ Whole entry len))
    → records ≡ done ++ left → AllByRecursion (IsRecord Two) left → rest ≡ flat_map (spelling Two) left
    → Appends before now (flat_map (record_lines with_updates) done)
    → Appends before now (flat_map (record_lines with_updates) records)
none_left with_updates records done [] rest piece before now reads other split all bytes told =
    subst (λ those. Appends before now (flat_map (record_lines with_updates) those))
    (sym (split ∙ append-nil done)) told
none_left with_updates records done (first ∷ others) rest piece before now reads other split all bytes told =
    absurd
    (other first (length (spelling Two first))
    (read_is Two rest first piece reads (all.0, flat_map (spelling Two) others, bytes)))

pub all_told : (with_updates : Bool) (records : List Record) (rest : List ℕ) (piece : Piece)
    (before now : Option (List ℕ))
    → IsRead Two rest piece → ((entry : Record) (len : ℕ) → ¬ (piece ≡ Whole entry len))
    → WrittenSoFar with_updates records rest before now
    → Appends before now (flat_map (record_lines with_updates) records)
all_told with_updates records rest piece before now reads other told =
    none_left with_updates records told.done told.left rest piece before now reads other told.split told.in_range
    told.bytes told.appended

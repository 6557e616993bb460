-- The bytes of records are read as these records.
use Rattle.std.proofs.Common.{◌≡◌, ℕ, zero, suc, ◌+◌, ◌-◌, ◌<◌, ◌≤◌, List, [], ◌∷◌, ◌++◌, length, drop, refl}
use Rattle.std.proofs.Common.{sym, ap, ◌∙◌, arith, length-append, append_assoc, inl, inr}
use Rattle.std.proofs.Math.Seq.{drop-append_seam}
use Rattle.std.proofs.lemmas.List.{append-nil}
use Rattle.std.specs.List.{AllByRecursion}
use Rattle.std.specs.Int.{w64, to_be_bytes}
use Rattle.dali_bank.specs.Order.{IsWritable}
use Rattle.dali_journal.specs.declared.record.Record.{Record}
use Rattle.dali_journal.specs.declared.record.Record.TheVariants.{Began, Opened, Ended, Closed}
use Rattle.dali_journal.specs.declared.version.Version.{Version}
use Rattle.dali_journal.specs.declared.version.Version.TheVariants.{One, Two}
use Rattle.dali_journal.specs.declared.read.Piece.{Piece}
use Rattle.dali_journal.specs.declared.read.Piece.TheVariants.{Whole, Cut, Bad}
use Rattle.dali_journal.specs.Spelling.{head_spelling, spelling, records_spelling, pairs_spelling, IsRecord}
use Rattle.dali_journal.specs.Law.{BytesBeginWithOnePiece}
use Rattle.dali_journal.specs.Reading.{IsRead, BeginsWith}
use Rattle.dali_journal.specs.Decoding.{piece_of, read_further, records_from, records_in}
use Rattle.dali_journal.proofs.PairLemmas.{AreBytes, Climb, order-climbs}
use Rattle.dali_journal.proofs.PieceLemmas.{reads-piece_of, bytes-append, code_number-small}
use Rattle.dali_journal.proofs.SpellingLemmas.{records_same}

abbrev pub AreRecords : Version → List Record → Type 0
AreRecords version records = AllByRecursion (IsRecord version) records

pairs_bytes : (low : ℕ) (pairs : List (ℕ × ℕ)) → Climb low pairs → AreBytes (pairs_spelling pairs)
pairs_bytes low [] c = tt
pairs_bytes low (pair ∷ pairs) c = (place pair.0 c.0, (c.2, pairs_bytes pair.0 pairs c.3))
  where
    place : (location : ℕ) → IsWritable location → location < 256
    place location (inl h) = omega arith
    place location (inr h) = omega arith

number_bytes : (number : ℕ) → AreBytes (to_be_bytes w64 number)
number_bytes number = (
  omega arith,
  (
    omega arith,
    (
      omega arith,
      (omega arith, (omega arith, (omega arith, (omega arith, (omega arith, tt))))),
    ),
  ),
)

head_bytes : (version : Version) (id moment : ℕ) → AreBytes (head_spelling version id moment)
head_bytes One id moment = number_bytes id
head_bytes Two id moment =
    bytes-append (to_be_bytes w64 id) (to_be_bytes w64 moment) (number_bytes id) (number_bytes moment)

pub spelling_bytes : (version : Version) (entry : Record) → IsRecord version entry → AreBytes (spelling version entry)
spelling_bytes version (Began order moment) is =
    let few = is.2.few in
    let unit = is.1 in (
      omega arith,
      bytes-append (head_spelling version order.id moment)
          (order.unit ∷ length order.updates ∷ pairs_spelling order.updates)
          (head_bytes version order.id moment)
          (omega arith, (omega arith, pairs_bytes 0 order.updates (order-climbs version order moment is))),
    )
spelling_bytes version (Opened unit) is = (omega arith, (omega arith, tt))
spelling_bytes version (Ended code) is = (omega arith, (omega (arith, code_number-small code), tt))
spelling_bytes version (Closed unit) is = (omega arith, (omega arith, tt))

pub records_bytes : (version : Version) (records : List Record) → AreRecords version records
    → AreBytes (records_spelling version records)
records_bytes version [] are = tt
records_bytes version (newest ∷ older) are =
    bytes-append (records_spelling version older) (spelling version newest) (records_bytes version older are.1)
    (spelling_bytes version newest are.0)

pub none : (bytes : List ℕ) → length bytes ≡ 0 → bytes ≡ []
none [] e = refl
none (byte ∷ rest) e = absurd (omega arith)

-- if the bytes of a record are there, that record is read
pub read_is : (version : Version) (bytes : List ℕ) (entry : Record) (piece : Piece) → IsRead version bytes piece
    → BeginsWith version bytes entry
    → piece ≡ Whole entry (length (spelling version entry))
read_is version bytes entry (Whole other len) reads begins =
    let same : other ≡ entry =
    records_same version other entry reads.0.1 begins.1 reads.0.0 begins.0 (sym reads.0.2 ∙ begins.2) in
    λ i. Whole (same i) ((reads.1 ∙ ap (λ e. length (spelling version e)) same) i)
read_is version bytes entry Cut reads begins =
    let whole = reads.1.3 ∙ ap (λ bs. bs ++ reads.1.1) begins.2
    ∙ append_assoc (spelling version entry) begins.1 reads.1.1 in
    let same : reads.0 ≡ entry =
    records_same version reads.0 entry [] (begins.1 ++ reads.1.1) reads.1.0 begins.0
    (append-nil (spelling version reads.0) ∙ whole) in
    let long = ap length (sym (ap (spelling version) same) ∙ whole)
    ∙ length-append (spelling version entry) (begins.1 ++ reads.1.1) in
    absurd (reads.1.2 (none reads.1.1 (let l = length-append begins.1 reads.1.1 in omega arith)))
read_is version bytes entry Bad reads begins = absurd ((reads entry).0 begins)

-- bytes begin with one piece
pub one_piece : BytesBeginWithOnePiece
one_piece version bytes (Whole entry len) b reads again =
    ap (Whole entry) reads.1 ∙ sym (read_is version bytes entry b again reads.0)
one_piece version bytes a (Whole entry len) reads again =
    read_is version bytes entry a reads again.0 ∙ sym (ap (Whole entry) again.1)
one_piece version bytes Cut Cut reads again = refl
one_piece version bytes Bad Bad reads again = refl
one_piece version bytes Cut Bad reads again = absurd ((again reads.0).1 reads.1)
one_piece version bytes Bad Cut reads again = absurd ((reads again.0).1 again.1)

pub read_again : (version : Version) (entry : Record) (rest : List ℕ) → IsRecord version entry → AreBytes rest
    → piece_of version (spelling version entry ++ rest) ≡ Whole entry (length (spelling version entry))
read_again version entry rest is bytes =
    read_is version (spelling version entry ++ rest) entry (piece_of version (spelling version entry ++ rest))
    (reads-piece_of version (spelling version entry ++ rest)
    (bytes-append (spelling version entry) rest (spelling_bytes version entry is) bytes))
    (is, rest, refl)

-- one record is read, and then the rest
pub read_one : (version : Version) (most : ℕ) (older : List Record) (entry : Record) (rest : List ℕ)
    → IsRecord version entry → AreBytes rest
    → records_from version (suc most) older (spelling version entry ++ rest)
    ≡ records_from version most (entry ∷ older) rest
read_one version most older entry rest is bytes =
    ap (λ piece.
    read_further piece older (λ next len.
    records_from version most (next ∷ older) (drop len (spelling version entry ++ rest))))
    (read_again version entry rest is bytes)
    ∙ ap (λ behind. records_from version most (entry ∷ older) behind) (drop-append_seam (spelling version entry) rest)

-- the records of a journal are read, and then the rest
pub read_all : (version : Version) (records : List Record) (most : ℕ) (older : List Record) (rest : List ℕ)
    → AreRecords version records
    → AreBytes rest
    → records_from version (length records + most) older (records_spelling version records ++ rest)
    ≡ records_from version most (records ++ older) rest
read_all version [] most older rest are bytes =
    let no_more : 0 + most ≡ most = omega arith in ap (λ n. records_from version n older rest) no_more
read_all version (newest ∷ before) most older rest are bytes =
    let count : length (newest ∷ before) + most ≡ length before + suc most = omega arith in
    ap (λ n. records_from version n older ((records_spelling version before ++ spelling version newest) ++ rest)) count
    ∙ ap (records_from version (length before + suc most) older)
    (append_assoc (records_spelling version before) (spelling version newest) rest)
    ∙ read_all version before (suc most) older (spelling version newest ++ rest) are.1
    (bytes-append (spelling version newest) rest (spelling_bytes version newest are.0) bytes)
    ∙ read_one version most (before ++ older) newest rest are.0 bytes

pub some_bytes : (version : Version) (entry : Record) → 2 ≤ length (spelling version entry)
some_bytes One (Began order moment) = omega arith
some_bytes Two (Began order moment) = omega arith
some_bytes version (Opened unit) = omega arith
some_bytes version (Ended code) = omega arith
some_bytes version (Closed unit) = omega arith

-- each record has bytes
pub enough_bytes : (version : Version) (records : List Record)
    → length records ≤ length (records_spelling version records)
enough_bytes version [] = omega arith
enough_bytes version (newest ∷ older) =
    omega (
      arith,
      length-append (records_spelling version older) (spelling version newest),
      some_bytes version newest,
      enough_bytes version older,
    )

read_no_more : (version : Version) (most : ℕ) (older : List Record) → records_from version most older [] ≡ older
read_no_more version zero older = refl
read_no_more version (suc most) older = refl

-- the bytes of records are read as these records
pub spelling_read : (version : Version) (records : List Record) → AreRecords version records
    → records_in version (records_spelling version records) ≡ records
spelling_read version records are =
    let enough = enough_bytes version records in
    let most : ℕ = length (records_spelling version records) - length records in
    let all : length (records_spelling version records) ≡ length records + most = omega arith in
    ap (λ n. records_from version n [] (records_spelling version records)) all
    ∙ ap (records_from version (length records + most) []) (sym (append-nil (records_spelling version records)))
    ∙ read_all version records most [] [] are tt
    ∙ ap (λ those. records_from version most those []) (append-nil records)
    ∙ read_no_more version most records

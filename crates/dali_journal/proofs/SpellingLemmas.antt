-- Records are distinguished by their bytes: two that agree up to the end of the shorter one are one.
use Rattle.std.proofs.Common.{◌≡◌, ℕ, ◌^◌, ◌<◌, List, [], ◌∷◌, ◌++◌, length, take, drop, get_or, refl, sym, ap}
use Rattle.std.proofs.Common.{◌∙◌, arith, append_assoc}
use Rattle.std.specs.Int.{w64, to_be_bytes, from_be_bytes}
use Rattle.std.proofs.lemmas.List.{append-nil}
use Rattle.std.proofs.lemmas.Nat.{from_be_bytes-to_be_bytes_8}
use Rattle.dali_bank.specs.Order.{Contents}
use Rattle.dali_journal.specs.declared.record.Code.{Code}
use Rattle.dali_journal.specs.declared.record.Code.TheVariants.{Done, Short, Format, Silent, Doubt, DoubtOpen}
use Rattle.dali_journal.specs.declared.record.Record.{Record}
use Rattle.dali_journal.specs.declared.record.Record.TheVariants.{Began, Opened, Ended, Closed}
use Rattle.dali_journal.specs.declared.version.Version.{Version}
use Rattle.dali_journal.specs.declared.version.Version.TheVariants.{One, Two}
use Rattle.dali_journal.specs.Spelling.{head_spelling, spelling, pairs_spelling, code_number, IsMoment, IsRecord}
use Rattle.dali_journal.specs.Decoding.{code_numbered}
use Rattle.dali_journal.specs.Law.{NoSpellingBeginsAnother}

pairs_same : (pairs others : List (ℕ × ℕ)) (rest more : List ℕ) → length pairs ≡ length others
    → pairs_spelling pairs ++ rest ≡ pairs_spelling others ++ more → pairs ≡ others
pairs_same [] [] rest more count same = refl
pairs_same [] (other ∷ others) rest more count same = absurd (omega arith)
pairs_same (pair ∷ pairs) [] rest more count same = absurd (omega arith)
pairs_same (pair ∷ pairs) (other ∷ others) rest more count same =
    let location : pair.0 ≡ other.0 = ap (λ bytes. get_or bytes 0 0) same in
    let byte : pair.1 ≡ other.1 = ap (λ bytes. get_or bytes 1 0) same in
    let behind : pairs_spelling pairs ++ rest ≡ pairs_spelling others ++ more = ap (drop 2) same in
    let rest_same = pairs_same pairs others rest more (omega arith) behind in
    λ i. (location i, byte i) ∷ rest_same i

-- two numbers of eight bytes that agree are one
numbers_same : (number other : ℕ) → number < 2 ^ 64 → other < 2 ^ 64 → to_be_bytes w64 number ≡ to_be_bytes w64 other
    → number ≡ other
numbers_same number other small other_small same =
    sym (from_be_bytes-to_be_bytes_8 number small) ∙ ap (from_be_bytes w64) same
    ∙ from_be_bytes-to_be_bytes_8 other other_small

heads_same : (version : Version) (id other moment others : ℕ) (rest more : List ℕ) → id < 2 ^ 64 → other < 2 ^ 64
    → IsMoment version moment → IsMoment version others
    → head_spelling version id moment ++ rest ≡ head_spelling version other others ++ more
    → (id ≡ other) × (moment ≡ others) × (rest ≡ more)
heads_same One id other moment others rest more i o m n same =
    (numbers_same id other i o (ap (take 8) same), m ∙ sym n, ap (drop 8) same)
heads_same Two id other moment others rest more i o m n same = (
  numbers_same id other i o (ap (take 8) same),
  numbers_same moment others m n (ap (λ bytes. take 8 (drop 8 bytes)) same),
  ap (drop 16) same,
)

orders_same : (version : Version) (order other : Contents) (moment others : ℕ) (rest more : List ℕ)
    → IsRecord version (Began order moment) → IsRecord version (Began other others)
    → spelling version (Began order moment) ++ rest ≡ spelling version (Began other others) ++ more
    → Began order moment ≡ Began other others
orders_same version order other moment others rest more is other_is same =
    let behind : (o : Contents) → List ℕ = λ o. o.unit ∷ length o.updates ∷ pairs_spelling o.updates in
    let heads = heads_same version order.id other.id moment others (behind order ++ rest) (behind other ++ more)
    is.0 other_is.0 is.4 other_is.4
    (sym (append_assoc (head_spelling version order.id moment) (behind order) rest) ∙ ap (drop 1) same
    ∙ append_assoc (head_spelling version other.id others) (behind other) more) in
    let unit : order.unit ≡ other.unit = ap (λ bytes. get_or bytes 0 0) heads.2 in
    let count : length order.updates ≡ length other.updates = ap (λ bytes. get_or bytes 1 0) heads.2 in
    let pairs : pairs_spelling order.updates ++ rest ≡ pairs_spelling other.updates ++ more = ap (drop 2) heads.2 in
    let updates = pairs_same order.updates other.updates rest more count pairs in
    λ i. Began (record { id = heads.0 i; unit = unit i; updates = updates i }) (heads.1 i)

codes_same : (code other : Code) → code_number code ≡ code_number other → code ≡ other
codes_same code other same = sym (of code) ∙ ap code_numbered same ∙ of other
  where
    of : (code : Code) → code_numbered (code_number code) ≡ code
    of Done = refl
    of Short = refl
    of Format = refl
    of Silent = refl
    of Doubt = refl
    of DoubtOpen = refl

-- the first byte of a record
abbrev pub letter_of : Record → ℕ
letter_of (Began order moment) = 0x42
letter_of (Opened unit) = 0x4F
letter_of (Ended code) = 0x45
letter_of (Closed unit) = 0x43

pub letter_at : (version : Version) (entry : Record) (rest : List ℕ)
    → get_or (spelling version entry ++ rest) 0 0 ≡ letter_of entry
letter_at version (Began order moment) rest = refl
letter_at version (Opened unit) rest = refl
letter_at version (Ended code) rest = refl
letter_at version (Closed unit) rest = refl

letters_same : (version : Version) (entry other : Record) (rest more : List ℕ)
    → spelling version entry ++ rest ≡ spelling version other ++ more
    → letter_of entry ≡ letter_of other
letters_same version entry other rest more same =
    sym (letter_at version entry rest) ∙ ap (λ bytes. get_or bytes 0 0) same ∙ letter_at version other more

pub records_same : (version : Version) (entry other : Record) (rest more : List ℕ) → IsRecord version entry
    → IsRecord version other
    → spelling version entry ++ rest ≡ spelling version other ++ more → entry ≡ other
records_same version (Began order moment) (Began other others) rest more is other_is same =
    orders_same version order other moment others rest more is other_is same
records_same version (Opened unit) (Opened other) rest more is other_is same =
    ap Opened (ap (λ bytes. get_or bytes 1 0) same)
records_same version (Ended code) (Ended other) rest more is other_is same =
    ap Ended (codes_same code other (ap (λ bytes. get_or bytes 1 0) same))
records_same version (Closed unit) (Closed other) rest more is other_is same =
    ap Closed (ap (λ bytes. get_or bytes 1 0) same)
records_same version entry other rest more is other_is same =
    absurd (let letters : letter_of entry ≡ letter_of other = letters_same version entry other rest more same in
    omega arith)

pub none_begins_another : NoSpellingBeginsAnother
none_begins_another version a b more is b_is same =
    records_same version a b more [] is b_is (sym same ∙ sym (append-nil (spelling version b)))

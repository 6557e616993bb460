-- The laws of records and of lists of them.
use Rattle.std.specs.Prelude.{◌≡◌, ◌↔◌, ◌⊎◌, ℕ, false, List, ◌∷◌, ◌++◌, reverse, None, Some}
use Rattle.dali_bank.specs.Order.{Contents}
use Rattle.dali_journal.specs.declared.record.Code.{Code}
use Rattle.dali_journal.specs.declared.record.Record.{Record}
use Rattle.dali_journal.specs.declared.record.Record.TheVariants.{Began, Opened, Ended}
use Rattle.dali_journal.specs.declared.version.Version.{Version}
use Rattle.dali_journal.specs.declared.kept.Kept.TheVariants as kepts
use Rattle.dali_journal.specs.Sentence.{is_begun, IsSentence}
use Rattle.dali_journal.specs.Orders.{kept_of, moment_of}
use Rattle.dali_journal.specs.Groups.{AreGroups, HaveDistinctNumbers}
use Rattle.dali_journal.specs.Spelling.{spelling, IsRecord}
use Rattle.dali_journal.specs.Reading.{IsRead}
use Rattle.dali_journal.specs.declared.read.Piece.{Piece}

-- The records that the table allows, record by record, are what a person reads as groups, the oldest first, in which no
-- number comes twice.
abbrev pub SentencesAreGroups : Type 0
SentencesAreGroups =
    (records : List Record) → IsSentence records ↔ (AreGroups (reverse records) × HaveDistinctNumbers (reverse records))

-- the order is the last that was begun, and its group hasn't ended (the newest record first)
abbrev pub IsUnended : Contents → List Record → Type 0
IsUnended order records =
    (moment : ℕ) × (older : List Record)
    × ((records ≡ Began order moment ∷ older) ⊎ (records ≡ Opened order.unit ∷ Began order moment ∷ older))

-- somewhere among the records the order's group ends with the code: directly after its Began, or after its Opened
abbrev pub HasEnded : Contents → Code → List Record → Type 0
HasEnded order code records =
    (moment : ℕ) × (newer : List Record) × (older : List Record)
    × ((records ≡ newer ++ Ended code ∷ Began order moment ∷ older)
    ⊎ (records ≡ newer ++ Ended code ∷ Opened order.unit ∷ Began order moment ∷ older))

-- The groups say what is kept of a number: nothing if no order was begun under it, the order whose group hasn't ended,
-- or an order and how its group ended.
abbrev pub KeptIsInTheGroups : Type 0
KeptIsInTheGroups = (records : List Record) (id : ℕ) → IsSentence records
    → ((kept_of id records ≡ kepts.Absent) ↔ (is_begun id records ≡ false))
    × ((order : Contents) → (kept_of id records ≡ kepts.Unfinished order) ↔ ((order.id ≡ id) × IsUnended order records))
    × ((order : Contents) (code : Code)
    → (kept_of id records ≡ kepts.Ended order code) ↔ ((order.id ≡ id) × HasEnded order code records))

-- If the bytes of one record begin those of another of the same version, the two are one record.
abbrev pub NoSpellingBeginsAnother : Type 0
NoSpellingBeginsAnother =
    (version : Version) (a b : Record) (more : List ℕ) → IsRecord version a → IsRecord version b
    → spelling version b ≡ spelling version a ++ more → a ≡ b

-- Bytes begin with one piece of a version: the whole record, a cut one or neither.
abbrev pub BytesBeginWithOnePiece : Type 0
BytesBeginWithOnePiece =
    (version : Version) (bytes : List ℕ) (a b : Piece) → IsRead version bytes a → IsRead version bytes b → a ≡ b

-- There is a moment exactly when something is kept: that of the one Began of the number.
abbrev pub MomentsAreKept : Type 0
MomentsAreKept = (records : List Record) (id : ℕ)
    → ((moment_of id records ≡ None) ↔ (kept_of id records ≡ kepts.Absent))
    × ((moment : ℕ) → IsSentence records → (moment_of id records ≡ Some moment)
    ↔ ((newer : List Record) × (older : List Record) × (order : Contents)
    × (order.id ≡ id) × (records ≡ newer ++ Began order moment ∷ older)))

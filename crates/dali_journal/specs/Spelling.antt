-- The bytes of a record and of a journal, in each version.
use Rattle.std.specs.Prelude.{◌≡◌, ℕ, ◌<◌, ◌≤◌, ◌^◌, List, [], ◌∷◌, ◌++◌, length, codes, ⊤}
use Rattle.std.specs.Int.{w64, to_be_bytes}
use Rattle.std.specs.List.{flat_map, AllByRecursion}
use Rattle.dali_bank.specs.Order.{Contents, AreUpdates}
use Rattle.dali_journal.specs.declared.record.Code.{Code}
use Rattle.dali_journal.specs.declared.record.Code.TheVariants.{Done, Short, Format, Silent, Doubt, DoubtOpen}
use Rattle.dali_journal.specs.declared.record.Record.{Record}
use Rattle.dali_journal.specs.declared.version.Version.{Version}
use Rattle.dali_journal.specs.declared.version.Version.TheVariants.{One, Two}
use Rattle.dali_journal.specs.declared.record.Record.TheVariants.{Began, Opened, Ended, Closed}

-- the number of a code
abbrev pub code_number : Code → ℕ
code_number Done = 0
code_number Short = 1
code_number Format = 2
code_number Silent = 3
code_number Doubt = 4
code_number DoubtOpen = 5

-- the name of a code, in what a program prints
abbrev pub code_name : Code → List ℕ
code_name Done = codes "Done"
code_name Short = codes "Short"
code_name Format = codes "Format"
code_name Silent = codes "Silent"
code_name Doubt = codes "Doubt"
code_name DoubtOpen = codes "DoubtOpen"

-- each location, and after it its byte
abbrev pub pairs_spelling : List (ℕ × ℕ) → List ℕ
pairs_spelling pairs = flat_map (λ pair. pair.0 ∷ pair.1 ∷ []) pairs

-- an order's number in eight bytes, the most significant first, and in version 2 after it the moment likewise
abbrev pub head_spelling : Version → ℕ → ℕ → List ℕ
head_spelling One id moment = to_be_bytes w64 id
head_spelling Two id moment = to_be_bytes w64 id ++ to_be_bytes w64 moment

-- an order after its letter: its number and moment, its unit, how many updates it has, and these
abbrev pub order_spelling : Version → Contents → ℕ → List ℕ
order_spelling version order moment =
    head_spelling version order.id moment ++ order.unit ∷ length order.updates ∷ pairs_spelling order.updates

-- a record: a letter, B, O, E or C, and what it is about
abbrev pub spelling : Version → Record → List ℕ
spelling version (Began order moment) = 0x42 ∷ order_spelling version order moment
spelling version (Opened unit) = 0x4F ∷ unit ∷ []
spelling version (Ended code) = 0x45 ∷ code_number code ∷ []
spelling version (Closed unit) = 0x43 ∷ unit ∷ []

-- the bytes of records, the oldest first
abbrev pub records_spelling : Version → List Record → List ℕ
records_spelling version [] = []
records_spelling version (newest ∷ older) = records_spelling version older ++ spelling version newest

-- the bytes in front of the records: in version 2 "DB1" and the version
abbrev pub header : Version → List ℕ
header One = []
header Two = 0x44 ∷ 0x42 ∷ 0x31 ∷ 0x02 ∷ []

-- the bytes of a journal: the header, and those of its records
abbrev pub journal_spelling : Version → List Record → List ℕ
journal_spelling version records = header version ++ records_spelling version records

-- the number of a version
abbrev pub version_number : Version → ℕ
version_number One = 1
version_number Two = 2

-- a unit that the record names has a short address
abbrev pub NamesShortUnit : Record → Type 0
NamesShortUnit (Began order moment) = ⊤
NamesShortUnit (Opened unit) = unit ≤ 63
NamesShortUnit (Ended code) = ⊤
NamesShortUnit (Closed unit) = unit ≤ 63

-- a moment that a record may have: in version 1, which has none, 0
abbrev pub IsMoment : Version → ℕ → Type 0
IsMoment One moment = moment ≡ 0
IsMoment Two moment = moment < 2 ^ 64

-- a record whose numbers are in their ranges
abbrev pub IsRecord : Version → Record → Type 0
IsRecord version (Began order moment) =
    (order.id < 2 ^ 64) × (order.unit ≤ 63) × AreUpdates order.updates
    × AllByRecursion (λ update. update.1 < 256) order.updates × IsMoment version moment
IsRecord version (Opened unit) = unit ≤ 63
IsRecord version (Ended code) = ⊤
IsRecord version (Closed unit) = unit ≤ 63

-- Which bytes are a journal's, torn or not, and the first fault of bytes that are none.
use Rattle.std.specs.Prelude.{◌≡◌, ◌≢◌, ℕ, ◌<◌, ◌≤◌, true, false, List, [], ◌∷◌, ◌++◌, length, ⊤}
use Rattle.std.specs.List.{AllByRecursion}
use Rattle.dali_journal.specs.declared.fault.JournalFault.{JournalFault}
use Rattle.dali_journal.specs.declared.fault.JournalFault.TheVariants as faults
use Rattle.dali_journal.specs.declared.version.Version.{Version}
use Rattle.dali_journal.specs.declared.version.Version.TheVariants.{One, Two}
use Rattle.dali_journal.specs.declared.record.Record.{Record}
use Rattle.dali_journal.specs.declared.record.Record.TheVariants.{Began}
use Rattle.dali_journal.specs.Sentence.{Allows, standing_of, is_begun}
use Rattle.dali_journal.specs.Orders.{orders_of}
use Rattle.dali_journal.specs.Spelling.{header, journal_spelling}
use Rattle.dali_journal.specs.Reading.{BeginsWith, IsCutOf}
use Rattle.dali_journal.specs.JournalState.{JournalState, AreKept, HoldsOrders, IsJournal}

-- the bytes are of this version: of version 1 they begin with another byte than the header does
abbrev pub HasVersion : Version → List ℕ → Type 0
HasVersion One bytes = (first : ℕ) × (rest : List ℕ) × (bytes ≡ first ∷ rest) × (first ≢ 0x44)
HasVersion Two bytes = (rest : List ℕ) × (bytes ≡ header Two ++ rest)

-- a torn journal: the bytes are those of the header and the records, this many, and after them a proper front of some
-- record's
pub record IsTorn (version : Version) (bytes : List ℕ) (records : List Record) (len : ℕ) : Type 0 where
  pub rest : List ℕ
  pub spelled : bytes ≡ journal_spelling version records ++ rest
  pub cut : (last : Record) × IsCutOf version rest last
  pub counts : len ≡ length (journal_spelling version records)

-- what a journal is loaded from: a torn journal, of version 1 only if there are bytes; and no bytes at all, which are
-- of version 2
abbrev pub IsLoadable : Version → List ℕ → List Record → ℕ → Type 0
IsLoadable version [] records len = (version ≡ Two) × (records ≡ []) × (len ≡ 0)
IsLoadable version (first ∷ rest) records len = IsTorn version (first ∷ rest) records len

-- the journal of these bytes, of which `len` count
abbrev pub IsLoaded : ℕ → List ℕ → JournalState → ℕ → Version → Type 0
IsLoaded limit bytes journal len version =
    (journal.limit ≡ limit) × AreKept version limit journal.records × IsLoadable version bytes journal.records len

-- a record that may not follow the records, at this place: the first of these cases that holds
abbrev pub MayNotFollow : JournalFault → ℕ → ℕ → List Record → Record → Type 0
MayNotFollow (faults.Sequence at) limit place records entry = (at ≡ place) × (¬ Allows (standing_of records) entry)
MayNotFollow (faults.Repeated at) limit place records (Began order moment) =
    (at ≡ place) × Allows (standing_of records) (Began order moment) × (is_begun order.id records ≡ true)
MayNotFollow (faults.Full at) limit place records (Began order moment) =
    (at ≡ place) × Allows (standing_of records) (Began order moment) × (is_begun order.id records ≡ false)
    × (limit ≤ length (orders_of records))
MayNotFollow _ _ _ _ _ = ⊥

-- why a record isn't taken
abbrev pub IsRecordRefused : JournalFault → ℕ → ℕ → List Record → Record → Type 0
IsRecordRefused faults.NoMemory limit place records entry = ⊤
IsRecordRefused fault limit place records entry = MayNotFollow fault limit place records entry

-- the bytes after the records, at this place, are the fault
abbrev pub IsFault : Version → JournalFault → ℕ → ℕ → List Record → List ℕ → Type 0
IsFault version (faults.Record at) limit place records rest =
    (at ≡ place) × ((entry : Record) → (¬ BeginsWith version rest entry) × (¬ IsCutOf version rest entry))
IsFault version fault limit place records rest =
    (entry : Record) × BeginsWith version rest entry × MayNotFollow fault limit place records entry

-- the bytes have this fault: those before it are a journal
pub record HasFault (limit : ℕ) (bytes : List ℕ) (fault : JournalFault) : Type 0 where
  pub version : Version
  pub of_version : HasVersion version bytes
  pub records : List Record
  pub rest : List ℕ
  pub spelled : bytes ≡ journal_spelling version records ++ rest
  pub kept : AreKept version limit records
  pub behind : IsFault version fault limit (length (journal_spelling version records)) records rest

-- the bytes begin as the header does, and then go on otherwise or end
abbrev pub HasBrokenHeader : List ℕ → Type 0
HasBrokenHeader bytes = ((rest : List ℕ) × (bytes ≡ 0x44 ∷ rest)) × (¬ HasVersion Two bytes)

-- why no journal is loaded from the bytes for at most `limit` orders, if these limits may be
abbrev pub IsLoadFault : (ℕ → Type 0) → ℕ → List ℕ → JournalFault → Type 0
IsLoadFault MayBe limit bytes faults.Limit = ¬ MayBe limit
IsLoadFault MayBe limit bytes faults.NoMemory = MayBe limit
IsLoadFault MayBe limit bytes faults.Header = MayBe limit × HasBrokenHeader bytes
IsLoadFault MayBe limit bytes fault = MayBe limit × HasFault limit bytes fault

-- a journal for at most `limit` orders may be loaded from the bytes
abbrev pub IsLoadableWithin : (ℕ → Type 0) → ℕ → List ℕ → Type 0
IsLoadableWithin MayBe limit bytes =
    MayBe limit × (version : Version) × (records : List Record) × (len : ℕ) × AreKept version limit records
    × IsLoadable version bytes records len

-- Bytes that a journal within the limit is loaded from have no fault, and are the journal of no other records, in no
-- other version.
abbrev pub TornHasNoFault : Type 0
TornHasNoFault =
    (limit : ℕ) (bytes : List ℕ) (version : Version) (records : List Record) (len : ℕ)
    → AreKept version limit records → IsLoadable version bytes records len
    → ((fault : JournalFault) → ¬ HasFault limit bytes fault) × (¬ HasBrokenHeader bytes)
    × ((other : Version) (others : List Record) (count : ℕ)
    → AreKept other limit others → IsLoadable other bytes others count
    → (other ≡ version) × (others ≡ records) × (count ≡ len))

-- Bytes have one fault at most; if their header is broken they have no other.
abbrev pub BytesHaveOneFault : Type 0
BytesHaveOneFault =
    (limit : ℕ) (bytes : List ℕ) (fault : JournalFault) → AllByRecursion (λ byte. byte < 256) bytes
    → HasFault limit bytes fault
    → ((other : JournalFault) → HasFault limit bytes other → fault ≡ other) × (¬ HasBrokenHeader bytes)

-- The bytes of a journal in version 2, and after them a proper front of any record's, are a torn journal of its
-- records.
abbrev pub JournalsLoadAgain : Type 0
JournalsLoadAgain =
    (journal : JournalState) (last : Record) (cut : List ℕ) → IsJournal journal → IsCutOf Two cut last
    → HoldsOrders journal.limit × AreKept Two journal.limit journal.records
    × IsLoadable Two (journal_spelling Two journal.records ++ cut) journal.records
    (length (journal_spelling Two journal.records))

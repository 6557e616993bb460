-- A journal's index entry of each number, and its agreement with the journal's bytes.
use Rattle.std.specs.Prelude.{◌≡◌, ℕ, ◌≤◌, ◌==◌, nat_eq, IsSome, Bool, true, false, List, length, drop}
use Rattle.std.specs.Prelude.{Option, None, Some, ⊤, if◌then◌else◌, All}
use Rattle.std.specs.List.Sorted.{IsNonDecreasingBy}
use Rattle.std.specs.Map.{lookup, keys_of}
use Rattle.dali_bank.specs.Order.{Contents}
use Rattle.dali_journal.specs.declared.record.Code.{Code}
use Rattle.dali_journal.specs.declared.record.Record.{Record}
use Rattle.dali_journal.specs.declared.record.Record.TheVariants.{Began, Opened, Ended, Closed}
use Rattle.dali_journal.specs.declared.standing.Standing.{Standing}
use Rattle.dali_journal.specs.declared.standing.Standing.TheVariants as standings
use Rattle.dali_journal.specs.declared.kept.Kept.{Kept}
use Rattle.dali_journal.specs.declared.kept.Kept.TheVariants as kepts
use Rattle.dali_journal.specs.declared.index.IndexEntry.{IndexEntry}
use Rattle.dali_journal.specs.declared.index.IndexEntry.TheVariants as index_entries
use Rattle.dali_journal.specs.declared.settled.Settled.{Settled}
use Rattle.dali_journal.specs.Settled.{IsUnsettled}
use Rattle.dali_journal.specs.declared.read.Piece.{Piece}
use Rattle.dali_journal.specs.declared.read.Piece.TheVariants.{Whole}
use Rattle.dali_journal.specs.Sentence.{standing_of, HasShortUnit}
use Rattle.dali_journal.specs.Orders.{orders_of, kept_of, moment_of}
use Rattle.dali_journal.specs.declared.version.Version.TheVariants.{Two}
use Rattle.dali_journal.specs.Spelling.{records_spelling, IsRecord}
use Rattle.dali_journal.specs.Reading.{BeginsWith}
use Rattle.dali_journal.specs.JournalState.{IsJournal}

-- a number that isn't in the index isn't begun
abbrev pub index_entry : Option IndexEntry → IndexEntry
index_entry None = index_entries.NotBegun
index_entry (Some known) = known

-- an order was begun
abbrev pub is_begun_at : IndexEntry → Bool
is_begun_at index_entries.NotBegun = false
is_begun_at (index_entries.Begun at) = true
is_begun_at (index_entries.Ended at code) = true

-- a record's bytes are there
abbrev pub IsRecordAt : List ℕ → ℕ → Record → Type 0
IsRecordAt bytes at entry = (at ≤ length bytes) × BeginsWith Two (drop at bytes) entry

-- what the index tells of a number is what the journal has kept of it, and its moment
abbrev pub Agrees : List ℕ → IndexEntry → Kept → Option ℕ → Type 0
Agrees bytes index_entries.NotBegun kept since = (kept ≡ kepts.Absent) × (since ≡ None)
Agrees bytes (index_entries.Begun at) kept since =
    (order : Contents) × (moment : ℕ) × (kept ≡ kepts.Unfinished order) × (since ≡ Some moment)
    × IsRecordAt bytes at (Began order moment)
Agrees bytes (index_entries.Ended at code) kept since =
    (order : Contents) × (moment : ℕ) × (kept ≡ kepts.Ended order code) × (since ≡ Some moment)
    × IsRecordAt bytes at (Began order moment)

-- what an end makes of an order's entry in the index
abbrev pub ended_index_entry : Code → IndexEntry → IndexEntry
ended_index_entry code (index_entries.Begun at) = index_entries.Ended at code
ended_index_entry code index_entries.NotBegun = index_entries.NotBegun
ended_index_entry code (index_entries.Ended at other) = index_entries.Ended at other

-- the order that is at work has this number
abbrev pub works_on : Standing → ℕ → Bool
works_on (standings.Began order) id = order.id == id
works_on (standings.Opened order) id = order.id == id
works_on standings.Idle id = false
works_on (standings.Left unit) id = false

-- the entry of a number in the index after a record that is there
abbrev pub index_entry_after : Standing → Record → ℕ → ℕ → IndexEntry → IndexEntry
index_entry_after standing (Began order moment) at id known = if order.id == id then index_entries.Begun at else known
index_entry_after standing (Ended code) at id known =
    if works_on standing id then ended_index_entry code known else known
index_entry_after standing (Opened unit) at id known = known
index_entry_after standing (Closed unit) at id known = known

-- an order's number is in the index before it begins
abbrev pub EntersNumber : List (ℕ × IndexEntry) → Record → Type 0
EntersNumber index (Began order moment) = IsSome (lookup (nat_eq order.id) index)
EntersNumber index other = ⊤

-- the order that a piece begins, and its moment
abbrev pub order_in : Piece → Option (Contents × ℕ)
order_in (Whole (Began order moment) len) = Some (order, moment)
order_in other = None

-- if the record begins an order, the order's numbers are in range
abbrev pub BeginsInRange : Record → Type 0
BeginsInRange (Began order moment) = IsRecord Two (Began order moment)
BeginsInRange other = ⊤

-- how many orders a record begins
abbrev pub orders_begun : Record → ℕ
orders_begun (Began order moment) = 1
orders_begun (Opened unit) = 0
orders_begun (Ended code) = 0
orders_begun (Closed unit) = 0

-- an order that has ended is kept so, and the index tells nothing of it
pub record IsSettled (bytes : List ℕ) (records : List Record) (index : List (ℕ × IndexEntry)) (one : Settled)
    : Type 0 where
  pub kept : Agrees bytes (index_entries.Ended one.at one.code) (kept_of one.id records) (moment_of one.id records)
  pub apart : index_entry (lookup (nat_eq one.id) index) ≡ index_entries.NotBegun

-- the answer about each number is what is kept of it: of the settled orders, which are in the order of their numbers,
-- by their places in the bytes, and of all others by the index, whose places count from after `front` bytes
pub record IsIndexed (bytes : List ℕ) (records : List Record) (front : ℕ) (settled : List Settled)
    (index : List (ℕ × IndexEntry)) : Type 0 where
  pub within : front ≤ length bytes
  pub past : All (IsSettled bytes records index) settled
  pub sorted : IsNonDecreasingBy (λ one. one.id) settled
  pub known : (id : ℕ) → IsUnsettled id settled
      → Agrees (drop front bytes) (index_entry (lookup (nat_eq id) index)) (kept_of id records) (moment_of id records)

-- what is so of a journal's parts: the bytes are those of the records, and the rest tells of the records
pub record IsSound (bytes : List ℕ) (records : List Record) (standing : Standing)
    (orders limit room index_room front : ℕ) (settled : List Settled) (index : List (ℕ × IndexEntry)) : Type 0 where
  pub spelled : bytes ≡ records_spelling Two records
  pub standing_is : standing ≡ standing_of records
  pub short : HasShortUnit standing
  pub count : orders ≡ length (orders_of records)
  pub journal : IsJournal (record {
    records = records;
    limit = limit;
    room = room;
    numbers = keys_of index;
    index_room = index_room;
  })
  pub indexed : IsIndexed bytes records front settled index

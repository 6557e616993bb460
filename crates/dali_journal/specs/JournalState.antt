-- The view that contracts have of a journal.
use Rattle.std.specs.Prelude.{◌≡◌, ℕ, ◌+◌, ◌<◌, ◌≤◌, nat_eq, true, false, List, length, ⊤}
use Rattle.std.specs.List.{list_any, AllByRecursion}
use Rattle.dali_bank.specs.Order.{Contents}
use Rattle.dali_journal.specs.declared.record.Record.{Record}
use Rattle.dali_journal.specs.declared.record.Record.TheVariants.{Began, Opened, Ended, Closed}
use Rattle.dali_journal.specs.declared.version.Version.{Version}
use Rattle.dali_journal.specs.declared.version.Version.TheVariants.{Two}
use Rattle.dali_journal.specs.declared.standing.Standing.{Standing}
use Rattle.dali_journal.specs.declared.standing.Standing.TheVariants as standings
use Rattle.dali_journal.specs.Sentence.{standing_of, is_begun, IsSentenceWithin}
use Rattle.dali_journal.specs.Orders.{orders_of}
use Rattle.dali_journal.specs.Spelling.{spelling, IsRecord}

-- its records, the newest first; the most orders that it may hold; for how many bytes more it has memory;
-- the numbers in its index, and for how many numbers more that has memory
pub record JournalState : Type 0 where
  pub records : List Record
  pub limit : ℕ
  pub room : ℕ
  pub numbers : List ℕ
  pub index_room : ℕ

-- how many bytes may come before the journal is idle again
abbrev pub bytes_due : Standing → ℕ
bytes_due standings.Idle = 0
bytes_due (standings.Left unit) = 2
bytes_due (standings.Opened order) = 4
bytes_due (standings.Began order) = 6

-- there is memory for a Closed of the left unit, for what else is due, and for all records of the order (its Began,
-- which is as long at any moment, and three of two bytes), and its number is in the index
abbrev pub HasRoom : JournalState → Contents → Type 0
HasRoom journal order =
    (bytes_due (standing_of journal.records) + length (spelling Two (Began order 0)) + 6 ≤ journal.room)
    × (list_any (nat_eq order.id) journal.numbers ≡ true)

-- how many orders were begun
abbrev pub order_count : JournalState → ℕ
order_count journal = length (orders_of journal.records)

-- if the record begins an order, there is room for it, fewer orders than the limit were begun, and its number is new
abbrev pub MayBegin : JournalState → Record → Type 0
MayBegin journal (Began order moment) =
    HasRoom journal order × (order_count journal < journal.limit) × (is_begun order.id journal.records ≡ false)
MayBegin journal (Opened unit) = ⊤
MayBegin journal (Ended code) = ⊤
MayBegin journal (Closed unit) = ⊤

-- a record that ends what has begun takes no order's room
abbrev pub KeepsRoom : Record → JournalState → JournalState → Type 0
KeepsRoom (Began begun moment) old new = ⊤
KeepsRoom other old new = (order : Contents) → HasRoom old order → HasRoom new order

-- a journal may hold an order: so may each
abbrev pub HoldsOrders : ℕ → Type 0
HoldsOrders limit = 1 ≤ limit

-- the limits that a journal alone may have; one after older journals may hold all their orders too
abbrev pub IsLimit : ℕ → Type 0
IsLimit limit = HoldsOrders limit × (limit ≤ 100000)

-- the records of a journal for at most this many orders, as a version may write them
pub record AreKept (version : Version) (limit : ℕ) (records : List Record) : Type 0 where
  pub in_range : AllByRecursion (IsRecord version) records
  pub whole : IsSentenceWithin limit records

-- what is so of every journal, and that there is memory for what is due
pub record IsJournal (journal : JournalState) : Type 0 where
  pub kept : AreKept Two journal.limit journal.records
  pub limited : HoldsOrders journal.limit
  pub due : bytes_due (standing_of journal.records) ≤ journal.room

-- Near the edges of what is promised of a journal's room, and of the first of its faults.
use Rattle.std.proofs.Common.{ℕ, ◌+◌, ◌<◌, [], arith, length}
use Rattle.dali_bank.specs.Order.{Contents}
use Rattle.dali_journal.specs.declared.fault.JournalFault.TheVariants as faults
use Rattle.dali_journal.specs.declared.record.Code.{Code}
use Rattle.dali_journal.specs.declared.record.Record.TheVariants.{Began, Opened, Ended, Closed}
use Rattle.dali_journal.specs.declared.version.Version.TheVariants.{Two}
use Rattle.dali_journal.specs.Faults.{IsNewFault}
use Rattle.dali_journal.specs.JournalState.{HoldsOrders, JournalState, HasRoom, KeepsRoom, IsLimit}
use Rattle.dali_journal.specs.Loading.{IsLoadFault}
use Rattle.dali_journal.specs.Spelling.{spelling}

-- a journal with less room than an order wants
abbrev IsTight : JournalState → Contents → Type 0
IsTight journal order = journal.room < length (spelling Two (Began order 0)) + 6

tight_has_none : (journal : JournalState) (order : Contents) → IsTight journal order → HasRoom journal order → ⊥
tight_has_none journal order tight room = let least = room.0 in omega (arith, least, tight)

-- a record that opens, ends or closes takes no order's room
pub not_taken_by_opening : (unit : ℕ) (old new : JournalState) (order : Contents) → HasRoom old order
    → IsTight new order → KeepsRoom (Opened unit) old new → ⊥
not_taken_by_opening unit old new order has tight keeps = tight_has_none new order tight (keeps order has)

pub not_taken_by_ending : (code : Code) (old new : JournalState) (order : Contents) → HasRoom old order
    → IsTight new order → KeepsRoom (Ended code) old new → ⊥
not_taken_by_ending code old new order has tight keeps = tight_has_none new order tight (keeps order has)

pub not_taken_by_closing : (unit : ℕ) (old new : JournalState) (order : Contents) → HasRoom old order
    → IsTight new order → KeepsRoom (Closed unit) old new → ⊥
not_taken_by_closing unit old new order has tight keeps = tight_has_none new order tight (keeps order has)

-- one that begins an order may take it
pub taken_by_beginning : (begun : Contents) (moment : ℕ) (old new : JournalState)
    → KeepsRoom (Began begun moment) old new
taken_by_beginning begun moment old new = tt

-- the limit is judged first: out of range it is the fault, and there is no want of memory
none_within : IsLimit 0 → ⊥
none_within limit = omega (arith, limit.0)

past_the_most : IsLimit 100001 → ⊥
past_the_most limit = omega (arith, limit.1)

pub limit_is_the_fault : IsLoadFault IsLimit 0 [] faults.Limit × IsLoadFault IsLimit 100001 [] faults.Limit
limit_is_the_fault = (none_within, past_the_most)

pub no_want_of_memory :
    (IsLoadFault IsLimit 0 [] faults.NoMemory → ⊥) × (IsLoadFault IsLimit 100001 [] faults.NoMemory → ⊥)
no_want_of_memory = (none_within, past_the_most)

pub no_want_of_memory_for_a_new_one : (IsNewFault 0 faults.NoMemory → ⊥) × (IsNewFault 100001 faults.NoMemory → ⊥)
no_want_of_memory_for_a_new_one = (none_within, past_the_most)

pub memory_may_be_wanted_within :
    IsLoadFault IsLimit 1 [] faults.NoMemory × IsLoadFault IsLimit 100000 [] faults.NoMemory
memory_may_be_wanted_within = ((omega arith, omega arith), (omega arith, omega arith))

-- after older journals a journal may hold their orders too, but at least one order
pub more_behind_older : HoldsOrders 100001 × (HoldsOrders 0 → ⊥)
more_behind_older = (omega arith, λ none. omega (arith, none))

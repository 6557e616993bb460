-- When an input that a command read is a journal, and why it is none.
use Rattle.std.specs.Prelude.{◌<◌, ◌≤◌, ℕ, List, length}
use Rattle.dali_journal.specs.declared.version.Version.{Version}
use Rattle.dali_journal.specs.JournalState.{JournalState, HoldsOrders}
use Rattle.dali_journal.specs.Loading.{IsLoaded, IsLoadFault}
use Rattle.dali_input.specs.declared.fault.InputFault.TheVariants.{TooBig}
use Rattle.dali_input.specs.declared.command_fault.Fault.{Fault}
use Rattle.dali_input.specs.declared.command_fault.Fault.TheVariants.{Input, Journal}

-- the most bytes of a journal, and the most orders
abbrev pub journal_limit : ℕ
journal_limit = 33554432

abbrev pub order_limit : ℕ
order_limit = 100000

-- the input is that journal, of which this many bytes count, in this version
abbrev pub IsJournalIn : List ℕ → JournalState → ℕ → Version → Type 0
IsJournalIn input journal counted version =
    (length input ≤ journal_limit) × IsLoaded order_limit input journal counted version

-- why an input is no journal; want of memory may come at any
abbrev pub IsUnloaded : List ℕ → Fault → Type 0
IsUnloaded input (Input TooBig) = journal_limit < length input
IsUnloaded input (Journal fault) = (length input ≤ journal_limit) × IsLoadFault HoldsOrders order_limit input fault
IsUnloaded input other = ⊥

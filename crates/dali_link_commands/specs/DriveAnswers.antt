-- The fault that `drive` reports if its journal isn't opened.
use Rattle.dali_journal.specs.declared.fault.JournalFault.TheVariants as journals
use Rattle.dali_input.specs.declared.fault.InputFault.TheVariants.{Memory, File, TooBig}
use Rattle.dali_store.specs.declared.opening.OpenFault.{OpenFault}
use Rattle.dali_store.specs.declared.opening.OpenFault.TheVariants as unopened
use Rattle.dali_store.specs.declared.store.StoreFault.TheVariants as stores
use Rattle.dali_input.specs.declared.command_fault.Fault.{Fault}
use Rattle.dali_input.specs.declared.command_fault.Fault.TheVariants.{Input, Journal}
use Rattle.dali_link_commands.specs.Older.{fault_unjoined}

-- the fault of a journal that isn't opened
abbrev pub fault_unopened : OpenFault → Fault
fault_unopened (unopened.Journal journals.NoMemory) = Input Memory
fault_unopened (unopened.Journal fault) = Journal fault
fault_unopened (unopened.Store stores.TooBig) = Input TooBig
fault_unopened (unopened.Store stores.NoMemory) = Input Memory
fault_unopened (unopened.Store stores.Failed) = Input File
fault_unopened (unopened.Join fault) = fault_unjoined fault

-- The faults of the program, how they are reported, and how the program ends.
use Rattle.std.specs.Prelude.{◌≡◌, ℕ, List, codes}
use Rattle.dali_gear.specs.declared.fault.GearFault.TheVariants.{SameAddress}
use Rattle.dali_gear.specs.Faults as gear
use Rattle.dali_journal.specs.declared.fault.JournalFault.{JournalFault}
use Rattle.dali_journal.specs.declared.fault.JournalFault.TheVariants as journals
use Rattle.dali_journal.specs.Faults as journal
use Rattle.dali_trace.specs.declared.fault.RunFault.TheVariants as runs
use Rattle.dali_trace.specs.declared.fault.DriveFault.{DriveFault}
use Rattle.dali_trace.specs.declared.fault.DriveFault.TheVariants as drives
use Rattle.dali_trace.specs.Faults.{run_number, run_name, drive_number, drive_name}
use Rattle.dali_text.specs.FaultLines as lines
use Rattle.dali_input.specs.declared.fault.InputFault.{InputFault}
use Rattle.dali_input.specs.declared.fault.InputFault.TheVariants.{Json, Document, TooBig, Hex, Memory, File}
use Rattle.dali_input.specs.declared.item.ItemFault.{ItemFault}
use Rattle.dali_input.specs.Faults.{number_of, name_of, item_number_of, item_name_of}
use Rattle.dali_input.specs.Input.{InputState, IsReadFailure}
use Rattle.dali_input.specs.declared.command_fault.Fault.{Fault}
use Rattle.dali_input.specs.declared.command_fault.Fault.TheVariants.{Input, Unit, Order, Run, Journal, Drive, Older}
use Rattle.dali_input.specs.declared.command_fault.Fault.TheVariants as faults
use Rattle.dali_input.specs.declared.command_fault.Status.{Status}
use Rattle.dali_input.specs.declared.command_fault.Status.TheVariants.{Good, Refused, Failed, Unwritten}

-- the exit status
abbrev pub exit_code : Status → ℕ
exit_code Good = 0
exit_code Refused = 1
exit_code Failed = 2
exit_code Unwritten = 2

-- ---- how the program ends at a fault

abbrev pub input_status : InputFault → Status
input_status Json = Refused
input_status Document = Refused
input_status TooBig = Refused
input_status Hex = Refused
input_status Memory = Failed
input_status File = Failed

-- if the replies can't be written, nothing can be reported
abbrev pub drive_status : DriveFault → Status
drive_status drives.Journal = Failed
drive_status drives.Link = Failed
drive_status (drives.Line fault) = Refused
drive_status drives.End = Refused
drive_status drives.NoMemory = Failed
drive_status drives.TooLong = Refused
drive_status drives.Out = Unwritten

abbrev pub status_of : Fault → Status
status_of (Input fault) = input_status fault
status_of (Unit number fault) = Refused
status_of faults.SameAddress = Refused
status_of (Order number fault) = Refused
status_of (Run runs.Limit) = Refused
status_of (Run runs.NoMemory) = Failed
status_of (Journal journals.NoMemory) = Failed
status_of (Journal other) = Refused
status_of (Drive fault) = drive_status fault
status_of Older = Refused

-- ---- a fault's line

abbrev pub input_line : InputFault → List ℕ
input_line fault = lines.fault_line (number_of fault) (name_of fault)

-- a refused item of a list of orders, counted from 1
abbrev pub item_line : ℕ → ItemFault → List ℕ
item_line number fault = lines.counted_line (codes "item") number (item_number_of fault) (item_name_of fault)

-- a fault of a journal as a whole
abbrev pub whole_line : JournalFault → List ℕ
whole_line fault = lines.single_line (codes "journal") (journal.number_of fault) (journal.name_of fault)

-- a fault of a journal that has the place of a record
abbrev pub place_line : JournalFault → ℕ → List ℕ
place_line fault place = lines.placed_line (codes "journal") (journal.number_of fault) (journal.name_of fault) place

abbrev pub journal_line : JournalFault → List ℕ
journal_line journals.Limit = whole_line journals.Limit
journal_line journals.NoMemory = input_line Memory
journal_line journals.Header = whole_line journals.Header
journal_line (journals.Record place) = place_line (journals.Record place) place
journal_line (journals.Sequence place) = place_line (journals.Sequence place) place
journal_line (journals.Repeated place) = place_line (journals.Repeated place) place
journal_line (journals.Full place) = place_line (journals.Full place) place

abbrev pub drive_line : DriveFault → List ℕ
drive_line drives.NoMemory = input_line Memory
drive_line fault = lines.single_line (codes "drive") (drive_number fault) (drive_name fault)

abbrev pub told_line : Fault → List ℕ
told_line (Input fault) = input_line fault
told_line (Unit number fault) = lines.counted_line (codes "unit") number (gear.number_of fault) (gear.name_of fault)
told_line faults.SameAddress = lines.single_line (codes "gear") (gear.number_of SameAddress) (gear.name_of SameAddress)
told_line (Order number fault) =
    lines.counted_line (codes "event") number (item_number_of fault) (item_name_of fault)
told_line (Run runs.Limit) = lines.single_line (codes "run") (run_number runs.Limit) (run_name runs.Limit)
told_line (Run runs.NoMemory) = input_line Memory
told_line (Journal fault) = journal_line fault
told_line (Drive fault) = drive_line fault
told_line Older = codes "fault 15 Older\n"

-- ---- a command that gave up

-- the status and the text of a command that gave up at the fault: its line alone
pub record IsRefusal (fault : Fault) (status : Status) (text : List ℕ) : Type 0 where
  pub status_is : status ≡ status_of fault
  pub text_is : text ≡ told_line fault

-- the reader or the memory failed, which may come at any time
abbrev pub IsFailure : InputState → InputState → Status → List ℕ → Type 0
IsFailure before after status text =
    (fault : InputFault) × IsReadFailure before after fault × IsRefusal (Input fault) status text

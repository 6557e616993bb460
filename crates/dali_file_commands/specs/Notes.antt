-- The notes for a person that go with what a command writes: on each item and each fault, by the number that is written
-- there too.
use Rattle.std.specs.Prelude.{◌≡◌, ◌⊎◌, ℕ, List, [], Option, Ok, Err, codes}
use Rattle.dali_file_commands.specs.NoteLines.{SomeAbout, SomeLines}
use Rattle.dali_input.specs.declared.fault.InputFault.{InputFault}
use Rattle.dali_input.specs.declared.fault.InputFault.TheVariants.{Json, Document, TooBig, Hex, Memory, File}
use Rattle.dali_input.specs.Orders.{Outcome}
use Rattle.dali_journal.specs.JournalState.{JournalState}
use Rattle.dali_journal.specs.declared.fault.JournalFault.{JournalFault}
use Rattle.dali_journal.specs.declared.fault.JournalFault.TheVariants as journals
use Rattle.dali_trace.specs.declared.fault.RunFault.TheVariants.{Limit, NoMemory}
use Rattle.dali_input.specs.declared.command_fault.Fault.{Fault}
use Rattle.dali_input.specs.declared.command_fault.Fault.TheVariants.{Input, Unit, SameAddress, Order, Run, Journal, Drive, Older}
use Rattle.dali_input.specs.declared.command_fault.Status.{Status}
use Rattle.dali_input.specs.declared.command_fault.Status.TheVariants.{Good}
use Rattle.dali_file_commands.specs.declared.file_command.FileCommand.{FileCommand}
use Rattle.dali_file_commands.specs.declared.file_command.FileCommand.TheVariants as commands
use Rattle.dali_input.specs.CommandFaults.{told_line}
use Rattle.dali_file_commands.specs.Known.{asked}
use Rattle.dali_file_commands.specs.Report.{AreEach, IsReportText}

-- of a refused item, lines with its number; of an accepted one none, or lines with its number too
abbrev pub IsItemNote : ℕ → Outcome → List ℕ → Type 0
IsItemNote number (Ok order) note = (note ≡ []) ⊎ SomeAbout (codes "item") number note
IsItemNote number (Err fault) note = SomeAbout (codes "item") number note

-- of each item, counted from a number on
abbrev pub AreItemNotes : ℕ → List Outcome → List ℕ → Type 0
AreItemNotes number outcomes note = AreEach IsItemNote number outcomes note

-- of a fault of a whole input: of what it says or how long it is, lines; of want of memory and of a failed reader, none
abbrev pub IsInputNote : InputFault → List ℕ → Type 0
IsInputNote Json note = SomeLines [] note
IsInputNote Document note = SomeLines [] note
IsInputNote TooBig note = SomeLines [] note
IsInputNote Hex note = SomeLines [] note
IsInputNote Memory note = note ≡ []
IsInputNote File note = note ≡ []

-- of why an input is no journal, lines; of want of memory, none
abbrev pub IsJournalNote : JournalFault → List ℕ → Type 0
IsJournalNote journals.Limit note = SomeLines [] note
IsJournalNote journals.NoMemory note = note ≡ []
IsJournalNote (journals.Record place) note = SomeLines [] note
IsJournalNote (journals.Sequence place) note = SomeLines [] note
IsJournalNote (journals.Repeated place) note = SomeLines [] note
IsJournalNote (journals.Full place) note = SomeLines [] note
IsJournalNote journals.Header note = SomeLines [] note

-- of a fault that a command gave up at, the same for the same line: of a unit or an order of a scenario, lines with the
-- number that its line has too; of two units at one address and of the limit, lines
abbrev pub IsFaultNote : Fault → List ℕ → Type 0
IsFaultNote (Input fault) note = IsInputNote fault note
IsFaultNote (Unit number fault) note = SomeAbout (codes "unit") number note
IsFaultNote (Order number fault) note = SomeAbout (codes "event") number note
IsFaultNote SameAddress note = SomeLines [] note
IsFaultNote (Run Limit) note = SomeLines [] note
IsFaultNote (Run NoMemory) note = note ≡ []
IsFaultNote (Journal fault) note = IsJournalNote fault note
IsFaultNote (Drive fault) note = note ≡ []
IsFaultNote Older note = note ≡ []

-- a command wrote a fault's line alone, and this note is of that fault
abbrev pub IsNotedFault : List ℕ → List ℕ → Type 0
IsNotedFault text note = (fault : Fault) × (text ≡ told_line fault) × IsFaultNote fault note

-- what `check` wrote, and the note beside it
abbrev pub IsNotedCheck : Option JournalState → List ℕ → List ℕ → Type 0
IsNotedCheck journal text note =
    ((outcomes : List Outcome) × IsReportText journal outcomes text × AreItemNotes 1 outcomes note)
    ⊎ IsNotedFault text note

-- how another command ended and what it wrote, and the note beside it: none if it ended well
abbrev pub IsNotedAnswer : Status → List ℕ → List ℕ → Type 0
IsNotedAnswer status text note = ((status ≡ Good) × (note ≡ [])) ⊎ IsNotedFault text note

-- the note of a command over a file
abbrev pub IsNoted : FileCommand → Status → List ℕ → List ℕ → Type 0
IsNoted (commands.Check journal) status text note = IsNotedCheck (asked journal) text note
IsNoted (commands.Run single_frames) status text note = IsNotedAnswer status text note
IsNoted commands.Show status text note = IsNotedAnswer status text note
IsNoted (commands.Journal with_updates) status text note = IsNotedAnswer status text note

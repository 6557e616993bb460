-- How refused items and faults are reported after a command's lines.
use Rattle.std.specs.Prelude.{◌≡◌, ◌≢◌, ◌⊎◌, ◌++◌, ℕ, Bool, true, false, List, Option, codes}
use Rattle.std.specs.List.{AllByRecursion, flat_map}
use Rattle.std.specs.Io.KnownBytes.{Appends}
use Rattle.dali_bank.specs.Spelling.{IsTextByte}
use Rattle.dali_input.specs.declared.fault.InputFault.TheVariants.{Memory, File}
use Rattle.dali_input.specs.declared.item.ItemFault.{ItemFault}
use Rattle.dali_trace.specs.declared.fault.DriveFault.{DriveFault}
use Rattle.dali_trace.specs.declared.fault.DriveFault.TheVariants.{Journal, Link, Out}
use Rattle.dali_drive.specs.Streams.{PutsFirst}
use Rattle.dali_input.specs.declared.command_fault.Fault.{Fault}
use Rattle.dali_input.specs.declared.command_fault.Fault.TheVariants.{Input, Drive, Older}
use Rattle.dali_input.specs.declared.command_fault.Status.{Status}
use Rattle.dali_input.specs.declared.command_fault.Status.TheVariants.{Unwritten}
use Rattle.dali_input.specs.CommandFaults.{item_line, told_line, status_of}

-- the lines of the refused items
abbrev pub refused_lines : List (ℕ × ItemFault) → List ℕ
refused_lines refused = flat_map (λ item. item_line item.0 item.1) refused

-- words of characters of 20h to 7Eh alone, none of which ends a line
abbrev pub IsPlain : List ℕ → Type 0
IsPlain words = AllByRecursion IsTextByte words

-- a line in words for a person
abbrev pub error_line : List ℕ → List ℕ
error_line words = codes "error: " ++ words ++ codes "\n"

-- a line was written whole and the command ends so, or the output failed and holds a first part of it
abbrev pub TellsLine : List ℕ → Status → Status → Option (List ℕ) → Option (List ℕ) → Type 0
TellsLine line good status before after =
    ((status ≡ good) × Appends before after line) ⊎ ((status ≡ Unwritten) × PutsFirst before after line)

-- the fault is that the replies can't be written
abbrev pub is_out : DriveFault → Bool
is_out Out = true
is_out fault = false

-- there is a line in words before that of the fault: a file, an older journal or the memory failed, or the journal or
-- the link of a drive
abbrev pub is_worded : Fault → Bool
is_worded (Input Memory) = true
is_worded (Input File) = true
is_worded Older = true
is_worded (Drive Journal) = true
is_worded (Drive Link) = true
is_worded fault = false

-- the text of a fault, which has words or not: its line, with a line in plain words before it or not
abbrev pub IsTextOf : Bool → Fault → List ℕ → Type 0
IsTextOf true fault text = (words : List ℕ) × IsPlain words × (text ≡ error_line words ++ told_line fault)
IsTextOf false fault text = text ≡ told_line fault

abbrev pub IsFaultText : Fault → List ℕ → Type 0
IsFaultText fault text = IsTextOf (is_worded fault) fault text

-- This text was written for a fault, after what there was, or the output failed. If it failed at a fault of a drive, a
-- first part of the text follows the replies; and if the replies can't be written, nothing does.
abbrev pub TellsText : Fault → List ℕ → Status → Option (List ℕ) → Option (List ℕ) → Type 0
TellsText (Drive Out) text status before after = (status ≡ Unwritten) × (after ≡ before)
TellsText (Drive fault) text status before after = TellsLine text (status_of (Drive fault)) status before after
TellsText fault text status before after =
    status ≢ Unwritten → (status ≡ status_of fault) × Appends before after text

-- how a fault is reported
abbrev pub IsFaultTold : Fault → Status → Option (List ℕ) → Option (List ℕ) → Type 0
IsFaultTold fault status before after =
    (text : List ℕ) × IsFaultText fault text × TellsText fault text status before after

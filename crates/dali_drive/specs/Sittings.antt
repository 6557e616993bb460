-- The events of a drive over a store, and what it left there, by the contract of the call and nothing else.
use Rattle.std.specs.Prelude.{◌≡◌, ◌⊎◌, ◌↔◌, ◌++◌, ℕ, List, ◌∷◌, Option, Some}
use Rattle.dali_bank.specs.Order.{Contents}
use Rattle.dali_frame.specs.declared.forward.Frame.{Frame}
use Rattle.dali_journal.specs.declared.record.Record.{Record}
use Rattle.dali_journal.specs.declared.version.Version.TheVariants.{Two}
use Rattle.dali_journal.specs.Spelling.{spelling, journal_spelling}
use Rattle.dali_trace.specs.declared.happening.Reply.{Reply}
use Rattle.dali_trace.specs.declared.happening.Happening.{Happening}
use Rattle.dali_trace.specs.declared.happening.Happening.TheVariants.{Answered, Sent, Kept}
use Rattle.dali_trace.specs.Trace.{Start, records_of}
use Rattle.dali_trace.specs.Legal.{IsFinished}
use Rattle.dali_trace.specs.Next.{IsNext}
use Rattle.dali_engine.specs.WriterState.{WriterState, start_by}
use Rattle.dali_laws.specs.Joined.{Sitting}
use Rattle.dali_store.specs.Stores.{IsBetween}
use Rattle.dali_trace.specs.declared.fault.DriveFault.{DriveFault}
use Rattle.dali_trace.specs.declared.fault.DriveFault.TheVariants.{Journal, NoMemory, Out}
use Rattle.dali_drive.specs.Transcript.{Streams}
use Rattle.dali_drive.specs.Driven.{IsDrive, IsBrokenDrive}
use Rattle.dali_drive.specs.Stored.{IsBegun}
use Rattle.dali_write.specs.declared.pace.Pace.{Pace}

-- the step after this trace that the fault broke off, if it was done all the same: a record, a reply, or a frame with
-- whatever answer
abbrev pub IsBrokenStep : Start → List Happening → DriveFault → Happening → Type 0
IsBrokenStep start trace Journal next = (entry : Record) × (next ≡ Kept entry) × IsNext start trace next
IsBrokenStep start trace NoMemory next = ⊥
IsBrokenStep start trace Out next =
    (id : ℕ) × (reply : Reply) × (next ≡ Answered id reply) × IsNext start trace next
IsBrokenStep start trace other next =
    (frame : Frame) × (answer : Option ℕ) × (next ≡ Sent frame answer) × IsNext start trace next

-- The traces that may have happened if a drive broke off: the trace up to there, or that and the step that was broken
-- off.
abbrev pub MayHaveHappened : Start → List Happening → DriveFault → List Happening → Type 0
MayHaveHappened start trace fault past =
    (past ≡ trace) ⊎ ((next : Happening) × IsBrokenStep start trace fault next × (past ≡ next ∷ trace))

-- A record that was next counts as kept exactly when it is whole after those that were kept before.
abbrev pub KeptWhereWhole : Start → List Happening → List Happening → List ℕ → Type 0
KeptWhereWhole start trace past left =
    (entry : Record) → IsNext start trace (Kept entry)
    → (past ≡ Kept entry ∷ trace) ↔ (left ≡ journal_spelling Two (records_of start trace) ++ spelling Two entry)

-- From a store that showed these bytes a drive completed: its trace happened, and is what the store then shows.
pub record CameToItsEnd (limit most : ℕ) (found : List ℕ) (sitting : Sitting) (left : List ℕ) : Type 0 where
  pub pace : Pace
  pub orders : List (Contents × ℕ)
  pub first : Streams
  pub writer : WriterState
  pub last : Streams
  pub is_found : first.journal ≡ Some found
  pub begun : IsBegun limit most first
  pub drive : IsDrive (start_by pace begun.journal) orders (record first { journal = begun.middle }) writer last
  pub is_left : last.journal ≡ Some left
  pub is : sitting ≡ record { start = start_by pace begun.journal; past = drive.past }

-- From a store that showed these bytes a drive broke off: all that may have happened did so or did not, and this is
-- left of what was put last.
pub record BrokeOff (limit most : ℕ) (found : List ℕ) (sitting : Sitting) (left : List ℕ) : Type 0 where
  pub pace : Pace
  pub orders : List (Contents × ℕ)
  pub fault : DriveFault
  pub first : Streams
  pub last : Streams
  pub is_found : first.journal ≡ Some found
  pub begun : IsBegun limit most first
  pub drive : IsBrokenDrive (start_by pace begun.journal) orders fault (record first { journal = begun.middle }) last
  pub is_left : IsBetween drive.middle.journal last.journal left
  pub past : List Happening
  pub happened : MayHaveHappened (start_by pace begun.journal) drive.past fault past
  pub finished : IsFinished past
  pub counts : KeptWhereWhole (start_by pace begun.journal) drive.past past left
  pub is : sitting ≡ record { start = start_by pace begun.journal; past = past }

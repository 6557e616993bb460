-- An observer's view of a drive: all of its trace, and how an answer broke it off.
use Rattle.std.specs.Prelude.{ℕ, List, Option}
use Rattle.dali_frame.specs.declared.forward.Frame.{Frame}
use Rattle.dali_bank.specs.Order.{Contents}
use Rattle.dali_trace.specs.declared.happening.Happening.{Happening}
use Rattle.dali_trace.specs.Trace.{Start}
use Rattle.dali_engine.specs.WriterState.{WriterState}
use Rattle.dali_trace.specs.declared.fault.DriveFault.{DriveFault}
use Rattle.dali_trace.specs.declared.fault.DriveFault.TheVariants.{Journal, NoMemory, Out}
use Rattle.dali_drive.specs.Lines.{TakesText}
use Rattle.dali_drive.specs.Transcript.{Streams}
use Rattle.dali_drive.specs.Driven.{IsDrive, BreaksOff, IsNextFrame}

-- the exchange of the frame that was next was broken off, and the observer has seen what was read of its answer
pub record IsToldAnswer (told_end : List Happening → DriveFault → Frame → List ℕ → Type 0) (start : Start)
    (past : List Happening) (fault : DriveFault) (old new : Option (List ℕ)) : Type 0 where
  pub frame : Frame
  pub text : List ℕ
  pub next : IsNextFrame start past frame
  pub taken : TakesText fault text old new
  pub told : told_end past fault frame text

-- what the observer has seen if this fault broke the drive off after the trace
abbrev pub IsToldEnd : (List Happening → Type 0) → (List Happening → DriveFault → Frame → List ℕ → Type 0) → Start
    → List Happening → DriveFault → Option (List ℕ) → Option (List ℕ) → Type 0
IsToldEnd told told_end start past Journal old new = told past
IsToldEnd told told_end start past NoMemory old new = told past
IsToldEnd told told_end start past Out old new = told past
IsToldEnd told told_end start past fault old new = IsToldAnswer told_end start past fault old new

-- a drive, and its observer has seen its trace
pub record IsObserved {B : Type 0} (told : Start → B → B → List Happening → Type 0) (start : Start)
    (orders : List (Contents × ℕ)) (first : Streams) (before : B) (writer : WriterState) (last : Streams)
    (after : B) : Type 0 where
  pub drive : IsDrive start orders first writer last
  pub told_all : told start before after drive.past

-- a drive that a fault broke off, and its observer has seen the trace before that, and of an exchange that was broken
-- off what was read of its answer
pub record IsObservedBreak {B : Type 0} (told : Start → B → B → List Happening → Type 0)
    (told_end : Start → B → B → List Happening → DriveFault → Frame → List ℕ → Type 0) (start : Start)
    (orders : List (Contents × ℕ)) (fault : DriveFault) (first : Streams) (before : B) (last : Streams)
    (after : B) (may_leave : List ℕ → Type 0) : Type 0 where
  pub breaks : BreaksOff start orders fault first last may_leave
  pub told_all : IsToldEnd (told start before after) (told_end start before after) start breaks.drive.past fault
      breaks.drive.middle.answers last.answers

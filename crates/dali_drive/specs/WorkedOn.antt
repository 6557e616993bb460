-- The progress of a drive in its midst.
use Rattle.std.specs.Prelude.{◌≡◌, ◌++◌, ℕ, List, [], Result, Ok, Err, false, length, reverse}
use Rattle.std.specs.Io.KnownBytes.{Appends}
use Rattle.dali_frame.specs.declared.forward.Frame.{Frame}
use Rattle.dali_bank.specs.Order.{Contents}
use Rattle.dali_trace.specs.declared.happening.Happening.{Happening}
use Rattle.dali_trace.specs.declared.fault.DriveFault.{DriveFault}
use Rattle.dali_trace.specs.declared.fault.DriveFault.TheVariants.{NoMemory}
use Rattle.dali_trace.specs.Trace.{Start, is_busy}
use Rattle.dali_engine.specs.WriterState.{WriterState, IsAtRest}
use Rattle.dali_engine.specs.Describes.{Describes}
use Rattle.dali_engine.specs.Follows.{Follows}
use Rattle.dali_drive.specs.Desks.{Look, IsAhead}
use Rattle.dali_drive.specs.Transcript.{Streams, said_lines}
use Rattle.dali_drive.specs.Driven.{IsDriven, BrokenOff, LeavesBetween, orders_asked}
use Rattle.dali_drive.specs.Observed.{IsToldEnd}

-- a writer at rest, at a desk of which no stream has failed, and all that was kept is durable
abbrev pub IsReady : WriterState → Look → Type 0
IsReady writer look = IsAtRest writer × IsAhead look

-- a writer at rest that has nothing to do, whatever trace describes it
abbrev pub IsDone : WriterState → Type 0
IsDone writer =
    IsAtRest writer
    × ((start : Start) (past : List Happening) → Describes start past writer → is_busy start past ≡ false)

-- this trace was driven, and describes the writer
pub record IsDrivenAt (start : Start) (past : List Happening) (writer : WriterState) (first last : Streams)
    : Type 0 where
  pub driven : IsDriven start past first last
  pub described : Describes start past writer
  pub follows : Follows start past writer

-- more happened after this trace, in which exactly these orders were asked and these lines were said; and the observer
-- has seen the whole
pub record HasWorked (start : Start) (past : List Happening) (orders : List (Contents × ℕ)) (first : Streams)
    (writer : WriterState) (middle last : Streams) (told : List Happening → Type 0) : Type 0 where
  pub more : List Happening
  pub driven_at : IsDrivenAt start (more ++ past) writer first last
  pub asked : reverse (orders_asked more) ≡ orders
  pub said : Appends middle.out last.out (said_lines more)
  pub told_all : told (more ++ past)

-- which orders were read and not asked when a step is broken off: the newest one if it found no memory, else none
abbrev pub AreUnasked : DriveFault → List (Contents × ℕ) → Type 0
AreUnasked NoMemory unasked = length unasked ≡ 1
AreUnasked fault unasked = unasked ≡ []

-- more happened after this trace, in which the first of these orders were asked and these lines were said, and then a
-- step was broken off; a stop may leave this; and the observer has seen this of it
pub record HasBroken (start : Start) (past : List Happening) (orders : List (Contents × ℕ)) (first : Streams)
    (fault : DriveFault) (middle last : Streams) (may_leave : List ℕ → Type 0) (told : List Happening → Type 0)
    (told_end : List Happening → DriveFault → Frame → List ℕ → Type 0) : Type 0 where
  pub more : List Happening
  pub unasked : List (Contents × ℕ)
  pub ahead : AreUnasked fault unasked
  pub then : Streams
  pub driven : IsDriven start (more ++ past) first then
  pub asked : reverse (orders_asked more) ++ unasked ≡ orders
  pub said : Appends middle.out then.out (said_lines more)
  pub broken : (rest : List (Contents × ℕ)) → BrokenOff start (more ++ past) (unasked ++ rest) fault then last
  pub left : LeavesBetween then.journal last.journal may_leave
  pub told_all : IsToldEnd told told_end start (more ++ past) fault then.answers last.answers

-- work after a trace, from one look at the desk to another, in which exactly these orders were asked; or as far as the
-- step that was broken off
abbrev pub WorkedOn : {A : Type 0} → Start → List Happening → List (Contents × ℕ) → Streams → Result A DriveFault
    → WriterState → Look → Look → (List Happening → Type 0)
    → (List Happening → DriveFault → Frame → List ℕ → Type 0) → Type 0
WorkedOn start past orders first (Ok done) writer old new told told_end =
    HasWorked start past orders first writer old.streams new.streams told
WorkedOn start past orders first (Err fault) writer old new told told_end =
    HasBroken start past orders first fault old.streams new.streams new.may_leave told told_end

-- Orders that come one after another, each carried out before the next is read, and the lines that are written for what
-- is refused. Steps, as happenings, are listed newest first, and so is what was given.
use Rattle.std.specs.Prelude.{◌≡◌, ◌⊎◌, ◌++◌, ◌-◌, ◌^◌, ℕ, List, [], ◌∷◌, Option, Some, None, Result, Ok, Err}
use Rattle.std.specs.Prelude.{length, map, reverse, false}
use Rattle.std.specs.Io.KnownBytes.{Appends, Keeps}
use Rattle.arrayvec.specs.ArrayVec.{ArrayVec}
use Rattle.dali_frame.specs.declared.forward.Frame.{Frame}
use Rattle.dali_bank.specs.Order.{Contents}
use Rattle.dali_trace.specs.declared.happening.Happening.{Happening}
use Rattle.dali_trace.specs.declared.happening.Happening.TheVariants.{Asked, Answered}
use Rattle.dali_trace.specs.Replies.{reply_line}
use Rattle.dali_trace.specs.Trace.{Start, is_busy}
use Rattle.dali_engine.specs.WriterState.{WriterState}
use Rattle.dali_trace.specs.declared.fault.DriveFault.{DriveFault}
use Rattle.dali_trace.specs.declared.fault.DriveFault.TheVariants.{Out}
use Rattle.dali_drive.specs.declared.following.Given.{Given}
use Rattle.dali_drive.specs.declared.following.Given.TheVariants as gives
use Rattle.dali_drive.specs.Desks.{Look}
use Rattle.dali_drive.specs.Transcript.{Streams}
use Rattle.dali_drive.specs.Driven.{IsDriven, BrokenOff, AppendsPart, LeavesBetween}
use Rattle.dali_drive.specs.WorkedOn.{AreUnasked, IsDrivenAt}
use Rattle.dali_drive.specs.Observed.{IsToldEnd}

-- A step that was done: something happened, or a line was written for what is refused.
pub data Step : Type 0 where
  Happened : Happening → Step
  Told : ArrayVec ℕ → Step

-- what happened
abbrev pub happenings : List Step → List Happening
happenings [] = []
happenings (Happened next ∷ steps) = next ∷ happenings steps
happenings (Told line ∷ steps) = happenings steps

-- the text written for one step, and for all: the lines of the replies and the sayings, and those for what is refused
abbrev pub step_line : Step → List ℕ
step_line (Happened (Answered id reply)) = reply_line id reply
step_line (Happened other) = []
step_line (Told line) = line.items

abbrev pub told_lines : List Step → List ℕ
told_lines [] = []
told_lines (step ∷ steps) = told_lines steps ++ step_line step

-- what was given: the orders that were asked, each with its moment, and the lines
abbrev pub given_in : List Step → List Given
given_in [] = []
given_in (Happened (Asked order moment) ∷ steps) = gives.Order order moment ∷ given_in steps
given_in (Happened other ∷ steps) = given_in steps
given_in (Told line ∷ steps) = gives.Line line ∷ given_in steps

-- the orders that were given, each with its moment
abbrev pub submitted : List Given → List (Contents × ℕ)
submitted [] = []
submitted (gives.Order order moment ∷ given) = (order, moment) ∷ submitted given
submitted (gives.Line line ∷ given) = submitted given

-- these orders as they are given
abbrev pub as_given : List (Contents × ℕ) → List Given
as_given orders = map (λ next. gives.Order next.0 next.1) orders

-- what was given and what comes next
abbrev pub with_next : Option Given → List Given → List Given
with_next None given = given
with_next (Some next) given = next ∷ given

-- the streams, with nothing known of the replies: what is written there is described by the steps
abbrev pub muted : Streams → Streams
muted streams = record streams { out = None }

-- The result of following

-- it ended where there was no more, or after so much that no program lives to see it
abbrev pub IsOver : Type 0 → List Given → Type 0
IsOver over given = over ⊎ (length given ≡ 2 ^ 64 - 1)

-- From this start exactly this was given, and each of it done before the next: what happened was driven and describes
-- the writer, the lines were written between, and nothing else was written.
pub record IsFollowedAt (start : Start) (steps : List Step) (given : List Given) (first : Streams)
    (writer : WriterState) (last : Streams) : Type 0 where
  pub driven_at : IsDrivenAt start (happenings steps) writer (muted first) last
  pub said : Appends first.out last.out (told_lines steps)
  pub given_are : given_in steps ≡ given

-- and nothing more is to be done
pub record IsFollowed (start : Start) (given : List Given) (first : Streams) (writer : WriterState) (last : Streams)
    : Type 0 where
  pub steps : List Step
  pub at : IsFollowedAt start steps given first writer last
  pub quiet : is_busy start (happenings steps) ≡ false

-- the writing of a line for a refused item was broken off, when nothing was to be done
pub record BrokenLine (start : Start) (steps : List Step) (given : List Given) (first then last : Streams)
    : Type 0 where
  pub line : ArrayVec ℕ
  pub given_are : given ≡ gives.Line line ∷ given_in steps
  pub writer : WriterState
  pub driven_at : IsDrivenAt start (happenings steps) writer (muted first) then
  pub quiet : is_busy start (happenings steps) ≡ false
  pub journal : Keeps then.journal last.journal
  pub link : Keeps then.link last.link
  pub answers : Keeps then.answers last.answers
  pub out : AppendsPart then.out last.out line.items

-- a step of an order was broken off; the newest order was asked, except for one for which there was no memory
pub record BrokenOrder (start : Start) (steps : List Step) (given : List Given) (fault : DriveFault)
    (first then last : Streams) : Type 0 where
  pub unasked : List (Contents × ℕ)
  pub ahead : AreUnasked fault unasked
  pub given_are : given ≡ as_given (reverse unasked) ++ given_in steps
  pub driven : IsDriven start (happenings steps) (muted first) then
  pub broken : (rest : List (Contents × ℕ)) → BrokenOff start (happenings steps) (unasked ++ rest) fault then last

abbrev pub BrokenStep : Start → List Step → List Given → DriveFault → Streams → Streams → Streams → Type 0
BrokenStep start steps given Out first then last =
    BrokenLine start steps given first then last ⊎ BrokenOrder start steps given Out first then last
BrokenStep start steps given fault first then last = BrokenOrder start steps given fault first then last

-- exactly this was given, and after these steps one was broken off
pub record IsBrokenFollow (start : Start) (given : List Given) (fault : DriveFault) (first last : Streams)
    : Type 0 where
  pub steps : List Step
  pub then : Streams
  pub said : Appends first.out then.out (told_lines steps)
  pub broken : BrokenStep start steps given fault first then last

-- and of the journal a stop leaves all that was kept before it; and the observer has seen all of this
pub record BreaksFollow (start : Start) (given : List Given) (fault : DriveFault) (first last : Streams)
    (may_leave : List ℕ → Type 0) (told : List Happening → Type 0)
    (told_end : List Happening → DriveFault → Frame → List ℕ → Type 0) : Type 0 where
  pub follow : IsBrokenFollow start given fault first last
  pub left : LeavesBetween follow.then.journal last.journal may_leave
  pub told_all : IsToldEnd told told_end start (happenings follow.steps) fault follow.then.answers last.answers

-- what came of what was given last
abbrev pub GivenOn : {A : Type 0} → Start → List Given → Streams → Result A DriveFault → WriterState → Look → Look
    → (List Happening → Type 0) → (List Happening → DriveFault → Frame → List ℕ → Type 0) → Type 0
GivenOn start given first (Ok done) writer old new told told_end =
    (follow : IsFollowed start given first writer new.streams) × told (happenings follow.steps)
GivenOn start given first (Err fault) writer old new told told_end =
    BreaksFollow start given fault first new.streams new.may_leave told told_end

-- The source shows what is given; and the observer has seen the trace

pub record IsObservedFollow {G B : Type 0} (gave : G → G → List Given → Type 0) (over : G → Type 0)
    (told : Start → B → B → List Happening → Type 0) (start : Start) (orders : G) (first : Streams) (before : B)
    (writer : WriterState) (orders_left : G) (last : Streams) (after : B) : Type 0 where
  pub given : List Given
  pub gave_all : gave orders orders_left given
  pub ends : IsOver (over orders_left) given
  pub follow : IsFollowed start given first writer last
  pub told_all : told start before after (happenings follow.steps)

pub record IsObservedFollowBreak {G B : Type 0} (gave : G → G → List Given → Type 0)
    (told : Start → B → B → List Happening → Type 0)
    (told_end : Start → B → B → List Happening → DriveFault → Frame → List ℕ → Type 0) (start : Start) (orders : G)
    (fault : DriveFault) (first : Streams) (before : B) (orders_left : G) (last : Streams) (after : B)
    (may_leave : List ℕ → Type 0) : Type 0 where
  pub given : List Given
  pub gave_all : gave orders orders_left given
  pub breaks : BreaksFollow start given fault first last may_leave (told start before after)
      (told_end start before after)

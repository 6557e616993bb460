-- The traces that a drive makes, and the point at which a fault leaves one.
use Rattle.std.specs.Prelude.{◌≡◌, ◌≤◌, ◌⊎◌, ◌++◌, ℕ, Bool, true, false, List, [], ◌∷◌, Option, Result, Ok, Err, length, ⊤}
use Rattle.std.specs.Prelude.{take, reverse, map}
use Rattle.std.specs.Io.KnownBytes.{Appends, Keeps}
use Rattle.dali_frame.specs.declared.forward.Frame.{Frame}
use Rattle.dali_bank.specs.Order.{Contents}
use Rattle.dali_journal.specs.declared.record.Record.{Record}
use Rattle.dali_journal.specs.declared.version.Version.TheVariants.{Two}
use Rattle.dali_journal.specs.Spelling.{spelling, IsRecord}
use Rattle.dali_trace.specs.declared.happening.Reply.{Reply}
use Rattle.dali_trace.specs.declared.happening.Reply.TheVariants as replies
use Rattle.dali_trace.specs.declared.happening.Happening.{Happening}
use Rattle.dali_trace.specs.declared.happening.Happening.TheVariants.{Asked, Answered, Sent, Kept, Stopped, Powered}
use Rattle.dali_store.specs.Stores.{IsBetween}
use Rattle.dali_trace.specs.declared.fault.DriveFault.{DriveFault}
use Rattle.dali_trace.specs.declared.fault.DriveFault.TheVariants.{Journal, Link, NoMemory, Out}
use Rattle.std.specs.List.{AllByRecursion}
use Rattle.dali_trace.specs.Cut.{kept_in}
use Rattle.dali_trace.specs.Trace.{Start, is_busy}
use Rattle.dali_trace.specs.Replies.{IsReply, reply_line}
use Rattle.dali_trace.specs.Legal.{Legal, IsFinished}
use Rattle.dali_trace.specs.ByPlan.{ByPlan}
use Rattle.dali_trace.specs.Next.{IsNext}
use Rattle.dali_trace.specs.Work.{AtEachPast}
use Rattle.dali_engine.specs.WriterState.{WriterState}
use Rattle.dali_engine.specs.Describes.{Describes}
use Rattle.dali_engine.specs.Follows.{Follows}
use Rattle.dali_drive.specs.Lines.{link_line, TakesLine}
use Rattle.dali_drive.specs.Streams.{Flushes}
use Rattle.dali_drive.specs.Transcript.{Streams, Transcript}

-- the orders that were asked, each with its moment, the newest first
abbrev pub orders_asked : List Happening → List (Contents × ℕ)
orders_asked [] = []
orders_asked (Asked order moment ∷ past) = (order, moment) ∷ orders_asked past
orders_asked (other ∷ past) = orders_asked past

-- these orders, each at the same moment
abbrev pub at_moment : ℕ → List Contents → List (Contents × ℕ)
at_moment moment orders = map (λ order. (order, moment)) orders

-- an order is asked last where nothing is to be done, and what came last is no stop, nor a loss of power, of which the
-- program doesn't know
abbrev pub IsInTurn : Start → List Happening → Type 0
IsInTurn start (Asked order moment ∷ past) = is_busy start past ≡ false
IsInTurn start (Stopped pace ∷ past) = ⊥
IsInTurn start (Powered address ∷ past) = ⊥
IsInTurn start other = ⊤

-- the numbers of each record that was kept are in their ranges
abbrev pub KeepsRecords : List Happening → Type 0
KeepsRecords past = AllByRecursion (IsRecord Two) (kept_in past)

-- this trace was driven: each happening was one that might follow those before it and that the plan asked for, and
-- the trace's text was written and read
pub record IsDriven (start : Start) (past : List Happening) (first last : Streams) : Type 0 where
  pub legal : Legal start past
  pub planned : ByPlan start past
  pub in_turn : AtEachPast (IsInTurn start) past
  pub in_range : KeepsRecords past
  pub text : Transcript past first last

-- A step that a fault broke off

-- a first part of these bytes, perhaps all, was written
pub record AppendsPart (old new : Option (List ℕ)) (bytes : List ℕ) : Type 0 where
  pub count : ℕ
  pub within : count ≤ length bytes
  pub part : Appends old new (take count bytes)

-- nothing more was written or read
pub record NoMore (old new : Streams) : Type 0 where
  pub journal : Keeps old.journal new.journal
  pub link : Keeps old.link new.link
  pub answers : Keeps old.answers new.answers
  pub out : Keeps old.out new.out

-- a part of a record was written
pub record CutRecord (entry : Record) (old new : Streams) : Type 0 where
  pub in_range : IsRecord Two entry
  pub journal : AppendsPart old.journal new.journal (spelling Two entry)
  pub link : Keeps old.link new.link
  pub answers : Keeps old.answers new.answers
  pub out : Keeps old.out new.out

-- a part of a reply's line was written
pub record CutReply (id : ℕ) (reply : Reply) (old new : Streams) : Type 0 where
  pub journal : Keeps old.journal new.journal
  pub link : Keeps old.link new.link
  pub answers : Keeps old.answers new.answers
  pub out : AppendsPart old.out new.out (reply_line id reply)

-- a part of a frame's line was written, and nothing read
pub record CutFrame (frame : Frame) (old new : Streams) : Type 0 where
  pub journal : Keeps old.journal new.journal
  pub link : AppendsPart old.link new.link (link_line frame)
  pub answers : Keeps old.answers new.answers
  pub out : Keeps old.out new.out

-- a frame's line was written, and what was read of its answer's shows the fault
pub record Unanswered (frame : Frame) (fault : DriveFault) (old new : Streams) : Type 0 where
  pub journal : Keeps old.journal new.journal
  pub link : Appends old.link new.link (link_line frame)
  pub answers : TakesLine old.answers new.answers (Err fault)
  pub out : Keeps old.out new.out

-- the fault broke the exchange of this frame off
abbrev pub BreaksFrame : Frame → DriveFault → Streams → Streams → Type 0
BreaksFrame frame Link old new = CutFrame frame old new ⊎ Unanswered frame Link old new
BreaksFrame frame fault old new = Unanswered frame fault old new

-- the frame's line was flushed before its answer's was read: it is flushed, or a failure came before a byte was read
abbrev pub FlushesFirst : {A : Type 0} → Result A DriveFault → Option (List ℕ) → Option (List ℕ) → Option (List ℕ)
    → Option (List ℕ) → Option (List ℕ) → Type 0
FlushesFirst (Err Link) held flushed flushed_now left left_now =
    Flushes true held flushed flushed_now ⊎ Keeps left left_now
FlushesFirst result held flushed flushed_now left left_now = Flushes true held flushed flushed_now

-- this frame is next, whatever its answer
abbrev pub IsNextFrame : Start → List Happening → Frame → Type 0
IsNextFrame start past frame = (answer : Option ℕ) → IsNext start past (Sent frame answer)

-- the step after this trace that the fault broke off, while these orders were still to be asked
abbrev pub BrokenOff : Start → List Happening → List (Contents × ℕ) → DriveFault → Streams → Streams → Type 0
BrokenOff start past rest Journal old new = (entry : Record) × IsNext start past (Kept entry) × CutRecord entry old new
BrokenOff start past rest Link old new =
    (frame : Frame) × IsNextFrame start past frame × BreaksFrame frame Link old new
BrokenOff start past (next ∷ rest) NoMemory old new =
    IsFinished past × (is_busy start past ≡ false) × IsReply start past next.0 replies.Taken × NoMore old new
BrokenOff start past [] NoMemory old new = ⊥
BrokenOff start past rest Out old new =
    (id : ℕ) × (reply : Reply) × IsNext start past (Answered id reply) × CutReply id reply old new
BrokenOff start past rest fault old new =
    (frame : Frame) × IsNextFrame start past frame × BreaksFrame frame fault old new

-- The result of a drive

-- from this start all these orders were asked in their order, each at its moment, and nothing more is to be done, and
-- the trace describes the writer
pub record IsDrive (start : Start) (orders : List (Contents × ℕ)) (first : Streams) (writer : WriterState)
    (last : Streams) : Type 0 where
  pub past : List Happening
  pub driven : IsDriven start past first last
  pub asked : reverse (orders_asked past) ≡ orders
  pub quiet : is_busy start past ≡ false
  pub described : Describes start past writer
  pub follows : Follows start past writer

-- from this start the first of these orders were asked in their order, each at its moment, and after the trace at most
-- one step was broken off
pub record IsBrokenDrive (start : Start) (orders : List (Contents × ℕ)) (fault : DriveFault)
    (first last : Streams) : Type 0 where
  pub past : List Happening
  pub rest : List (Contents × ℕ)
  pub middle : Streams
  pub driven : IsDriven start past first middle
  pub asked : reverse (orders_asked past) ++ rest ≡ orders
  pub broken : BrokenOff start past rest fault middle last

-- a stop leaves what the journal held then, with all or a first part of what was put since
abbrev pub LeavesBetween : Option (List ℕ) → Option (List ℕ) → (List ℕ → Type 0) → Type 0
LeavesBetween then now may_leave = (c : List ℕ) → may_leave c → IsBetween then now c

-- a drive that a fault broke off; and of the journal a stop leaves all that was kept before the step that was broken
-- off
pub record BreaksOff (start : Start) (orders : List (Contents × ℕ)) (fault : DriveFault)
    (first last : Streams) (may_leave : List ℕ → Type 0) : Type 0 where
  pub drive : IsBrokenDrive start orders fault first last
  pub left : LeavesBetween drive.middle.journal last.journal may_leave

-- Which streams have failed

-- that of the journal, the link out, the link in, that of the replies
abbrev pub NoneFailed : Bool → Bool → Bool → Bool → Type 0
NoneFailed journal link_out link_in out = (journal ≡ false) × (link_out ≡ false) × (link_in ≡ false) × (out ≡ false)

-- which of them have failed where this fault comes
abbrev pub FailedAs : DriveFault → Bool → Bool → Bool → Bool → Type 0
FailedAs Journal journal link_out link_in out =
    (journal ≡ true) × (link_out ≡ false) × (link_in ≡ false) × (out ≡ false)
FailedAs Link journal link_out link_in out =
    (journal ≡ false) × (((link_out ≡ true) × (link_in ≡ false)) ⊎ ((link_out ≡ false) × (link_in ≡ true)))
    × (out ≡ false)
FailedAs Out journal link_out link_in out = (journal ≡ false) × (link_out ≡ false) × (link_in ≡ false) × (out ≡ true)
FailedAs other journal link_out link_in out = NoneFailed journal link_out link_in out

-- of the bytes over a link: none if it completed
abbrev pub LinkEnds : {A : Type 0} → Result A DriveFault → Bool → Bool → Bool → Type 0
LinkEnds (Ok value) link_out link_in out = NoneFailed false link_out link_in out
LinkEnds (Err fault) link_out link_in out = FailedAs fault false link_out link_in out

-- a read that failed
abbrev pub is_link_failure : Result (Option ℕ) DriveFault → Bool
is_link_failure (Err Link) = true
is_link_failure other = false

-- The streams of a drive: a journal, a link there and back, and replies.
use Rattle.std.specs.Prelude.{◌≡◌, ℕ, Bool, false, List, Result, Ok, Err}
use Rattle.std.specs.Io.KnownBytes.{Appends}
use Rattle.dali_store.specs.declared.opening.OpenFault.{OpenFault}
use Rattle.dali_store.specs.Opened.{is_store_failure}
use Rattle.dali_store.specs.Stores.{IsDurable, IsBetween, LeavesOnly}
use Rattle.dali_trace.specs.declared.fault.DriveFault.{DriveFault}
use Rattle.dali_drive.specs.Driven.{NoneFailed, FailedAs, LeavesBetween}
use Rattle.dali_drive.specs.Transcript.{Streams}

-- which of its streams have failed
pub record Failures : Type 0 where
  pub journal : Bool
  pub link_out : Bool
  pub link_in : Bool
  pub out : Bool

abbrev pub failures : Bool → Bool → Bool → Bool → Failures
failures journal link_out link_in out =
    record { journal = journal; link_out = link_out; link_in = link_in; out = out }

-- what there is of it at a moment: what its streams show, which of them have failed, and what a stop may leave of the
-- journal
pub record Look : Type 1 where
  pub streams : Streams
  pub failed : Failures
  pub may_leave : List ℕ → Type 0

abbrev pub look_of : Streams → Failures → (List ℕ → Type 0) → Look
look_of streams failed may_leave = record { streams = streams; failed = failed; may_leave = may_leave }

-- none has failed
abbrev pub IsUnfailed : Failures → Type 0
IsUnfailed failed = NoneFailed failed.journal failed.link_out failed.link_in failed.out

-- those have failed that do where this fault comes
abbrev pub ShowsFault : DriveFault → Failures → Type 0
ShowsFault fault failed = FailedAs fault failed.journal failed.link_out failed.link_in failed.out

-- and if the journal isn't opened
abbrev pub FailsOpen : OpenFault → Failures → Type 0
FailsOpen fault failed =
    (failed.journal ≡ is_store_failure fault) × (failed.link_out ≡ false) × (failed.link_in ≡ false)
    × (failed.out ≡ false)

-- a stop leaves exactly what the journal shows
abbrev pub IsDurableAt : Look → Type 0
IsDurableAt look = IsDurable look.streams.journal look.may_leave

-- none has failed, and all that was kept is durable: the state of a desk before each record, frame and reply
abbrev pub IsAhead : Look → Type 0
IsAhead look = IsUnfailed look.failed × IsDurableAt look

-- it is in that state again; or those have failed that do at this fault
abbrev pub EndsAs : {A : Type 0} → Result A DriveFault → Look → Type 0
EndsAs (Ok value) look = IsAhead look
EndsAs (Err fault) look = ShowsFault fault look.failed

-- a stop leaves what the journal showed, with all or a first part of what was put since
abbrev pub LeavesPut : Look → Look → Type 0
LeavesPut old new = LeavesBetween old.streams.journal new.streams.journal new.may_leave

-- no more may be left than before
abbrev pub LeavesNoMore : Look → Look → Type 0
LeavesNoMore old new = (c : List ℕ) → new.may_leave c → old.may_leave c

-- bytes were put at the end of the journal, and a stop at each moment leaves it with a first part of them; and the
-- streams are the same
pub record Grows {D : Type 0} (look : D → Look) (moment : D → ℕ) (left_since : D → ℕ → List ℕ → Type 0)
    (same : D → D → Type 0) (old new : D) : Type 0 where
  pub more : List ℕ
  pub grown : Appends (look old).streams.journal (look new).streams.journal more
  pub leaves : LeavesOnly moment left_since old new
      (IsBetween (look old).streams.journal (look new).streams.journal)
  pub stays : same old new

-- work at a desk: this is its result, it ended so, and the desk has grown
pub record Works {D A : Type 0} (look : D → Look) (moment : D → ℕ) (left_since : D → ℕ → List ℕ → Type 0)
    (same : D → D → Type 0) (result : Result A DriveFault) (old new : D) (came : Type 0) : Type 0 where
  pub came_of_it : came
  pub ends : EndsAs result (look new)
  pub grown : Grows look moment left_since same old new

-- only the journal, the replies, or the link were written
abbrev pub with_journal : Streams → Streams → Streams
with_journal old new = record old { journal = new.journal }

abbrev pub with_out : Streams → Streams → Streams
with_out old new = record old { out = new.out }

abbrev pub with_link : Streams → Streams → Streams
with_link old new = record old { link = new.link; answers = new.answers }

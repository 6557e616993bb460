-- A drive over a store that is killed at some moment, and what was in hand then.
use Rattle.std.specs.Prelude.{◌≡◌, ◌<◌, ◌⊎◌, ◌++◌, ℕ, List, ◌∷◌, Option, Some, length, take}
use Rattle.dali_bank.specs.Order.{Contents}
use Rattle.dali_frame.specs.declared.forward.Frame.{Frame}
use Rattle.dali_journal.specs.declared.record.Record.{Record}
use Rattle.dali_journal.specs.declared.version.Version.TheVariants.{Two}
use Rattle.dali_journal.specs.Spelling.{spelling, journal_spelling, IsRecord}
use Rattle.dali_trace.specs.declared.happening.Reply.{Reply}
use Rattle.dali_trace.specs.declared.happening.Happening.{Happening}
use Rattle.dali_trace.specs.declared.happening.Happening.TheVariants.{Answered, Sent, Kept}
use Rattle.dali_trace.specs.Trace.{Start, records_of}
use Rattle.dali_trace.specs.Legal.{IsFinished}
use Rattle.dali_trace.specs.Next.{IsNext}
use Rattle.dali_engine.specs.WriterState.{WriterState, start_by}
use Rattle.dali_laws.specs.Joined.{Sitting}
use Rattle.dali_trace.specs.declared.fault.DriveFault.{DriveFault}
use Rattle.dali_drive.specs.Transcript.{Streams}
use Rattle.dali_drive.specs.Driven.{IsDriven, IsDrive, IsBrokenDrive}
use Rattle.dali_drive.specs.Stored.{IsBegun}
use Rattle.dali_drive.specs.Sittings.{MayHaveHappened}
use Rattle.dali_write.specs.declared.pace.Pace.{Pace}

-- nothing was in hand
pub record NoneInHand (start : Start) (older past : List Happening) (left : List ℕ) : Type 0 where
  pub is : past ≡ older
  pub finished : IsFinished older
  pub bytes : left ≡ journal_spelling Two (records_of start older)

-- a frame was in hand, and it was carried, with whatever answer
pub record FrameInHand (start : Start) (older past : List Happening) (left : List ℕ) : Type 0 where
  pub frame : Frame
  pub answer : Option ℕ
  pub next : IsNext start older (Sent frame answer)
  pub is : past ≡ Sent frame answer ∷ older
  pub bytes : left ≡ journal_spelling Two (records_of start older)

-- a record was in hand, and these first bytes of it are left
pub record RecordInHand (start : Start) (older past : List Happening) (left : List ℕ) : Type 0 where
  pub entry : Record
  pub next : IsNext start older (Kept entry)
  pub in_range : IsRecord Two entry
  pub count : ℕ
  pub less : count < length (spelling Two entry)
  pub is : past ≡ older
  pub bytes : left ≡ journal_spelling Two (records_of start older) ++ take count (spelling Two entry)

-- a reply was in hand, and it was said
pub record ReplyInHand (start : Start) (older past : List Happening) (left : List ℕ) : Type 0 where
  pub id : ℕ
  pub reply : Reply
  pub next : IsNext start older (Answered id reply)
  pub is : past ≡ Answered id reply ∷ older
  pub bytes : left ≡ journal_spelling Two (records_of start older)

-- it was killed after this much, and this is what happened, and what is left of the journal
abbrev pub IsKilledAt : Start → List Happening → List Happening → List ℕ → Type 0
IsKilledAt start older past left =
    NoneInHand start older past left ⊎ FrameInHand start older past left ⊎ RecordInHand start older past left
    ⊎ ReplyInHand start older past left

-- From a store that showed these bytes a drive was killed: until then this much had been driven.
pub record WasKilled (limit most : ℕ) (found : List ℕ) (sitting : Sitting) (left : List ℕ) : Type 0 where
  pub pace : Pace
  pub first : Streams
  pub now : Streams
  pub is_found : first.journal ≡ Some found
  pub begun : IsBegun limit most first
  pub older : List Happening
  pub driven : IsDriven (start_by pace begun.journal) older (record first { journal = begun.middle }) now
  pub past : List Happening
  pub at : IsKilledAt (start_by pace begun.journal) older past left
  pub is : sitting ≡ record { start = start_by pace begun.journal; past = past }

-- a drive over a store completed and this happened, or it broke off and this may have happened
abbrev pub MayHaveDriven : ℕ → ℕ → Streams → List Happening → Streams → Type 0
MayHaveDriven limit most first trail last =
    (begun : IsBegun limit most first) × (pace : Pace) × (orders : List (Contents × ℕ))
    × (((writer : WriterState)
    × (d : IsDrive (start_by pace begun.journal) orders (record first { journal = begun.middle }) writer last)
    × (trail ≡ d.past))
    ⊎ ((fault : DriveFault)
    × (b : IsBrokenDrive (start_by pace begun.journal) orders fault (record first { journal = begun.middle }) last)
    × MayHaveHappened (start_by pace begun.journal) b.past fault trail))

-- Killed at some moment of such a drive, it would have left this.
pub record StoodOnce (limit most : ℕ) (found left : List ℕ) (first last : Streams) : Type 0 where
  pub trail : List Happening
  pub drove : MayHaveDriven limit most first trail last
  pub sitting : Sitting
  pub killed : WasKilled limit most found sitting left
  pub newer : List Happening
  pub split : trail ≡ newer ++ killed.older

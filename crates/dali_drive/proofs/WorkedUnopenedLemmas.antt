-- The state if orders aren't followed, since the journal isn't opened or can't be joined to the older one, and near
-- misses of that.
use Rattle.std.proofs.Common.{◌≡◌, ap, ℕ, List, [], Option, Some, codes}
use Rattle.dali_frame.specs.declared.forward.Frame.{Frame}
use Rattle.dali_journal.specs.JournalState.{JournalState}
use Rattle.dali_store.specs.declared.opening.OpenFault.{OpenFault}
use Rattle.dali_store.specs.declared.opening.OpenFault.TheVariants.{Store}
use Rattle.dali_store.specs.declared.store.StoreFault.{StoreFault}
use Rattle.dali_trace.specs.declared.fault.DriveFault.{DriveFault}
use Rattle.dali_trace.specs.declared.happening.Happening.{Happening}
use Rattle.dali_trace.specs.Trace.{Start}
use Rattle.dali_drive.specs.declared.following.Given.{Given}
use Rattle.dali_drive.specs.declared.stored.StoredFault.TheVariants.{Open}
use Rattle.dali_drive.specs.Behind.{EndsBehind}
use Rattle.dali_drive.specs.Desks.{Look}
use Rattle.dali_drive.specs.Transcript.{Streams}
use Rattle.dali_write.specs.declared.pace.Pace.{Pace}

module _ {G B : Type 0} (older : Option JournalState) (limit most : ℕ) (orders left : G) (first last : Look)
    (before after : B) where
  module _ (gave : G → G → List Given → Type 0) (told : Start → B → B → List Happening → Type 0)
      (told_end : Start → B → B → List Happening → DriveFault → Frame → List ℕ → Type 0) (pace : Pace) where
    abbrev EndsBefore : OpenFault → Type 0
    EndsBefore fault =
        EndsBehind gave told told_end older limit most pace orders (Open fault) first before left last after

    -- no order was taken of the source, and nothing was passed to the observer
    pub unopened_and_given : (fault : OpenFault) → EndsBefore fault → (left ≡ orders → ⊥) → ⊥
    unopened_and_given fault ends given = given ends.1

    pub unopened_and_told : (fault : OpenFault) → EndsBefore fault → (after ≡ before → ⊥) → ⊥
    unopened_and_told fault ends is_told = is_told ends.2

    -- no frame was sent, no line read and no reply written
    pub unopened_and_sent : (fault : StoreFault) → EndsBefore (Store fault) → first.streams.link ≡ Some []
        → last.streams.link ≡ Some (codes "C301\n") → ⊥
    unopened_and_sent fault ends none sent = cc (ap (λ (s : Streams). s.link) ends.0.1)

    pub unopened_and_heard : (fault : StoreFault) → EndsBefore (Store fault)
        → first.streams.answers ≡ Some (codes "--\n") → last.streams.answers ≡ Some [] → ⊥
    unopened_and_heard fault ends line heard = cc (ap (λ (s : Streams). s.answers) ends.0.1)

    pub unopened_and_said : (fault : StoreFault) → EndsBefore (Store fault) → first.streams.out ≡ Some []
        → last.streams.out ≡ Some (codes "reply 1 taken\n") → ⊥
    unopened_and_said fault ends none said = cc (ap (λ (s : Streams). s.out) ends.0.1)

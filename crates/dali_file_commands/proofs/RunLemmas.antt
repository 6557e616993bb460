-- Lemmas on the answer if a scenario is run, and if it isn't.
use Rattle.std.proofs.Common.{◌≡◌, List, [], ℕ, length, Bool, Option, Result, Ok, Err, IfOk, OnOk, inl, inr, refl}
use Rattle.std.specs.Io.KnownBytes.{Appends}
use Rattle.dali_gear.specs.SimState.{SimState}
use Rattle.dali_journal.specs.JournalState.{IsLimit}
use Rattle.dali_trace.specs.declared.fault.RunFault.{RunFault}
use Rattle.dali_trace.specs.declared.fault.RunFault.TheVariants.{Limit, NoMemory}
use Rattle.dali_trace.specs.declared.happening.Event.{Event}
use Rattle.dali_trace.specs.declared.happening.Happening.{Happening}
use Rattle.dali_text.specs.RunText.{run_text}
use Rattle.dali_input.specs.Input.{InputState}
use Rattle.dali_input.specs.Scenario.{Planned}
use Rattle.dali_input.specs.Setup.{IsSetUp}
use Rattle.dali_input.specs.declared.command_fault.Fault.TheVariants.{Run}
use Rattle.dali_input.specs.declared.command_fault.Fault.TheVariants as faults
use Rattle.dali_input.specs.declared.command_fault.Fault.{Fault}
use Rattle.dali_input.specs.declared.command_fault.Status.{Status}
use Rattle.dali_input.specs.declared.command_fault.Status.TheVariants.{Good}
use Rattle.dali_input.specs.CommandFaults.{told_line, status_of}
use Rattle.dali_text.specs.declared.output.Output.{Output}
use Rattle.dali_text.specs.Output.{held}
use Rattle.dali_file_commands.specs.NoteLines.{Tells}
use Rattle.dali_file_commands.specs.Notes.{IsNotedAnswer}
use Rattle.dali_file_commands.specs.RunAnswers.{IsNotSetUp, IsRan, IsRunAnswer, IsUnderstood, IsUnrun}
use Rattle.std.proofs.KnownBytes.{Appends-nil}

-- a fault of the run, which tells Limit only if the limit is none
pub not_run : (before after : InputState) (planned : Planned) (bus : SimState) (all : List Event) (fault : RunFault)
    → IsUnderstood before after planned → IsSetUp planned bus.units bus.fates all
    → (fault ≡ Limit → ¬ IsLimit planned.limit) → IsUnrun before after (Run fault)
not_run before after planned bus all Limit understood ready limit =
    (planned, understood, (bus.units, bus.fates, all, ready), limit refl)
not_run before after planned bus all NoMemory understood ready limit = tt

-- one that can't be set up is none
pub not_set_up : (before after : InputState) (fault : Fault) → IsNotSetUp before after fault
    → IsUnrun before after fault
not_set_up before after (faults.Input fault) is = inr is
not_set_up before after (faults.Unit number fault) is = is
not_set_up before after faults.SameAddress is = is
not_set_up before after (faults.Order number fault) is = is
not_set_up before after (Run fault) (planned, understood, never) = absurd never
not_set_up before after (faults.Journal fault) (planned, understood, never) = absurd never
not_set_up before after (faults.Drive fault) (planned, understood, never) = absurd never
not_set_up before after faults.Older (planned, understood, never) = absurd never

-- a run that wasn't made is reported by the line of its fault
pub unrun_told : {E : Type 0} (single_frames : Bool) (before after : InputState) (old new : Option (List ℕ))
    (fault : Fault) (r : Result Status E)
    → IsUnrun before after fault
    → OnOk r (Appends old new (told_line fault)) → IfOk r (λ status. status ≡ status_of fault)
    → IfOk r (λ status. (text : List ℕ) × IsRunAnswer single_frames before after status text × Appends old new text)
unrun_told single_frames before after old new fault (Ok status) unrun told is =
    (told_line fault, inr (fault, unrun, record { status_is = is; text_is = refl }), told)
unrun_told single_frames before after old new fault (Err e) unrun told is = tt

-- and one that was made by its trace
pub run_told : {E : Type 0} (single_frames : Bool) (before after : InputState) (trace : List Happening)
    (journal : List ℕ) (last : SimState) (old new : Option (List ℕ)) (r : Result Status E)
    → IsRan before after trace journal last
    → IfOk r (λ status. (status ≡ Good) × Appends old new (run_text single_frames trace (length journal) last.units))
    → IfOk r (λ status. (text : List ℕ) × IsRunAnswer single_frames before after status text × Appends old new text)
run_told single_frames before after trace journal last old new (Ok status) ran told = (
  run_text single_frames trace (length journal) last.units,
  inl (record {
    trace = trace;
    journal = journal;
    last = last;
    ran = ran;
    status_is = told.0;
    text_is = refl;
  }),
  told.1,
)
run_told single_frames before after trace journal last old new (Err e) ran told = tt

-- with a run that was printed, nothing is noted for a person
pub run_noted : {E N : Type 0} (text : List ℕ) (before now : Option (List ℕ)) (contents : N → Option (List ℕ))
    (notes : Output N) (r : Result Status E)
    → IfOk r (λ status. (status ≡ Good) × Appends before now text)
    → IfOk r (λ status. (written : List ℕ) × Appends before now written
    × Tells contents notes notes (IsNotedAnswer status written))
run_noted text before now contents notes (Ok status) (good, told) =
    (text, told, λ unfailed. (unfailed, ([], inl (good, refl), Appends-nil (held contents notes))))
run_noted text before now contents notes (Err e) told = tt

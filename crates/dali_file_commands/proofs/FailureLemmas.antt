-- The lines that are printed if the reader or the memory failed.
use Rattle.std.proofs.Common.{◌≡◌, ◌⊎◌, List, ℕ, Option, Result, Ok, Err, IfOk, OnOk, inr, refl}
use Rattle.std.specs.Io.KnownBytes.{Appends}
use Rattle.dali_input.specs.declared.fault.InputFault.{InputFault}
use Rattle.dali_input.specs.Input.{InputState, IsReadFailure}
use Rattle.dali_input.specs.declared.command_fault.Fault.TheVariants.{Input}
use Rattle.dali_input.specs.declared.command_fault.Status.{Status}
use Rattle.dali_input.specs.CommandFaults.{IsFailure, told_line, status_of}

-- a failure is reported by the line of its fault, whatever other answers are possible
pub failure_told : {E : Type 0} (before after : InputState) (old new : Option (List ℕ)) (fault : InputFault)
    (r : Result Status E)
    → IsReadFailure before after fault
    → OnOk r (Appends old new (told_line (Input fault))) → IfOk r (λ status. status ≡ status_of (Input fault))
    → IfOk r (λ status. (text : List ℕ) × IsFailure before after status text × Appends old new text)
failure_told before after old new fault (Ok status) failed told is =
    (told_line (Input fault), (fault, failed, record { status_is = is; text_is = refl }), told)
failure_told before after old new fault (Err e) failed told is = tt

-- and so is one of two answers
pub or_failure : {E : Type 0} (A : Status → List ℕ → Type 0) (before after : InputState) (old new : Option (List ℕ))
    (r : Result Status E)
    → IfOk r (λ status. (text : List ℕ) × IsFailure before after status text × Appends old new text)
    → IfOk r (λ status. (text : List ℕ) × (A status text ⊎ IsFailure before after status text) × Appends old new text)
or_failure A before after old new (Ok status) (text, failed, told) = (text, inr failed, told)
or_failure A before after old new (Err e) told = tt

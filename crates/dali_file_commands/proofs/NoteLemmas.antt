-- Lemmas on the notes for a person that go with what is written.
use Rattle.std.proofs.Common.{◌≡◌, ◌⊎◌, ℕ, ◌+◌, List, [], ◌∷◌, ◌++◌, Option, Result, Ok, Err, IfOk, OnOk}
use Rattle.std.proofs.Common.{length, inr, refl, subst}
use Rattle.std.specs.Io.KnownBytes.{Appends}
use Rattle.dali_text.specs.declared.output.Output.{Output}
use Rattle.dali_text.proofs.StreamLemmas.{appends_both}
use Rattle.dali_input.specs.Orders.{Outcome}
use Rattle.dali_file_commands.specs.NoteLines.{Tells}
use Rattle.dali_input.specs.declared.command_fault.Fault.{Fault}
use Rattle.dali_input.specs.declared.command_fault.Status.{Status}
use Rattle.dali_input.specs.CommandFaults.{told_line}
use Rattle.dali_file_commands.specs.Notes.{AreItemNotes, IsFaultNote, IsItemNote, IsNotedFault}
use Rattle.dali_file_commands.proofs.ReportLemmas.{each_one_more}

-- an output that takes the notes of one item more
pub tells_one_more : {N : Type 0} (contents : N → Option (List ℕ)) (old mid new : Output N) (x : Outcome) (n : ℕ)
    (xs : List Outcome)
    → Tells contents mid new (IsItemNote n x)
    → n ≡ 1 + length xs → Tells contents old mid (AreItemNotes 1 xs)
    → Tells contents old new (AreItemNotes 1 (xs ++ x ∷ []))
tells_one_more contents old mid new x n xs step at before failed =
    let (mid_good, (here, is, took)) = step failed in
    let (old_good, (note, are, taken)) = before mid_good in (
      old_good,
      (
        note ++ here,
        each_one_more IsItemNote 1 xs x note here are (subst (λ k. IsItemNote k x here) at is),
        appends_both _ _ _ note here taken took,
      ),
    )

-- a fault that is reported by its line and its note, whatever else may be written
pub fault_noted : {E N : Type 0} (A : Status → List ℕ → List ℕ → Type 0) (before now : Option (List ℕ))
    (contents : N → Option (List ℕ)) (old new : Output N) (fault : Fault) (r : Result Status E)
    → OnOk r (Appends before now (told_line fault)) → Tells contents old new (IsFaultNote fault)
    → IfOk r (λ status. (text : List ℕ) × Appends before now text
    × Tells contents old new (λ note. A status text note ⊎ IsNotedFault text note))
fault_noted A before now contents old new fault (Ok status) told noted = (
  told_line fault,
  told,
  λ failed. let (good, (note, is, took)) = noted failed in (good, (note, inr (fault, refl, is), took)),
)
fault_noted A before now contents old new fault (Err e) told noted = tt

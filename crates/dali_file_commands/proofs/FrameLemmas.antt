-- Lemmas on words that are spelled by digits.
use Rattle.std.proofs.Common.{◌≡◌, ◌≢◌, ◌↔◌, ℕ, List, [], Option, Result, Ok, Err, IfOk, IsSome, length, get_or, inl, arith, refl}
use Rattle.std.specs.Io.KnownBytes.{Appends}
use Rattle.std.specs.Result.{result_ok}
use Rattle.std.specs.Str.Parse.{AllDigits, ParsesUnsigned}
use Rattle.std.proofs.lemmas.Int.Digits.{digits_value-lt}
use Rattle.std.proofs.lemmas.Str.Parse.{without_leading_plus_none}
use Rattle.dali_frame.specs.declared.forward.Frame.{Frame}
use Rattle.dali_frame.specs.Frame.{Spells}
use Rattle.dali_text.specs.FrameLine.{frame_line}
use Rattle.dali_text.specs.declared.output.Output.{Output}
use Rattle.dali_text.specs.Output.{held}
use Rattle.dali_file_commands.specs.NoteLines.{Tells}
use Rattle.dali_input.specs.declared.command_fault.Status.{Status}
use Rattle.dali_input.specs.declared.command_fault.Status.TheVariants.{Good}
use Rattle.dali_file_commands.specs.FrameAnswers.{AreFourDigits}
use Rattle.dali_file_commands.specs.Notes.{IsNotedAnswer}
use Rattle.std.proofs.KnownBytes.{Appends-nil}

-- what std reads of four bytes that don't begin with a plus is a word exactly when they are digits
pub four_digits : {E : Type 0} (text : List ℕ) (r : Result ℕ E) → length text ≡ 4 → get_or text 0 0 ≢ 43
    → ParsesUnsigned 16 16 text r → IsSome (result_ok r) ↔ AreFourDigits text
four_digits text (Ok word) four plain parsed =
    let digits : AllDigits 16 text = rw (without_leading_plus_none text plain) at parsed.0.0.1 in
    (λ some. (four, digits), λ are. refl)
four_digits text (Err e) four plain parsed =
    let refused = rw (without_leading_plus_none text plain) at parsed in
    (λ some. cc, λ are. absurd (refused ((omega arith, are.1), rw four at (digits_value-lt 16 text are.1))))

-- with the line of a word, nothing is noted for a person
pub word_noted : {E N : Type 0} (word : ℕ) (before now : Option (List ℕ)) (contents : N → Option (List ℕ))
    (notes : Output N) (r : Result Status E)
    → IfOk r (λ status. (status ≡ Good) × (frame : Frame) × Spells frame word
    × Appends before now (frame_line word frame))
    → IfOk r (λ status. (written : List ℕ) × Appends before now written
    × Tells contents notes notes (IsNotedAnswer status written))
word_noted word before now contents notes (Ok status) (good, frame, spelled, told) = (
  frame_line word frame,
  told,
  λ unfailed. (unfailed, ([], inl (good, refl), Appends-nil (held contents notes))),
)
word_noted word before now contents notes (Err e) line = tt

-- The answers of `frame`, and what it writes.
use Rattle.std.specs.Prelude.{◌≡◌, ◌⊎◌, List, ℕ, length}
use Rattle.std.specs.Str.Parse.{AllDigits}
use Rattle.dali_frame.specs.declared.forward.Frame.{Frame}
use Rattle.dali_frame.specs.Frame.{Spells}
use Rattle.dali_frame.specs.Hex.{SpellsHexNumber}
use Rattle.dali_text.specs.FrameLine.{frame_line}
use Rattle.dali_input.specs.declared.fault.InputFault.TheVariants.{Hex}
use Rattle.dali_input.specs.declared.command_fault.Fault.TheVariants.{Input}
use Rattle.dali_input.specs.declared.command_fault.Status.{Status}
use Rattle.dali_input.specs.declared.command_fault.Status.TheVariants.{Good}
use Rattle.dali_input.specs.CommandFaults.{IsRefusal}

-- four hexadecimal digits, each in upper or lower case
abbrev pub AreFourDigits : List ℕ → Type 0
AreFourDigits argument = (length argument ≡ 4) × AllDigits 16 argument

-- the text is the line of the frame that the word of the argument spells
pub record IsFrameText (argument text : List ℕ) : Type 0 where
  pub word : ℕ
  pub frame : Frame
  pub digits : AreFourDigits argument
  pub number : SpellsHexNumber argument word
  pub spelled : Spells frame word
  pub text_is : text ≡ frame_line word frame

-- what `frame` answers and writes of its argument
abbrev pub IsFrameAnswer : List ℕ → Status → List ℕ → Type 0
IsFrameAnswer argument status text =
    ((status ≡ Good) × IsFrameText argument text) ⊎ ((¬ AreFourDigits argument) × IsRefusal (Input Hex) status text)

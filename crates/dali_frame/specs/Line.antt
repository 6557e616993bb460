-- The text lines of frames and answers.
use Rattle.std.specs.Prelude.{◌≡◌, ◌≢◌, ℕ, List, length, ◌++◌, Option, Some, None, codes}
use Rattle.std.specs.Str.Parse.{AllDigits}
use Rattle.dali_frame.specs.declared.fault.LineFault.{LineFault}
use Rattle.dali_frame.specs.declared.fault.LineFault.TheVariants.{Length, Digit}
use Rattle.dali_frame.specs.Hex.{word_digits, SpellsHexNumber}

-- the line of a word: its four upper-case hexadecimal digits and a line feed
abbrev pub word_line : ℕ → List ℕ
word_line word = word_digits word ++ codes "\n"

-- the line spells the answer: `--` is no answer, and two hexadecimal digits are their byte
abbrev pub SpellsAnswer : List ℕ → Option ℕ → Type 0
SpellsAnswer line None = line ≡ codes "--"
SpellsAnswer line (Some byte) = (length line ≡ 2) × SpellsHexNumber line byte

-- why a line is no answer: it hasn't two bytes, or two that are neither `--` nor hexadecimal digits
abbrev pub IsLineFault : LineFault → List ℕ → Type 0
IsLineFault Length line = length line ≢ 2
IsLineFault Digit line = (length line ≡ 2) × (line ≢ codes "--") × ¬ (AllDigits 16 line)

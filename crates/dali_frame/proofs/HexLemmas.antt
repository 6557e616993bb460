-- The digits that a number is written with spell it.
use Rattle.std.proofs.Common.{◌≡◌, ◌<◌, ℕ, ◌/◌, ◌%◌, ◌^◌, true, arith}
use Rattle.std.proofs.lemmas.Bool.Decides.{nat_tests}
use Rattle.std.specs.Char.{digit_value}
use Rattle.std.specs.Fmt.{digit_glyph}
use Rattle.dali_frame.specs.Hex.{SpellsHexNumber, word_digits}

digit_value-digit_glyph : (digit : ℕ) → digit < 16 → digit_value (digit_glyph true digit) ≡ digit
digit_value-digit_glyph digit small = grind (arith, nat_tests)

-- the four digits of a word spell it
pub word_digits_spell : (word : ℕ) → word < 2 ^ 16 → SpellsHexNumber (word_digits word) word
word_digits_spell word small =
    let first = digit_value-digit_glyph (word / 256 / 16) (omega arith) in
    let second = digit_value-digit_glyph (word / 256 % 16) (omega arith) in
    let third = digit_value-digit_glyph (word % 256 / 16) (omega arith) in
    let fourth = digit_value-digit_glyph (word % 256 % 16) (omega arith) in
    simp (first, second, third, fourth)
    ((omega arith, (omega arith, (omega arith, (omega arith, tt)))), omega arith)

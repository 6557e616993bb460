-- Numbers in hexadecimal digits, the most significant digit first.
use Rattle.std.specs.Prelude.{◌≡◌, ℕ, ◌/◌, ◌%◌, true, List, [], ◌∷◌, ◌++◌}
use Rattle.std.specs.Fmt.{digit_glyph}
use Rattle.std.specs.Str.Parse.{AllDigits, digits_value}

-- these are hexadecimal digits, each in upper or lower case, and they spell this number
abbrev pub SpellsHexNumber : List ℕ → ℕ → Type 0
SpellsHexNumber digits number = AllDigits 16 digits × (digits_value 16 digits ≡ number)

-- the two upper-case hexadecimal digits of a byte
abbrev pub byte_digits : ℕ → List ℕ
byte_digits byte = digit_glyph true (byte / 16) ∷ digit_glyph true (byte % 16) ∷ []

-- the four upper-case hexadecimal digits of a word: those of its first byte, then of its second
abbrev pub word_digits : ℕ → List ℕ
word_digits word = byte_digits (word / 256) ++ byte_digits (word % 256)

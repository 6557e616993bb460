-- Global trade item numbers (profile, after GS1's rule of the check digit).
use Rattle.std.specs.Prelude.{◌≡◌, ◌==◌, ◌⊎◌, ℕ, ◌+◌, ◌*◌, ◌%◌, List, [], ◌∷◌, length, All, if◌then◌else◌}
use Rattle.std.specs.Char.{IsAsciiDigit, digit_value}
use Rattle.std.specs.Str.Parse.{digits_value}

-- the weight of a digit with this many digits to its right: 1 and 3 in turn, 1 for the last digit
abbrev pub weight_of : ℕ → ℕ
weight_of right = if right % 2 == 0 then 1 else 3

-- the sum of the digits, each times its weight
abbrev pub weighted_sum : List ℕ → ℕ
weighted_sum [] = 0
weighted_sum (digit ∷ digits) = digit_value digit * weight_of (length digits) + weighted_sum digits

abbrev pub IsGtinLength : ℕ → Type 0
IsGtinLength count = (count ≡ 8) ⊎ ((count ≡ 12) ⊎ ((count ≡ 13) ⊎ (count ≡ 14)))

-- 8, 12, 13 or 14 decimal digits, whose weighted sum is a multiple of ten
pub record IsGtin (text : List ℕ) : Type 0 where
  pub sized : IsGtinLength (length text)
  pub digits : All IsAsciiDigit text
  pub checked : weighted_sum text % 10 ≡ 0

-- the number's 14 decimal digits, leading zeros included, are a GTIN
abbrev pub IsGtinNumber : ℕ → Type 0
IsGtinNumber n = (s : List ℕ) × (length s ≡ 14) × IsGtin s × (digits_value 10 s ≡ n)

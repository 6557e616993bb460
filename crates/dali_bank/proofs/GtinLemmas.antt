-- Lemmas on texts of digits.
use Rattle.std.proofs.Common.{◌≡◌, ◌↔◌, ℕ, zero, suc, ◌+◌, ◌-◌, ◌*◌, ◌/◌, ◌%◌, ◌^◌, ◌<◌, ◌≤◌, List, [], ◌∷◌, All, ◌++◌}
use Rattle.std.proofs.Common.{replicate, inr, lit≤, length, get_or, drop, refl, sym, ◌∙◌, ap, arith, add-one, drop-cons}
use Rattle.std.proofs.Common.{length-drop}
use Rattle.std.proofs.Math.Nat.{pow-suc}
use Rattle.std.specs.Char.{IsAsciiDigit, digit_value}
use Rattle.std.specs.Str.Parse.{digits_value, digits_value_after}
use Rattle.std.proofs.lemmas.Bool.Decides.{nat_tests}
use Rattle.std.proofs.lemmas.Str.Parse.{IsNumeralModel, numerals_by_value, digits_value_short}
use Rattle.dali_bank.specs.Gtin.{IsGtin, IsGtinNumber, IsGtinLength, weighted_sum, weight_of}

all_of : (digit : ℕ) (digits : List ℕ) → IsAsciiDigit digit → All IsAsciiDigit digits
    → All IsAsciiDigit (digit ∷ digits)
all_of digit digits first others zero d within = first
all_of digit digits first others (suc k) d within = others k d (omega (arith, within))

-- the words of `parse` for texts of decimal digits
pub numerals : IsNumeralModel (All IsAsciiDigit) (digits_value 10)
numerals = numerals_by_value _ (record {
  empty = λ k d within. absurd (omega (arith, within));
  parts = λ digit digits all. (all 0 digit (omega arith), λ k d within. all (suc k) d (omega (arith, within)));
  more = λ digit digits first others. all_of digit digits first others;
})

pub digit_value-in_range : (digit : ℕ) → 48 ≤ digit → digit ≤ 57 → digit_value digit ≡ digit - 48
digit_value-in_range digit low high = grind (arith, nat_tests)

pub at_most_14 : (count : ℕ) → IsGtinLength count → (0 < count) × (count ≤ 14)
at_most_14 count sized = grind arith

pub weighted_sum-drop : (ds : List ℕ) (i : ℕ) → i < length ds
    → weighted_sum (drop i ds)
    ≡ digit_value (get_or ds i 0) * weight_of (length ds - 1 - i) + weighted_sum (drop (i + 1) ds)
weighted_sum-drop ds i within =
    let right : length (drop (suc i) ds) ≡ length ds - 1 - i = simp length-drop (omega arith) in
    rw (add-one, drop-cons ds i 0)
    (ap (λ n. digit_value (get_or ds i 0) * weight_of n + weighted_sum (drop (suc i) ds)) right)

-- ---- the digits of a number

-- a digit less leaves less by a power
pub tenth_small : (rest place : ℕ) → rest < 10 ^ suc place → rest / 10 < 10 ^ place
tenth_small rest place small =
    let power : 10 ^ suc place ≡ 10 ^ place * 10 = pow-suc 10 place in
    omega (arith, small, power)

-- the last digit of a number before its other digits
pub written_more : (rest : ℕ) (digits : List ℕ)
    → digits_value_after 10 (rest / 10) ((48 + rest % 10) ∷ digits) ≡ digits_value_after 10 rest digits
written_more rest digits =
    let value : digit_value (48 + rest % 10) ≡ 48 + rest % 10 - 48 =
    digit_value-in_range (48 + rest % 10) (omega arith) (omega arith) in
    let whole : rest / 10 * 10 + digit_value (48 + rest % 10) ≡ rest = rw value (omega arith) in
    ap (λ n. digits_value_after 10 n digits) whole

-- two texts of as many digits that write one number are one
pub same_digits : (m n : ℕ) (a b : List ℕ) → length a ≡ length b → All IsAsciiDigit a → All IsAsciiDigit b
    → digits_value_after 10 m a ≡ digits_value_after 10 n b → (m ≡ n) × (a ≡ b)
same_digits m n [] [] sized one other same = (same, refl)
same_digits m n [] (d ∷ b) sized one other same = absurd (omega arith)
same_digits m n (c ∷ a) [] sized one other same = absurd (omega arith)
same_digits m n (c ∷ a) (d ∷ b) sized one other same =
    let tails = same_digits (m * 10 + digit_value c) (n * 10 + digit_value d) a b (omega arith)
    (λ k e within. one (suc k) e (omega (arith, within)))
    (λ k e within. other (suc k) e (omega (arith, within))) same in
    let c_digit = one 0 c (omega arith) in
    let d_digit = other 0 d (omega arith) in
    let c_value : digit_value c ≡ c - 48 = digit_value-in_range c c_digit.0 c_digit.1 in
    let d_value : digit_value d ≡ d - 48 = digit_value-in_range d d_digit.0 d_digit.1 in
    let heads : m * 10 + (c - 48) ≡ n * 10 + (d - 48) = rw (← c_value, ← d_value) tails.0 in
    let first : c ≡ d = omega (arith, heads, c_digit, d_digit) in
    (omega (arith, heads, c_digit, d_digit), rw first (ap (λ t. d ∷ t) tails.1))

-- the digits of a number are a GTIN exactly when 14 digits that write it are
pub gtin_number_from_digits : (n : ℕ) (s : List ℕ) → length s ≡ 14 → All IsAsciiDigit s → digits_value 10 s ≡ n
    → IsGtin s ↔ IsGtinNumber n
gtin_number_from_digits n s sized digits value = (
  λ is_gtin. (s, sized, is_gtin, value),
  λ known.
      let same : s ≡ known.0 =
      (same_digits 0 0 s known.0 (sized ∙ sym known.1) digits known.2.digits (value ∙ sym known.3)).1 in
      rw same known.2,
)

-- 14 digits write a number below 10 to the 14
pub gtin_number_small : (n : ℕ) → IsGtinNumber n → n < 10 ^ 14
gtin_number_small n known =
    rw (← known.3) (digits_value_short numerals known.0 14 known.2.digits (omega (arith, known.1)))

-- ---- leading zeros

-- zeros in front of digits change neither their number nor their weighted sum
zeros_before : (k : ℕ) (s : List ℕ) → All IsAsciiDigit s
    → All IsAsciiDigit (replicate k 48 ++ s) × (length (replicate k 48 ++ s) ≡ k + length s)
    × (weighted_sum (replicate k 48 ++ s) ≡ weighted_sum s)
    × (digits_value 10 (replicate k 48 ++ s) ≡ digits_value 10 s)
zeros_before zero s digits = (digits, omega arith, refl, refl)
zeros_before (suc k) s digits =
    let rest = zeros_before k s digits in
    (all_of 48 (replicate k 48 ++ s) (lit≤ tt, lit≤ tt) rest.0, omega (arith, rest.1), omega (arith, rest.2), rest.3)

-- a GTIN with leading zeros to 14 digits is one
pub gtin_number : (s : List ℕ) → IsGtin s → IsGtinNumber (digits_value 10 s)
gtin_number s is_gtin =
    let few = at_most_14 (length s) is_gtin.sized in
    let padded = zeros_before (14 - length s) s is_gtin.digits in
    let sized : length (replicate (14 - length s) 48 ++ s) ≡ 14 = omega (arith, padded.1, few) in (
      replicate (14 - length s) 48 ++ s,
      sized,
      record {
        sized = inr (inr (inr sized));
        digits = padded.0;
        checked = rw padded.2 is_gtin.checked;
      },
      padded.3,
    )

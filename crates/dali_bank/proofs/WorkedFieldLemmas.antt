-- Which bytes stand for a value and which don't, near the edges: cases that a weaker definition of a field would let
-- through.
use Rattle.std.proofs.Common.{◌≡◌, ℕ, ◌%◌, replicate, List, [], ◌∷◌, get_or, refl, arith, ap, zero, suc}
use Rattle.dali_bank.specs.declared.field.Form.TheVariants as form
use Rattle.dali_bank.specs.declared.shown.Shown.{Shown}
use Rattle.dali_bank.specs.declared.shown.Shown.TheVariants.{Absent, Number, Raw, Text}
use Rattle.dali_bank.specs.declared.field.Field.TheVariants.{Year}
use Rattle.dali_bank.specs.Gtin.{IsGtin, IsGtinLength, weighted_sum}
use Rattle.dali_bank.specs.Layout.{SuitsForm}
use Rattle.dali_bank.specs.Numbers.{SpellsNumber}
use Rattle.dali_bank.specs.Shown.{IsShown, IsFormShown, ShowsValue}
use Rattle.dali_bank.specs.Spelling.{unknown, number, hex, text, IsText, IsTextByte, AreFormBytes}

-- texts

pub from_space : IsTextByte 0x20
from_space = (omega arith, omega arith)

pub to_tilde : IsTextByte 0x7E
to_tilde = (omega arith, omega arith)

pub not_below_space : IsTextByte 0x1F → ⊥
not_below_space is = omega (arith, is.0)

pub not_above_tilde : IsTextByte 0x7F → ⊥
not_above_tilde is = omega (arith, is.1)

pub filled_with_zeros : AreFormBytes form.Text 3 (text (0x41 ∷ [])) (0x41 ∷ 0 ∷ 0 ∷ [])
filled_with_zeros =
    (record { some = omega arith; few = omega arith; characters = ((omega arith, omega arith), tt) }, refl)

pub not_with_spaces : AreFormBytes form.Text 3 (text (0x41 ∷ [])) (0x41 ∷ 0x20 ∷ 0x20 ∷ []) → ⊥
not_with_spaces are = omega (arith, ap (λ (bytes : List ℕ). get_or bytes 1 0) are.1)

pub not_empty : (bytes : List ℕ) → AreFormBytes form.Text 3 (text []) bytes → ⊥
not_empty bytes are = omega (arith, are.0.some)

pub as_long_as_the_field : IsText 2 (0x41 ∷ 0x42 ∷ [])
as_long_as_the_field =
    record {
      some = omega arith;
      few = omega arith;
      characters = ((omega arith, omega arith), ((omega arith, omega arith), tt));
    }

pub not_longer : IsText 2 (0x41 ∷ 0x42 ∷ 0x43 ∷ []) → ⊥
not_longer is = omega (arith, is.few)

-- identification numbers, with 2 bytes for 8

pub hexadecimal_digits : AreFormBytes form.Identification 2 (hex (0x30 ∷ 0x31 ∷ 0x30 ∷ 0x61 ∷ [])) (0x01 ∷ 0x0A ∷ [])
hexadecimal_digits = (
  refl,
  (omega arith, (omega arith, (omega arith, (omega arith, tt)))),
  record { sized = refl; in_range = (omega arith, (omega arith, tt)); adds_up = refl },
)

pub not_last_digits_first : AreFormBytes form.Identification 2 (hex (0x30 ∷ 0x31 ∷ 0x30 ∷ 0x61 ∷ [])) (0x0A ∷ 0x01 ∷ [])
    → ⊥
not_last_digits_first are = omega (arith, are.2.adds_up)

pub no_digit_g : (bytes : List ℕ) → AreFormBytes form.Identification 1 (hex (0x30 ∷ 0x67 ∷ [])) bytes → ⊥
no_digit_g bytes are = omega (arith, are.1.1.0)

pub no_odd_digits : (bytes : List ℕ) → AreFormBytes form.Identification 1 (hex (0x30 ∷ [])) bytes → ⊥
no_odd_digits bytes are = omega (arith, are.0)

-- numbers

pub most_significant_first : AreFormBytes (form.Number 0 65534) 2 (number 0x0102) (1 ∷ 2 ∷ [])
most_significant_first =
    (omega arith, omega arith, record { sized = refl; in_range = (omega arith, (omega arith, tt)); adds_up = refl })

pub not_least_first : AreFormBytes (form.Number 0 65534) 2 (number 0x0102) (2 ∷ 1 ∷ []) → ⊥
not_least_first are = omega (arith, are.2.adds_up)

pub last_week : AreFormBytes (form.Number 1 53) 1 (number 53) (53 ∷ [])
last_week = (omega arith, omega arith, record { sized = refl; in_range = (omega arith, tt); adds_up = refl })

pub no_week_above : (bytes : List ℕ) → AreFormBytes (form.Number 1 53) 1 (number 54) bytes → ⊥
no_week_above bytes are = omega (arith, are.1)

pub no_week_0 : (bytes : List ℕ) → AreFormBytes (form.Number 1 53) 1 (number 0) bytes → ⊥
no_week_0 bytes are = omega (arith, are.0)

pub not_in_fewer_bytes : SpellsNumber 2 2 (2 ∷ []) → ⊥
not_in_fewer_bytes spells = omega (arith, spells.sized)

pub not_by_more_than_bytes : SpellsNumber 2 256 (0 ∷ 256 ∷ []) → ⊥
not_by_more_than_bytes spells = omega (arith, spells.in_range.1.0)

pub unknown_in_every_byte : AreFormBytes (form.Number 0 65534) 2 unknown (0xFF ∷ 0xFF ∷ [])
unknown_in_every_byte = refl

pub not_in_one_byte_alone : AreFormBytes (form.Number 0 65534) 2 unknown (0xFF ∷ 0xFE ∷ []) → ⊥
not_in_one_byte_alone are = omega (arith, ap (λ (bytes : List ℕ). get_or bytes 1 0) are)

pub no_text_for_a_number : (s bytes : List ℕ) → AreFormBytes (form.Number 1 53) 1 (text s) bytes → ⊥
no_text_for_a_number s bytes are = are

-- how a bank's bytes are shown

pub not_shown_past_the_end : (n : ℕ) → IsFormShown (form.Number 0 99) 1 [] (Number n) → ⊥
not_shown_past_the_end n is = omega (arith, is.1.2.sized)

pub shown_as_its_number : IsFormShown (form.Number 0 99) 1 (26 ∷ []) (Number 26)
shown_as_its_number = (
  λ same. omega (arith, ap (λ (bytes : List ℕ). get_or bytes 0 0) same),
  (
    omega arith,
    omega arith,
    record { sized = refl; in_range = (omega arith, tt); adds_up = refl },
  ),
)

pub unknown_is_not_raw : IsFormShown (form.Number 0 99) 1 (0xFF ∷ []) Raw → ⊥
unknown_is_not_raw is = is.0 refl

pub above_the_range_is_raw : IsFormShown (form.Number 0 99) 1 (100 ∷ []) Raw
above_the_range_is_raw = (λ same. omega (arith, ap (λ (bytes : List ℕ). get_or bytes 0 0) same), by) where
  by : (shown : Shown) → ShowsValue (form.Number 0 99) 1 (100 ∷ []) shown → ⊥
  by (Number n) shows = omega (arith, shows.1, shows.2.adds_up)
  by shown shows = absurd shows

pub in_the_range_is_not_raw : IsFormShown (form.Number 0 99) 1 (99 ∷ []) Raw → ⊥
in_the_range_is_not_raw is =
    is.1 (Number 99) (omega arith, omega arith, record { sized = refl; in_range = (omega arith, tt); adds_up = refl })

pub no_text_after_a_zero : (k : ℕ) → IsFormShown form.Text 3 (0x41 ∷ 0 ∷ 0x42 ∷ []) (Text k) → ⊥
no_text_after_a_zero zero is = omega (arith, is.1.1.0.some)
no_text_after_a_zero (suc zero) is = omega (arith, ap (λ (bytes : List ℕ). get_or bytes 2 0) is.1.1.1)
no_text_after_a_zero (suc (suc k)) is = omega (arith, is.1.1.0.characters.1.0.0)

pub absent_one_byte_short : IsShown (replicate 19 0) Year Absent
absent_one_byte_short = omega arith

pub not_absent_with_its_last_byte : IsShown (replicate 20 0) Year Absent → ⊥
not_absent_with_its_last_byte is = omega (arith, is)

-- global trade item numbers

pub checked_by_its_last_digit : weighted_sum (0x39 ∷ 0x36 ∷ 0x33 ∷ 0x38 ∷ 0x35 ∷ 0x30 ∷ 0x37 ∷ 0x34 ∷ []) % 10 ≡ 0
checked_by_its_last_digit = refl

pub not_by_another : IsGtin (0x39 ∷ 0x36 ∷ 0x33 ∷ 0x38 ∷ 0x35 ∷ 0x30 ∷ 0x37 ∷ 0x35 ∷ []) → ⊥
not_by_another is = omega (arith, is.checked)

pub not_of_nine_digits : IsGtinLength 9 → ⊥
not_of_nine_digits is = omega (arith, is)

-- rows of the layout

pub room_for_the_number_above : SuitsForm (form.Number 0 65534) 2
room_for_the_number_above = (omega arith, omega arith)

pub no_room_for_the_number_above : SuitsForm (form.Number 0 65535) 2 → ⊥
no_room_for_the_number_above has = omega (arith, has.1)

-- The bank that a text spells, and the text that is written of a bank.
use Rattle.std.specs.Prelude.{◌≡◌, ◌==◌, ◌||◌, ◌⊎◌, ◌*◌, ◌<◌, ◌≤◌, ◌++◌, ℕ, List, [], ◌∷◌, Bool, not, Ok}
use Rattle.std.specs.Prelude.{codes, drop, length, take}
use Rattle.std.specs.Int.{div_ceil}
use Rattle.std.specs.List.{filter, flat_map, join_by, range_with_len}
use Rattle.hex.specs.Hex.{decode_of, encode_upper}
use Rattle.dali_input.specs.declared.fault.InputFault.{InputFault}
use Rattle.dali_input.specs.declared.fault.InputFault.TheVariants.{Json, Document, TooBig, Hex, Memory, File}

-- a space, a tab, a line feed or a carriage return
abbrev pub is_blank : ℕ → Bool
is_blank byte = byte == 0x20 || (byte == 0x09 || (byte == 0x0A || byte == 0x0D))

-- the text without its blanks
abbrev pub digits_in : List ℕ → List ℕ
digits_in text = filter (λ byte. not (is_blank byte)) text

-- the most bytes of a text, and of the bank in it
abbrev pub text_limit : ℕ
text_limit = 4096

abbrev pub bank_limit : ℕ
bank_limit = 255

-- the text spells these bytes, each by two hexadecimal digits in either case
abbrev pub SpellsBytes : List ℕ → List ℕ → Type 0
SpellsBytes text bytes = decode_of (digits_in text) ≡ Ok bytes

-- the text spells a bank
pub record IsBankIn (text bank : List ℕ) : Type 0 where
  pub fits : length text ≤ text_limit
  pub spelled : SpellsBytes text bank
  pub few : length bank ≤ bank_limit

-- the text spells more bytes than a bank has
pub record SpellsTooMany (text : List ℕ) : Type 0 where
  pub fits : length text ≤ text_limit
  pub bytes : List ℕ
  pub spelled : SpellsBytes text bytes
  pub many : bank_limit < length bytes

-- why a text spells no bank; want of memory may come at any text of no more bytes than the limit
abbrev pub IsTextFault : List ℕ → InputFault → Type 0
IsTextFault text TooBig = (text_limit < length text) ⊎ SpellsTooMany text
IsTextFault text Hex = (length text ≤ text_limit) × ((bytes : List ℕ) → ¬ SpellsBytes text bytes)
IsTextFault text Memory = length text ≤ text_limit
IsTextFault text Json = ⊥
IsTextFault text Document = ⊥
IsTextFault text File = ⊥

-- ---- the text of a bank

-- how many bytes a row has, except for the last one
abbrev pub row_size : ℕ
row_size = 16

-- a byte's two upper-case hexadecimal digits
abbrev pub byte_digits : ℕ → List ℕ
byte_digits byte = encode_upper (byte ∷ [])

-- a row: the digits of its bytes with a space between them, and a line feed
abbrev pub row_text : List ℕ → List ℕ
row_text row = join_by byte_digits (codes " ") row ++ codes "\n"

-- the bytes of a row
abbrev pub row_of : ℕ → List ℕ → List ℕ
row_of number bank = take row_size (drop (row_size * number) bank)

-- all rows of a bank
unfoldable pub rows_text : List ℕ → List ℕ
rows_text bank = flat_map (λ number. row_text (row_of number bank)) (range_with_len 0 (div_ceil (length bank) row_size))

-- Field bytes: which bytes a field has for a value.
use Rattle.std.specs.Prelude.{◌≡◌, ℕ, ◌-◌, ◌*◌, ◌≤◌, List, ◌++◌, length, replicate, take, ⊤}
use Rattle.std.specs.List.{AllByRecursion}
use Rattle.std.specs.Str.Parse.{AllDigits, digits_value}
use Rattle.dali_bank.specs.declared.field.Field.{Field}
use Rattle.dali_bank.specs.declared.field.Form.{Form}
use Rattle.dali_bank.specs.declared.field.Form.TheVariants as form
use Rattle.dali_bank.specs.declared.value.Value.{Value}
use Rattle.dali_bank.specs.declared.value.Value.TheVariants.{Unknown, Number, Digits, Hex, Text}
use Rattle.dali_bank.specs.Layout.{row_of, length_of}
use Rattle.dali_bank.specs.Numbers.{SpellsNumber}
use Rattle.dali_bank.specs.Gtin.{IsGtin}

-- a value, with its text as a list of bytes
pub data Plain : Type 0 where
  unknown : Plain
  number : ℕ → Plain
  digits : List ℕ → Plain
  hex : List ℕ → Plain
  text : List ℕ → Plain

abbrev pub plain : Value → Plain
plain Unknown = unknown
plain (Number n) = number n
plain (Digits s) = digits s.now
plain (Hex s) = hex s.now
plain (Text s) = text s.now

-- a field of this form takes values of this kind
abbrev pub FormTakes : Form → Plain → Type 0
FormTakes form.Gtin (digits s) = ⊤
FormTakes form.Identification (hex s) = ⊤
FormTakes (form.Number least most) (number n) = ⊤
FormTakes form.Text (text s) = ⊤
FormTakes _ unknown = ⊤
FormTakes _ _ = ⊥

-- a character of a text, from space to tilde
abbrev pub IsTextByte : ℕ → Type 0
IsTextByte byte = (0x20 ≤ byte) × (byte ≤ 0x7E)

-- 1 to `size` characters
pub record IsText (size : ℕ) (s : List ℕ) : Type 0 where
  pub some : 1 ≤ length s
  pub few : length s ≤ size
  pub characters : AllByRecursion IsTextByte s

-- `size` bytes stand for the value in a field of this form
abbrev pub AreFormBytes : Form → ℕ → Plain → List ℕ → Type 0
AreFormBytes form.Gtin size (digits s) bytes = IsGtin s × SpellsNumber size (digits_value 10 s) bytes
AreFormBytes form.Identification size (hex s) bytes =
    (length s ≡ 2 * size) × AllDigits 16 s × SpellsNumber size (digits_value 16 s) bytes
AreFormBytes (form.Number least most) size (number n) bytes = (least ≤ n) × (n ≤ most) × SpellsNumber size n bytes
AreFormBytes form.Text size (text s) bytes = IsText size s × (bytes ≡ s ++ replicate (size - length s) 0)
AreFormBytes _ size unknown bytes = bytes ≡ replicate size 0xFF
AreFormBytes _ size _ bytes = ⊥

-- the first k bytes are a text, for which all bytes stand
abbrev pub ShowsText : ℕ → List ℕ → ℕ → Type 0
ShowsText size bytes k = (k ≤ length bytes) × AreFormBytes form.Text size (text (take k bytes)) bytes

-- some bytes stand for the value in a field of this form
abbrev pub HasFormBytes : Form → ℕ → Plain → Type 0
HasFormBytes form size value = (bytes : List ℕ) × AreFormBytes form size value bytes

-- the bytes stand for the value in the field
abbrev pub AreFieldBytes : Field → Plain → List ℕ → Type 0
AreFieldBytes field value bytes = AreFormBytes (row_of field).form (length_of field) value bytes

-- some bytes stand for the value
abbrev pub HasBytes : Field → Plain → Type 0
HasBytes field value = HasFormBytes (row_of field).form (length_of field) value

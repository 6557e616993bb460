-- How the bytes of a memory bank 1 are printed.
use Rattle.std.specs.Prelude.{◌≡◌, ◌⊎◌, ◌+◌, ◌-◌, ◌<◌, ◌≤◌, ℕ, List, [], ◌∷◌, ◌++◌, codes, decimal, drop, length, map}
use Rattle.std.specs.Prelude.{replicate, take}
use Rattle.std.specs.List.{AllByRecursion, flat_map}
use Rattle.dali_bank.specs.declared.field.Field.{Field}
use Rattle.dali_bank.specs.declared.field.Field.TheVariants.{Gtin, Identification, Year, Week, InputPower, MinDimPower}
use Rattle.dali_bank.specs.declared.field.Field.TheVariants.{MinVoltage, MaxVoltage, LightOutput, Cri, Cct}
use Rattle.dali_bank.specs.declared.field.Field.TheVariants.{Distribution, Colour, Luminaire}
use Rattle.dali_bank.specs.declared.shown.Shown.{Shown}
use Rattle.dali_bank.specs.declared.shown.Shown.TheVariants as shown
use Rattle.dali_bank.specs.Keys.{key_of}
use Rattle.dali_bank.specs.Shown.{IsShown, part_of}
use Rattle.dali_text.specs.declared.bank_lines.Row.{Row}
use Rattle.dali_text.specs.declared.bank_lines.Row.TheVariants.{Last, Indicator, Lock, Format, Of}
use Rattle.dali_text.specs.Digits.{bytes_digits}

-- ---- a row

-- the rows, by rising location
abbrev pub rows : List Row
rows =
    Last ∷ Indicator ∷ Lock ∷ Of Gtin ∷ Of Identification ∷ Format ∷ Of Year ∷ Of Week ∷ Of InputPower ∷ Of MinDimPower
    ∷ Of MinVoltage ∷ Of MaxVoltage
    ∷ Of LightOutput ∷ Of Cri ∷ Of Cct ∷ Of Distribution ∷ Of Colour ∷ Of Luminaire ∷ []

-- a row's word
abbrev pub word_of : Row → List ℕ
word_of Last = codes "last"
word_of Indicator = codes "indicator"
word_of Lock = codes "lock"
word_of Format = codes "format"
word_of (Of field) = key_of field

-- fourteen decimal digits, leading zeros included
abbrev pub fourteen_digits : ℕ → List ℕ
fourteen_digits number = replicate (14 - length (decimal number)) 0x30 ++ decimal number

-- a field's number: that of a GTIN has fourteen digits
abbrev pub number_text : Field → ℕ → List ℕ
number_text Gtin number = fourteen_digits number
number_text _ number = decimal number

-- a field whose bytes are shown in this way
abbrev pub shown_text : Field → List ℕ → Shown → List ℕ
shown_text field bytes shown.Absent = codes "absent"
shown_text field bytes shown.Unknown = codes "unknown"
shown_text field bytes (shown.Number number) = number_text field number
shown_text field bytes shown.Hex = bytes_digits bytes
shown_text field bytes (shown.Text count) = codes "text " ++ take count bytes
shown_text field bytes shown.Raw = codes "raw " ++ bytes_digits bytes

-- the `count` bytes from a location on, as they are, or absent if the bank ends before the last of them
abbrev pub IsPlainText : List ℕ → ℕ → ℕ → List ℕ → Type 0
IsPlainText bank first count text = ((length bank < first + count) × (text ≡ codes "absent"))
    ⊎ ((first + count ≤ length bank) × (text ≡ bytes_digits (take count (drop first bank))))

-- what a row says of the bank
abbrev pub IsRowText : List ℕ → Row → List ℕ → Type 0
IsRowText bank Last text = IsPlainText bank 0x00 1 text
IsRowText bank Indicator text = IsPlainText bank 0x01 1 text
IsRowText bank Lock text = IsPlainText bank 0x02 1 text
IsRowText bank Format text = IsPlainText bank 0x11 2 text
IsRowText bank (Of field) text =
    (answer : Shown) × IsShown bank field answer × (text ≡ shown_text field (part_of field bank) answer)

-- ---- the whole

-- a row and its text
pub record Line : Type 0 where
  pub row : Row
  pub text : List ℕ

abbrev pub line_text : Line → List ℕ
line_text line = word_of line.row ++ codes " " ++ line.text ++ codes "\n"

-- lines for these rows, with what each says of the bank, are this text
pub record AreLines (bank : List ℕ) (wanted : List Row) (text : List ℕ) : Type 0 where
  pub lines : List Line
  pub rows_are : map (λ line. line.row) lines ≡ wanted
  pub each : AllByRecursion (λ line. IsRowText bank line.row line.text) lines
  pub text_is : text ≡ flat_map line_text lines

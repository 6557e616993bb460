-- The text that `fields` writes: an array in JSON, with a line for each field of an order.
use Rattle.std.specs.Prelude.{◌≤◌, ℕ, List, [], ◌∷◌, ◌++◌, Option, Some, None, codes, decimal, length, replicate}
use Rattle.std.specs.List.{flat_map}
use Rattle.serde_json.specs.Data.{Data, null, number as number_data, unsigned, string, object, member, no_members}
use Rattle.serde_json.specs.Written.{compact_text}
use Rattle.dali_bank.specs.declared.field.Field.{Field}
use Rattle.dali_bank.specs.declared.field.Field.TheVariants.{Gtin, Identification, Year, Week, InputPower, MinDimPower}
use Rattle.dali_bank.specs.declared.field.Field.TheVariants.{MinVoltage, MaxVoltage, LightOutput, Cri, Cct}
use Rattle.dali_bank.specs.declared.field.Field.TheVariants.{Distribution, Colour, Luminaire}
use Rattle.dali_bank.specs.Keys.{key_of}
use Rattle.dali_bank.specs.Layout.{fields, first_of, length_of, row_of}
use Rattle.dali_bank.specs.Spelling.{FormTakes, HasBytes, digits, hex, number, text}
use Rattle.dali_text.specs.Digits.{bytes_digits}
use Rattle.dali_file_commands.specs.declared.fields.Form.{Form}
use Rattle.dali_file_commands.specs.declared.fields.Form.TheVariants as form

-- ---- what a field means

-- a few words on it
abbrev pub help_of : Field → List ℕ
help_of Gtin = codes "global trade item number of the luminaire"
help_of Identification = codes "identification number of the luminaire"
help_of Year = codes "year of manufacture"
help_of Week = codes "week of manufacture"
help_of InputPower = codes "nominal input power"
help_of MinDimPower = codes "power at the minimum dim level"
help_of MinVoltage = codes "nominal minimum AC mains voltage"
help_of MaxVoltage = codes "nominal maximum AC mains voltage"
help_of LightOutput = codes "nominal light output"
help_of Cri = codes "colour rendering index"
help_of Cct = codes "correlated colour temperature"
help_of Distribution = codes "light distribution type"
help_of Colour = codes "colour of the luminaire"
help_of Luminaire = codes "identification of the luminaire"

-- the unit of its number, or null
abbrev pub unit_data : Field → Data
unit_data Gtin = null
unit_data Identification = null
unit_data Year = null
unit_data Week = null
unit_data InputPower = string (codes "W")
unit_data MinDimPower = string (codes "W")
unit_data MinVoltage = string (codes "V")
unit_data MaxVoltage = string (codes "V")
unit_data LightOutput = string (codes "lm")
unit_data Cri = null
unit_data Cct = string (codes "K")
unit_data Distribution = null
unit_data Colour = null
unit_data Luminaire = null

-- ---- what a field takes

abbrev pub form_of : Field → Form
form_of Gtin = form.Gtin
form_of Identification = form.Identification
form_of Year = form.Number 0 99
form_of Week = form.Number 1 53
form_of InputPower = form.Number 0 65534
form_of MinDimPower = form.Number 0 65534
form_of MinVoltage = form.Number 0 65534
form_of MaxVoltage = form.Number 0 65534
form_of LightOutput = form.Number 0 16777214
form_of Cri = form.Number 0 100
form_of Cct = form.Number 0 65533
form_of Distribution = form.Number 0 254
form_of Colour = form.Text 24
form_of Luminaire = form.Text 60

-- the form is that of the layout: of numbers some bytes stand in the field for the least and for the most, and for none
-- outside them, and of texts for one of one character and for one of the most, and for none that is shorter or longer
abbrev pub IsFormOf : Field → Form → Type 0
IsFormOf field form.Gtin = (s : List ℕ) → FormTakes (row_of field).form (digits s)
IsFormOf field form.Identification = (s : List ℕ) → FormTakes (row_of field).form (hex s)
IsFormOf field (form.Number least most) = HasBytes field (number least) × HasBytes field (number most)
    × ((n : ℕ) → HasBytes field (number n) → (least ≤ n) × (n ≤ most))
IsFormOf field (form.Text most) = HasBytes field (text (codes "A")) × HasBytes field (text (replicate most 0x41))
    × ((s : List ℕ) → HasBytes field (text s) → (1 ≤ length s) × (length s ≤ most))

abbrev pub FormsAreOfLayout : Type 0
FormsAreOfLayout = (field : Field) → IsFormOf field (form_of field)

-- the word of a form
abbrev pub form_word : Form → List ℕ
form_word form.Gtin = codes "gtin"
form_word form.Identification = codes "identification"
form_word (form.Number least most) = codes "number"
form_word (form.Text most) = codes "text"

-- the least number, or the fewest characters of a text
abbrev pub least_of : Form → Option ℕ
least_of form.Gtin = None
least_of form.Identification = None
least_of (form.Number least most) = Some least
least_of (form.Text most) = Some 1

-- the greatest number, or the most characters of a text
abbrev pub most_of : Form → Option ℕ
most_of form.Gtin = None
most_of form.Identification = None
most_of (form.Number least most) = Some most
most_of (form.Text most) = Some most

-- ---- as JSON

-- a number, or null
abbrev pub number_or_null : Option ℕ → Data
number_or_null None = null
number_or_null (Some value) = number_data (unsigned value)

-- by rising keys
abbrev pub field_data : Field → Data
field_data field = object (
    member (codes "bytes") (number_data (unsigned (length_of field)))
    (member (codes "first") (number_data (unsigned (first_of field)))
    (member (codes "form") (string (form_word (form_of field)))
    (member (codes "help") (string (help_of field))
    (member (codes "key") (string (key_of field))
    (member (codes "least") (number_or_null (least_of (form_of field)))
    (member (codes "most") (number_or_null (most_of (form_of field)))
    (member (codes "unit") (unit_data field)
    (member (codes "unknown") (string (bytes_digits (replicate (length_of field) 0xFF))) no_members)))))))))

-- the line of a field, without its end
abbrev pub field_text : Field → List ℕ
field_text field = compact_text (field_data field)

-- the pieces in which it is written: to its first location, to its key, and to the bytes of unknown
abbrev pub place_text : ℕ → ℕ → List ℕ
place_text bytes first = codes "{\"bytes\":" ++ decimal bytes ++ codes ",\"first\":" ++ decimal first

abbrev pub words_text : List ℕ → List ℕ → List ℕ → List ℕ
words_text word help key =
    codes ",\"form\":\"" ++ word ++ codes "\",\"help\":\"" ++ help ++ codes "\",\"key\":\"" ++ key ++ codes "\""

abbrev pub range_text : Option ℕ → Option ℕ → List ℕ → List ℕ
range_text least most unit =
    codes ",\"least\":" ++ compact_text (number_or_null least)
    ++ codes ",\"most\":" ++ compact_text (number_or_null most)
    ++ codes ",\"unit\":" ++ unit ++ codes ",\"unknown\":\""

-- the lines of these fields, with a comma between two
abbrev pub lines_text : List Field → List ℕ
lines_text [] = []
lines_text (field ∷ rest) = field_text field ++ flat_map (λ field. codes ",\n" ++ field_text field) rest

-- the array of these fields
abbrev pub array_text : List Field → List ℕ
array_text those = codes "[\n" ++ lines_text those ++ codes "\n]\n"

-- all that is written
abbrev pub fields_text : List ℕ
fields_text = array_text fields

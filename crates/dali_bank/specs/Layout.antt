-- Where the fields of memory bank 1 lie, and what each takes (IEC 62386-251, content format 0003h).
use Rattle.std.specs.Prelude.{◌≡◌, ℕ, ◌+◌, ◌^◌, ◌<◌, ◌≤◌, List, [], ◌∷◌}
use Rattle.dali_bank.specs.declared.field.Field.{Field}
use Rattle.dali_bank.specs.declared.field.Field.TheVariants.{Gtin, Identification, Year, Week, InputPower, MinDimPower}
use Rattle.dali_bank.specs.declared.field.Field.TheVariants.{MinVoltage, MaxVoltage, LightOutput, Cri, Cct}
use Rattle.dali_bank.specs.declared.field.Field.TheVariants.{Distribution, Colour, Luminaire}
use Rattle.dali_bank.specs.declared.field.Row.{Row}
use Rattle.dali_bank.specs.declared.field.Form.{Form}
use Rattle.dali_bank.specs.declared.field.Form.TheVariants as form

-- the fields, by rising location
abbrev pub fields : List Field
fields =
    Gtin ∷ Identification ∷ Year ∷ Week ∷ InputPower ∷ MinDimPower ∷ MinVoltage ∷ MaxVoltage ∷ LightOutput ∷ Cri ∷ Cct
    ∷ Distribution ∷ Colour ∷ Luminaire ∷ []

-- a field's place among the fields
abbrev pub rank_of : Field → ℕ
rank_of Gtin = 0
rank_of Identification = 1
rank_of Year = 2
rank_of Week = 3
rank_of InputPower = 4
rank_of MinDimPower = 5
rank_of MinVoltage = 6
rank_of MaxVoltage = 7
rank_of LightOutput = 8
rank_of Cri = 9
rank_of Cct = 10
rank_of Distribution = 11
rank_of Colour = 12
rank_of Luminaire = 13

-- a field's row of the layout: its first location, how many bytes it has, and what it takes
abbrev pub row_of : Field → Row
row_of Gtin = record { first = 0x03; length = 6; form = form.Gtin }
row_of Identification = record { first = 0x09; length = 8; form = form.Identification }
row_of Year = record { first = 0x13; length = 1; form = form.Number 0 99 }
row_of Week = record { first = 0x14; length = 1; form = form.Number 1 53 }
row_of InputPower = record { first = 0x15; length = 2; form = form.Number 0 65534 }
row_of MinDimPower = record { first = 0x17; length = 2; form = form.Number 0 65534 }
row_of MinVoltage = record { first = 0x19; length = 2; form = form.Number 0 65534 }
row_of MaxVoltage = record { first = 0x1B; length = 2; form = form.Number 0 65534 }
row_of LightOutput = record { first = 0x1D; length = 3; form = form.Number 0 16777214 }
row_of Cri = record { first = 0x20; length = 1; form = form.Number 0 100 }
row_of Cct = record { first = 0x21; length = 2; form = form.Number 0 65533 }
row_of Distribution = record { first = 0x23; length = 1; form = form.Number 0 254 }
row_of Colour = record { first = 0x24; length = 24; form = form.Text }
row_of Luminaire = record { first = 0x3C; length = 60; form = form.Text }

abbrev pub first_of : Field → ℕ
first_of field = (row_of field).first

abbrev pub length_of : Field → ℕ
length_of field = (row_of field).length

-- `size` bytes suit this form: they have room for each of its values, and for the number of FFh in every byte above
-- them
abbrev pub SuitsForm : Form → ℕ → Type 0
SuitsForm form.Gtin size = size ≡ 6
SuitsForm form.Identification size = size ≡ 8
SuitsForm (form.Number least most) size = (size ≤ 8) × (most + 1 < 256 ^ size)
SuitsForm form.Text size = (1 ≤ size) × (size ≤ 60)

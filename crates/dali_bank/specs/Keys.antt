-- The word that names a field, as a key of an order and in front of what is shown of it (profile).
use Rattle.std.specs.Prelude.{ℕ, List, codes}
use Rattle.dali_bank.specs.declared.field.Field.{Field}
use Rattle.dali_bank.specs.declared.field.Field.TheVariants.{Gtin, Identification, Year, Week, InputPower, MinDimPower}
use Rattle.dali_bank.specs.declared.field.Field.TheVariants.{MinVoltage, MaxVoltage, LightOutput, Cri, Cct}
use Rattle.dali_bank.specs.declared.field.Field.TheVariants.{Distribution, Colour, Luminaire}

abbrev pub key_of : Field → List ℕ
key_of Gtin = codes "gtin"
key_of Identification = codes "identification"
key_of Year = codes "year"
key_of Week = codes "week"
key_of InputPower = codes "input_power"
key_of MinDimPower = codes "min_dim_power"
key_of MinVoltage = codes "min_voltage"
key_of MaxVoltage = codes "max_voltage"
key_of LightOutput = codes "light_output"
key_of Cri = codes "cri"
key_of Cct = codes "cct"
key_of Distribution = codes "distribution"
key_of Colour = codes "colour"
key_of Luminaire = codes "luminaire"

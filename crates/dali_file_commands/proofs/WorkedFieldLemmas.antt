-- Lines of fields by hand, and the commas between them.
use Rattle.std.proofs.Common.{◌≡◌, [], ◌∷◌, ◌++◌, codes, refl}
use Rattle.std.specs.Fmt.{digits}
use Rattle.json.specs.Print.{escape_byte}
use Rattle.dali_bank.specs.declared.field.Field.TheVariants.{Colour, Gtin, InputPower, Week, Year}
use Rattle.dali_file_commands.specs.FieldLines.{array_text, field_text}

pub week_told : field_text Week
    ≡ codes "{\"bytes\":1,\"first\":20,\"form\":\"number\",\"help\":\"week of manufacture\",\"key\":\"week\","
    ++ codes "\"least\":1,\"most\":53,\"unit\":null,\"unknown\":\"FF\"}"
unfolding escape_byte digits
week_told = refl

pub power_told : field_text InputPower
    ≡ codes "{\"bytes\":2,\"first\":21,\"form\":\"number\",\"help\":\"nominal input power\",\"key\":\"input_power\","
    ++ codes "\"least\":0,\"most\":65534,\"unit\":\"W\",\"unknown\":\"FFFF\"}"
unfolding escape_byte digits
power_told = refl

-- the range of a text is of the count of its characters
pub colour_told : field_text Colour
    ≡ codes "{\"bytes\":24,\"first\":36,\"form\":\"text\",\"help\":\"colour of the luminaire\",\"key\":\"colour\","
    ++ codes "\"least\":1,\"most\":24,\"unit\":null,\"unknown\":\"FFFFFFFFFFFFFFFFFFFFFFFFFFFFFFFFFFFFFFFFFFFFFFFF\"}"
unfolding escape_byte digits
colour_told = refl

-- a GTIN has no range
pub gtin_told : field_text Gtin
    ≡ codes "{\"bytes\":6,\"first\":3,\"form\":\"gtin\",\"help\":\"global trade item number of the luminaire\","
    ++ codes "\"key\":\"gtin\",\"least\":null,\"most\":null,\"unit\":null,\"unknown\":\"FFFFFFFFFFFF\"}"
unfolding escape_byte digits
gtin_told = refl

pub no_comma_after_the_last : array_text (Year ∷ []) ≡ codes "[\n" ++ (field_text Year ++ codes "\n]\n")
unfolding escape_byte digits
no_comma_after_the_last = refl

pub comma_between_two : array_text (Year ∷ Week ∷ [])
    ≡ codes "[\n" ++ (field_text Year ++ (codes ",\n" ++ (field_text Week ++ codes "\n]\n")))
unfolding escape_byte digits
comma_between_two = refl

-- A JSON value without its contents.
use Rattle.serde_json.specs.Data.{Data, null, boolean, number, string, array, object, no_items, no_members}
use Rattle.serde_json.specs.View.{number_view}
use Rattle.dali_input.specs.declared.shallow.Shallow.{Shallow}
use Rattle.dali_input.specs.declared.shallow.Shallow.TheVariants.{Null, Bool, Number, Text, Array, Object}

-- the value, with an array or an object left empty
abbrev pub emptied : Data → Data
emptied null = null
emptied (boolean b) = boolean b
emptied (number n) = number n
emptied (string s) = string s
emptied (array _) = array no_items
emptied (object _) = object no_members

-- what a program holds of a value
abbrev pub data_of : Shallow → Data
data_of Null = null
data_of (Bool b) = boolean b
data_of (Number n) = number (number_view n)
data_of (Text s) = string s.now
data_of Array = array no_items
data_of Object = object no_members

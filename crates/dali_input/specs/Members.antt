-- The values of an object at each key.
use Rattle.std.specs.Prelude.{◌≡◌, ℕ, List, Option, Some, None, MatchOption, option_map}
use Rattle.std.specs.Prelude.{slice_index_or, true}
use Rattle.std.specs.List.{list_all}
use Rattle.serde_json.specs.Data.{Data, Members as JsonMembers}
use Rattle.serde_json.specs.Find.{as_object, get}
use Rattle.dali_bank.specs.declared.fault.BankFault.{BankFault}
use Rattle.dali_bank.specs.declared.fault.BankFault.TheVariants.{Kind}
use Rattle.dali_bank.specs.declared.field.Field.{Field}
use Rattle.dali_bank.specs.Draft.{Drafted, with_field}
use Rattle.dali_bank.specs.Faults.{IsValueFault}
use Rattle.dali_bank.specs.Layout.{rank_of}
use Rattle.dali_bank.specs.Spelling.{Plain, AreFieldBytes}
use Rattle.dali_input.specs.declared.key.Key.{Key}
use Rattle.dali_input.specs.declared.key.Key.TheVariants.{Order, Unit, Of}
use Rattle.dali_input.specs.declared.members.Members.{Members}
use Rattle.dali_input.specs.Items.{given, is_key, keys_of}
use Rattle.dali_input.specs.Keys.{text_of}
use Rattle.dali_input.specs.Shallow.{data_of, emptied}
use Rattle.dali_input.specs.declared.shallow.Shallow.{Shallow}

-- what a program holds of a value, if any
abbrev pub held : Option Shallow → Option Data
held value = option_map data_of value

-- the value at a key, without its contents
abbrev pub value_at : Key → Members → Option Data
value_at Order members = held members.order
value_at Unit members = held members.unit
value_at (Of field) members = held (slice_index_or members.fields (rank_of field) None)

-- the members are those of the value, without their contents; none if it is no object
pub record AreMembersOf (source : Data) (members : Members) : Type 0 where
  pub values : (key : Key) → value_at key members ≡ option_map emptied (get (text_of key) source)
  pub known : (all : JsonMembers) → as_object source ≡ Some all → list_all is_key (keys_of all) ≡ members.are_known

-- no key has a value, and no other key was met
pub record HasNone (members : Members) : Type 0 where
  pub values : (key : Key) → value_at key members ≡ None
  pub known : members.are_known ≡ true

-- after is before with the field as the value gives it
abbrev pub IsGivenBy : Data → Field → Drafted → Drafted → Type 0
IsGivenBy json field before after =
    (value : Plain) × (bytes : List ℕ) × (given field json ≡ Some value) × AreFieldBytes field value bytes
    × (after ≡ with_field field bytes before)

-- the value is of no kind that orders have, or one that the field refuses by this fault
abbrev pub IsRefusedAs : Data → Field → BankFault → Type 0
IsRefusedAs json field fault = MatchOption (given field json) (fault ≡ Kind) (λ value. IsValueFault field value fault)

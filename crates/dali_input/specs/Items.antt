-- How an order object of the input is judged.
use Rattle.std.specs.Prelude.{◌≡◌, ◌≢◌, ◌⊎◌, ◌<◌, ◌≤◌, ◌||◌, ℕ, List, [], ◌∷◌, ◌++◌, Bool, true, false, Option, Some}
use Rattle.std.specs.Prelude.{None, Result, Ok, Err, option_map, option_and_then, codes, length, MatchOption, ⊤}
use Rattle.std.specs.List.{AllByRecursion, list_all, list_any}
use Rattle.std.specs.Str.{bytes_eq}
use Rattle.serde_json.specs.Data.{Data, null, number, string, Members, no_members, member}
use Rattle.serde_json.specs.Find.{get, as_number, as_u64, as_object}
use Rattle.dali_bank.specs.declared.field.Field.{Field}
use Rattle.dali_bank.specs.declared.field.Field.TheVariants.{Gtin, Identification}
use Rattle.dali_bank.specs.declared.fault.BankFault.{BankFault}
use Rattle.dali_bank.specs.declared.fault.BankFault.TheVariants as bank
use Rattle.dali_bank.specs.Layout.{fields}
use Rattle.dali_bank.specs.Spelling.{Plain, unknown, digits, hex, text, AreFieldBytes, HasBytes}
use Rattle.dali_bank.specs.Spelling as spelling
use Rattle.dali_bank.specs.Faults.{IsValueFault}
use Rattle.dali_bank.specs.Order.{Contents}
use Rattle.dali_bank.specs.Draft.{Drafted, VoltagesCross, empty_draft, found_of, order_of, updates_of}
use Rattle.dali_bank.specs.Keys.{key_of}
use Rattle.dali_input.specs.declared.item.ItemFault.{ItemFault}
use Rattle.dali_input.specs.declared.item.ItemFault.TheVariants.{Input, Bank, Shape, Key}

-- ---- keys

-- the key of an order's number, of its unit, or of a field
abbrev pub is_key : List ℕ → Bool
is_key key =
    bytes_eq key (codes "order")
    || (bytes_eq key (codes "unit") || list_any (λ field. bytes_eq key (key_of field)) fields)

abbrev pub keys_of : Members → List (List ℕ)
keys_of no_members = []
keys_of (member key value others) = key ∷ keys_of others

-- each key of the object is known, or one is not
abbrev pub KnowsKeys : Data → Bool → Type 0
KnowsKeys source answer =
    (members : Members) × (as_object source ≡ Some members) × (list_all is_key (keys_of members) ≡ answer)

-- ---- numbers

-- the whole number at a key
abbrev pub whole_at : List ℕ → Data → Option ℕ
whole_at key source = option_and_then as_u64 (option_and_then as_number (get key source))

-- an object with an order number and a unit's number
pub record HasNumbers (source : Data) (id unit : ℕ) : Type 0 where
  pub order_is : whole_at (codes "order") source ≡ Some id
  pub unit_is : whole_at (codes "unit") source ≡ Some unit

-- an object for a unit, with no other key
pub record IsForUnit (source : Data) (id unit : ℕ) : Type 0 where
  pub numbers : HasNumbers source id unit
  pub keys : KnowsKeys source true
  pub short : unit ≤ 63

-- ---- fields

-- what a text gives to a field
abbrev pub text_given : Field → List ℕ → Plain
text_given Gtin characters = digits characters
text_given Identification characters = hex characters
text_given _ characters = text characters

-- the value that a JSON value gives to a field, if it is of a kind that orders have
abbrev pub given : Field → Data → Option Plain
given field null = Some unknown
given field (number n) = option_map spelling.number (as_u64 n)
given field (string characters) = Some (text_given field characters)
given field _ = None

-- the field is found as the object gives it: not at all, or with the bytes of its value
abbrev pub IsFoundIn : Data → Field → Option (List ℕ) → Type 0
IsFoundIn source field found = MatchOption (get (key_of field) source) (found ≡ None)
    (λ json. (value : Plain) × (bytes : List ℕ) × (given field json ≡ Some value) × AreFieldBytes field value bytes
    × (found ≡ Some bytes))

-- the object gives nothing to the field, or a value that has bytes
abbrev pub IsAcceptable : Data → Field → Type 0
IsAcceptable source field = MatchOption (get (key_of field) source) ⊤
    (λ json. (value : Plain) × (given field json ≡ Some value) × HasBytes field value)

-- the object gives the field a value of no kind that orders have, or one that the field refuses by this fault
abbrev pub IsFieldRefused : Data → Field → BankFault → Type 0
IsFieldRefused source field fault = (json : Data) × (get (key_of field) source ≡ Some json)
    × MatchOption (given field json) (fault ≡ bank.Kind) (λ value. IsValueFault field value fault)

-- the first field that is refused, and its fault
pub record IsFieldFault (source : Data) (fault : BankFault) : Type 0 where
  pub front : List Field
  pub field : Field
  pub behind : List Field
  pub split : fields ≡ front ++ field ∷ behind
  pub accepted : AllByRecursion (IsAcceptable source) front
  pub refused : IsFieldRefused source field fault

-- ---- orders

-- after is before with each field as the object gives it
pub record HasFieldsOf (source : Data) (before after : Drafted) : Type 0 where
  pub id : after.id ≡ before.id
  pub unit : after.unit ≡ before.unit
  pub sized : length after.found ≡ length fields
  pub found : AllByRecursion (λ field. IsFoundIn source field (found_of field after)) fields

-- the draft of an object's fields
pub record IsDraftOf (source : Data) (draft : Drafted) : Type 0 where
  pub for_unit : IsForUnit source draft.id draft.unit
  pub fields : HasFieldsOf source (empty_draft draft.id draft.unit) draft

-- the order that an object spells
abbrev pub IsOrderOf : Data → Contents → Type 0
IsOrderOf source order =
    (draft : Drafted) × IsDraftOf source draft × (¬ VoltagesCross draft) × (updates_of draft ≢ [])
    × (order ≡ order_of draft)

-- why an object spells none: the first fault that applies, and none of a line's JSON, which is read already
abbrev pub IsFaultOf : Data → ItemFault → Type 0
IsFaultOf source (Input fault) = ⊥
IsFaultOf source Shape = (whole_at (codes "order") source ≡ None) ⊎ (whole_at (codes "unit") source ≡ None)
IsFaultOf source Key = (id : ℕ) × (unit : ℕ) × HasNumbers source id unit × KnowsKeys source false
IsFaultOf source (Bank bank.Unit) =
    (id : ℕ) × (unit : ℕ) × HasNumbers source id unit × KnowsKeys source true × (63 < unit)
IsFaultOf source (Bank bank.Twice) = ⊥
IsFaultOf source (Bank bank.Voltage) = (draft : Drafted) × IsDraftOf source draft × VoltagesCross draft
IsFaultOf source (Bank bank.Empty) =
    (draft : Drafted) × IsDraftOf source draft × (¬ VoltagesCross draft) × (updates_of draft ≡ [])
IsFaultOf source (Bank fault) = (id : ℕ) × (unit : ℕ) × IsForUnit source id unit × IsFieldFault source fault

-- what becomes of an item
abbrev pub Judges : Data → Result Contents ItemFault → Type 0
Judges source (Ok order) = IsOrderOf source order
Judges source (Err fault) = IsFaultOf source fault

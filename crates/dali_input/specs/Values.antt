-- The meaning of JSON values.
use Rattle.std.specs.Prelude.{◌≡◌, ◌≤◌, ℕ, List, [], ◌∷◌, Bool, false, Option, Some, None, option_and_then, option_map}
use Rattle.std.specs.Prelude.{⊤}
use Rattle.std.specs.Borrow.{Bor}
use Rattle.std.specs.Option.{option_map_or}
use Rattle.std.specs.List.{list_all, list_any}
use Rattle.std.specs.Str.{bytes_eq}
use Rattle.serde_json.specs.Data.{Data, Items, no_items, item}
use Rattle.serde_json.specs.Find.{as_array, as_number, as_object, as_u64}
use Rattle.serde_json.specs.View.{view}
use Rattle.serde_json.specs.declared.value.Value.{Value}
use Rattle.dali_input.specs.declared.fault.InputFault.{InputFault}
use Rattle.dali_input.specs.declared.fault.InputFault.TheVariants.{Json, Document, TooBig, Hex, Memory, File}
use Rattle.dali_input.specs.Items.{keys_of}

-- the value that a program holds of a key, if any
abbrev pub value_if_any : Option (Bor Value) → Option Data
value_if_any held = option_map (λ json. view json.now) held

-- a whole number within these bounds
pub record IsWhole (least most : ℕ) (json : Data) (number : ℕ) : Type 0 where
  pub whole : option_and_then as_u64 (as_number json) ≡ Some number
  pub from : least ≤ number
  pub to : number ≤ most

-- each value of a list, and what it says
abbrev pub AreEach : {X : Type 0} → (Data → X → Type 0) → Items → List X → Type 0
AreEach Says no_items [] = ⊤
AreEach Says no_items (x ∷ xs) = ⊥
AreEach Says (item json others) [] = ⊥
AreEach Says (item json others) (x ∷ xs) = Says json x × AreEach Says others xs

-- an array of values that each say something
pub record IsArrayOf {X : Type 0} (Says : Data → X → Type 0) (json : Data) (xs : List X) : Type 0 where
  pub items : Items
  pub array : as_array json ≡ Some items
  pub each : AreEach Says items xs

-- the member of a key that has to be there
abbrev pub IsRequired : {X : Type 0} → (Data → X → Type 0) → Option Data → X → Type 0
IsRequired Says None x = ⊥
IsRequired Says (Some json) x = Says json x

-- the member of a key that may be missing: then `missing` takes its place
abbrev pub IsOptional : {X : Type 0} → (Data → X → Type 0) → X → Option Data → X → Type 0
IsOptional Says missing None x = x ≡ missing
IsOptional Says missing (Some json) x = Says json x

-- an object with no key but these
abbrev pub has_only_keys : List (List ℕ) → Data → Bool
has_only_keys keys json =
    option_map_or (λ members. list_all (λ key. list_any (bytes_eq key) keys) (keys_of members)) (as_object json) false

-- why nothing is read of a value: it says nothing of this kind, or memory ran out, which may come at any value
abbrev pub IsNoReading : {X : Type 0} → (X → Type 0) → InputFault → Type 0
IsNoReading {X} Says Document = (x : X) → ¬ Says x
IsNoReading Says Memory = ⊤
IsNoReading Says Json = ⊥
IsNoReading Says TooBig = ⊥
IsNoReading Says Hex = ⊥
IsNoReading Says File = ⊥

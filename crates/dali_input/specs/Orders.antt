-- A list of orders: its items, and how each is judged.
use Rattle.std.specs.Prelude.{◌≡◌, ◌≢◌, ◌+◌, ℕ, List, [], ◌∷◌, Some, None, Result, Ok, Err, map, ⊤}
use Rattle.serde_json.specs.Data.{Data, Items, no_items, item}
use Rattle.serde_json.specs.Find.{as_array}
use Rattle.dali_bank.specs.Order.{Contents}
use Rattle.dali_input.specs.declared.fault.InputFault.{InputFault}
use Rattle.dali_input.specs.declared.fault.InputFault.TheVariants.{Document}
use Rattle.dali_input.specs.declared.item.ItemFault.{ItemFault}
use Rattle.dali_input.specs.Input.{IsJson, IsNoJson}
use Rattle.dali_input.specs.Items.{Judges}

-- the most bytes of a list of orders
abbrev pub orders_limit : ℕ
orders_limit = 16777216

-- the items of an input of at most `limit` bytes
abbrev pub AreItems : ℕ → List ℕ → Items → Type 0
AreItems limit input items = (json : Data) × IsJson limit input json × (as_array json ≡ Some items)

-- why an input has no items; want of memory may come at any input that has a byte, and no more than the limit
abbrev pub IsInputFault : ℕ → List ℕ → InputFault → Type 0
IsInputFault limit input Document = (json : Data) × IsJson limit input json × (as_array json ≡ None)
IsInputFault limit input fault = IsNoJson limit input fault

-- what becomes of an item
abbrev pub Outcome : Type 0
Outcome = Result Contents ItemFault

-- each item, and what becomes of it
abbrev pub JudgesEach : Items → List Outcome → Type 0
JudgesEach no_items [] = ⊤
JudgesEach no_items (outcome ∷ outcomes) = ⊥
JudgesEach (item source sources) [] = ⊥
JudgesEach (item source sources) (outcome ∷ outcomes) = Judges source outcome × JudgesEach sources outcomes

-- the refused items with their numbers, counted from a number on
abbrev pub refused_from : ℕ → List Outcome → List (ℕ × ItemFault)
refused_from number [] = []
refused_from number (Ok order ∷ outcomes) = refused_from (number + 1) outcomes
refused_from number (Err fault ∷ outcomes) = (number, fault) ∷ refused_from (number + 1) outcomes

-- some items are refused, and these are all of them
abbrev pub AreRefused : Items → List (ℕ × ItemFault) → Type 0
AreRefused items refused =
    (outcomes : List Outcome) × JudgesEach items outcomes × (refused ≡ refused_from 1 outcomes) × (refused ≢ [])

-- each item of an input spells its order
abbrev pub AreOrdersIn : List ℕ → List Contents → Type 0
AreOrdersIn input orders = (items : Items) × AreItems orders_limit input items × JudgesEach items (map Ok orders)

-- some items of an input are refused, and these are all of them
abbrev pub AreRefusedIn : List ℕ → List (ℕ × ItemFault) → Type 0
AreRefusedIn input refused = (items : Items) × AreItems orders_limit input items × AreRefused items refused

-- The items of an array that are still to come, of the tokens that a reader has left.
use Rattle.std.specs.Prelude.{◌≡◌, ℕ, List, [], ◌∷◌, length, Option, Some, None, option_and_then}
use Rattle.json.specs.Token.{Token}
use Rattle.json.specs.Json.{value, items}
use Rattle.json.specs.Json as json
use Rattle.serde_json.specs.Data.{Data, Items as DataItems}
use Rattle.serde_json.specs.Events.{items_len}
use Rattle.serde_json.specs.Read.{converted, max_depth, of_items, of_json}
use Rattle.dali_input.specs.declared.item.Item.{Item}
use Rattle.dali_input.specs.declared.items.Items.{Items}
use Rattle.dali_input.specs.Members.{AreMembersOf}
use Rattle.dali_input.specs.Shallow.{data_of, emptied}

-- how deep an item may nest: the array around it takes one of the levels that a text may have
abbrev pub item_depth : ℕ
item_depth = 126

-- the value that was read, if no token follows it
abbrev pub if_last : {A : Type 0} → Option (A × List Token) → Option A
if_last None = None
if_last (Some (a, [])) = Some a
if_last (Some (a, _ ∷ _)) = None

-- the value that the tokens of a whole text are, as `serde_json` reads it
abbrev pub value_to_end : List Token → Option Data
value_to_end tokens = option_and_then of_json (option_and_then (λ p. json.if_last p.0 p.1) (value max_depth tokens))

-- the items up to the bracket that closes their array and ends the text, each as `serde_json` reads it
abbrev pub items_to_end : List Token → Option DataItems
items_to_end tokens = if_last (converted of_items (items (value item_depth) (length tokens) tokens))

-- the parts of an item that are held: what it is, without its contents, and what its members give
pub record IsItem (source : Data) (found : Item) : Type 0 where
  pub shows : data_of found.value ≡ emptied source
  pub members : AreMembersOf source found.members

-- how many are still to come
abbrev pub left_of : Items → ℕ
left_of items = items.left

-- these are still to come
pub record AreLeft (items : Items) (all : DataItems) : Type 0 where
  pub to_end : items_to_end items.reader ≡ Some all
  pub counted : left_of items ≡ items_len all

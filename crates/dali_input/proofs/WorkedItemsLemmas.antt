-- Which items the tokens of an array give, and what is held of an item, by hand, on both sides of each rule.
use Rattle.std.proofs.Common.{◌≡◌, ◌∙◌, refl, sym, ap, true, false, [], ◌∷◌, Some, None, codes, option_map, arith}
use Rattle.std.proofs.Common.{length, replicate}
use Rattle.json.specs.Token.{Token}
use Rattle.json.proofs.Grammar.{value_is}
use Rattle.serde_json.specs.Data.{Data, null, number, unsigned, array, object, no_items, item, no_members, member}
use Rattle.serde_json.specs.Read.{converted, of_json}
use Rattle.dali_bank.specs.Layout.{fields}
use Rattle.dali_input.specs.declared.key.Key.TheVariants.{Unit}
use Rattle.dali_input.specs.declared.members.Members.{Members}
use Rattle.dali_input.specs.declared.shallow.Shallow.TheVariants as shallow
use Rattle.dali_input.specs.ItemsLeft.{items_to_end}
use Rattle.dali_input.specs.Members.{AreMembersOf}
use Rattle.dali_input.specs.Shallow.{data_of, emptied}
use Rattle.dali_input.proofs.ItemsLemmas.{one_item, no_more_items, refused_item}

-- ---- items

pub an_item_and_the_end : items_to_end (Token.null ∷ Token.end_array ∷ []) ≡ Some (item null no_items)
an_item_and_the_end =
    one_item (Token.null ∷ Token.end_array ∷ []) (Token.end_array ∷ []) null (omega arith) refl
    (ap (converted of_json) (value_is 126 (Token.null ∷ Token.end_array ∷ [])))
    ∙ ap (option_map (item null)) (no_more_items (Token.end_array ∷ []) [] refl)

pub no_item_is_left_out : ¬ (items_to_end (Token.null ∷ Token.end_array ∷ []) ≡ Some no_items)
no_item_is_left_out = λ none.
    let clash : Some (item null no_items) ≡ Some no_items = sym an_item_and_the_end ∙ none in cc

pub nothing_behind_the_array : items_to_end (Token.end_array ∷ Token.null ∷ []) ≡ None
nothing_behind_the_array = no_more_items (Token.end_array ∷ Token.null ∷ []) (Token.null ∷ []) refl

pub no_items_before_the_bracket : items_to_end [] ≡ None
no_items_before_the_bracket = refused_item [] refl (ap (converted of_json) (value_is 126 []))

-- ---- what is held of a value

pub array_is_held_empty : data_of shallow.Array ≡ emptied (array (item null no_items))
array_is_held_empty = refl

pub object_is_no_array : ¬ (data_of shallow.Object ≡ emptied (array no_items))
object_is_no_array = λ same. cc

abbrev seven : Data
seven = number (unsigned 7)

abbrev held_none : Members
held_none = record { order = None; unit = None; fields = replicate (length fields) None; are_known = true }

pub no_member_is_left_out : ¬ AreMembersOf (object (member (codes "unit") seven no_members)) held_none
no_member_is_left_out = λ are. let clash : None ≡ Some seven = are.values Unit in cc

pub no_key_is_passed_over : ¬ AreMembersOf (object (member (codes "weight") seven no_members)) held_none
no_key_is_passed_over = λ are. let clash : false ≡ true = are.known _ refl in cc

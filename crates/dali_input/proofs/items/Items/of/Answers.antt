use Rattle.std.proofs.Common.{◌≡◌, Some, sym, ap, ◌∙◌, refl}
use Rattle.serde_json.specs.Data.{array}
use Rattle.serde_json.specs.Read.{read}
use Rattle.dali_input.specs.ItemsLeft.{items_to_end, value_to_end}
use Rattle.dali_input.proofs.ItemsLemmas.{array_is_items, behind_bracket}
use Rattle.dali_input.proofs.items.Items.of.Goals as goal

pub returns-clause-ok : goal.returns-clause-ok
returns-clause-ok c =
    let (short, utf8, text_is) = c.in_ok-text.ensures.ok in
    let (all, rest, begun, to_end, counted) = c.in_ok-left.ensures.ok in
    let is_array : read c.args.input.now ≡ Some (array all) =
    ap read (sym text_is) ∙ ap value_to_end begun ∙ array_is_items rest ∙ rw to_end refl in
    let left : items_to_end c.next-bracket.new.self ≡ Some all =
    behind_bracket _ rest _ _ all (c.in_ok-reader.ensures.ok ∙ begun) c.next-bracket.ensures.value to_end in
    (all, (array all, (short, (utf8, is_array)), refl), record { to_end = left; counted = counted })

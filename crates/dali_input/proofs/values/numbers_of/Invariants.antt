use Rattle.std.proofs.Common.{take}
use Rattle.serde_json.specs.View.{items_view}
use Rattle.dali_input.specs.Values.{AreEach, IsWhole}
use Rattle.dali_input.proofs.values.numbers_of.Given as goal

abbrev pub invariant-loop-item : goal.invariant-loop-item
invariant-loop-item l = AreEach (IsWhole 0 l.most) (items_view (take l.item-index l.item-items)) l.numbers.items

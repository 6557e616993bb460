use Rattle.std.proofs.Common.{map, take}
use Rattle.serde_json.specs.View.{items_view}
use Rattle.dali_input.specs.Values.{AreEach}
use Rattle.dali_input.specs.Scenario.{IsUnit, unit_planned}
use Rattle.dali_input.proofs.scenario.unit_plans.Given as goal

abbrev pub invariant-loop-item : goal.invariant-loop-item
invariant-loop-item l = AreEach IsUnit (items_view (take l.item-index l.item-items)) (map unit_planned l.plans.items)

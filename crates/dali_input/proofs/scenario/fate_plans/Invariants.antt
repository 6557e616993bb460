use Rattle.std.proofs.Common.{take}
use Rattle.serde_json.specs.View.{items_view}
use Rattle.dali_input.specs.Values.{AreEach}
use Rattle.dali_input.specs.Scenario.{IsFate}
use Rattle.dali_input.proofs.scenario.fate_plans.Given as goal

abbrev pub invariant-loop-item : goal.invariant-loop-item
invariant-loop-item l = AreEach IsFate (items_view (take l.item-index l.item-items)) l.plans.items

use Rattle.std.proofs.Common.{map, take}
use Rattle.serde_json.specs.View.{items_view}
use Rattle.dali_input.specs.Values.{AreEach}
use Rattle.dali_input.specs.Scenario.{IsEvent, event_of}
use Rattle.dali_input.proofs.scenario.event_plans.Given as goal

abbrev pub invariant-loop-item : goal.invariant-loop-item
invariant-loop-item l = AreEach IsEvent (items_view (take l.item-index l.item-items)) (map event_of l.plans.items)

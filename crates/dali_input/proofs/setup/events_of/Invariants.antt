use Rattle.std.proofs.Common.{◌≡◌, map, take}
use Rattle.dali_input.specs.Scenario.{event_of}
use Rattle.dali_input.specs.Setup.{AreEvents}
use Rattle.dali_input.proofs.setup.events_of.Given as goal

abbrev pub invariant-loop-plan : goal.invariant-loop-plan
invariant-loop-plan l = record {
  made : AreEvents (map event_of (take l.plan-index l.plans)) l.events.items;
  counted : l.number ≡ l.plan-index;
}

use Rattle.std.proofs.Common.{◌≡◌, map, take}
use Rattle.dali_input.specs.Scenario.{unit_planned}
use Rattle.dali_input.proofs.SetupLemmas.{SoFar}
use Rattle.dali_input.proofs.setup.units_of.Given as goal

abbrev pub invariant-loop-plan : goal.invariant-loop-plan
invariant-loop-plan l = record {
  so_far : SoFar (map unit_planned (take l.plan-index l.plans)) l.are_apart l.units.items;
  counted : l.number ≡ l.plan-index;
}

use Rattle.std.proofs.Common.{ap, map, ◌+◌}
use Rattle.dali_input.specs.Scenario.{unit_planned}
use Rattle.dali_input.proofs.SetupLemmas.{first_unit_fault, all_makeable, one_held}
use Rattle.dali_input.proofs.setup.units_of.Goals as goal

pub returns-in-Err-clause-err : goal.returns-in-Err-clause-err
returns-in-Err-clause-err c =
    c.unit_fault.ensures (map unit_planned c.args.plans.now)
    (λ not_memory. first_unit_fault c.args.plans.now c.loop-plan.plan-index c.loop-plan.number _ _
    c.loop-plan-test.true c.plan-item.is c.loop-plan.invariant.counted
    (all_makeable _ c.loop-plan.are_apart c.loop-plan.units.items c.loop-plan.invariant.so_far)
    c.in-Err.ensures.err not_memory)

pub loop-plan-preserved : goal.loop-plan-preserved
loop-plan-preserved c = record {
  so_far = one_held c.args.plans.now c.loop-plan.plan-index c.plan-item.result c.loop-plan.are_apart _
      c.loop-plan.units.items _ _ c.loop-plan-test.true c.plan-item.is c.loop-plan.invariant.so_far
      c.in-Ok.ensures.ok.0 c.in-Ok.ensures.ok.1 c.in_ok-are_apart-in-Ok.ensures.apart
      c.in_ok-are_apart-in-Ok.ensures.together;
  counted = ap (λ n. n + 1) c.loop-plan.invariant.counted;
}

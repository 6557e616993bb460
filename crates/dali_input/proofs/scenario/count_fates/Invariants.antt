use Rattle.std.proofs.Common.{◌≡◌, ◌^◌, ◌-◌, min, take}
use Rattle.std.specs.List.{sum_by}
use Rattle.dali_input.proofs.scenario.count_fates.Given as goal

abbrev pub invariant-loop-plan : goal.invariant-loop-plan
invariant-loop-plan l = l.count ≡ min (sum_by (λ plan. plan.times) (take l.plan-index l.plans)) (2 ^ 64 - 1)

use Rattle.std.proofs.Common.{◌≡◌, ◌^◌, ◌-◌, min, take}
use Rattle.std.specs.List.{sum_by}
use Rattle.dali_input.specs.Scenario.{event_count, event_of}
use Rattle.dali_input.proofs.scenario.count_events.Given as goal

abbrev pub invariant-loop-plan : goal.invariant-loop-plan
invariant-loop-plan l =
    l.count ≡ min (sum_by (λ plan. event_count (event_of plan)) (take l.plan-index l.plans)) (2 ^ 64 - 1)

use Rattle.std.proofs.Common.{◌≡◌, ◌++◌, replicate}
use Rattle.dali_trace.specs.declared.happening.Event.TheVariants.{Step}
use Rattle.dali_input.proofs.setup.push_steps.Given as goal

abbrev pub invariant-loop : goal.invariant-loop
invariant-loop l = l.events.items ≡ l.fn.events.items ++ replicate l.counter Step

use Rattle.std.proofs.Common.{◌≡◌, take}
use Rattle.dali_input.specs.Setup.{fates_of}
use Rattle.dali_input.proofs.setup.fates_of.Given as goal

abbrev pub invariant-loop-plan : goal.invariant-loop-plan
invariant-loop-plan l = l.fates.items ≡ fates_of (take l.plan-index l.plans)

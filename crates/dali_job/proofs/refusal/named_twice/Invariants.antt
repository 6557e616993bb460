use Rattle.std.proofs.Common.{◌≡◌, drop, take}
use Rattle.dali_job.specs.LinkOptions.{named_twice as first_repeated, twice_behind}
use Rattle.dali_job.proofs.refusal.named_twice.Given as goal

abbrev pub invariant-loop-index : goal.invariant-loop-index
invariant-loop-index l = twice_behind (take l.index l.units) (drop l.index l.units) ≡ first_repeated l.units

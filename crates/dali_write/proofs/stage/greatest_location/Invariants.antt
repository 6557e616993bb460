use Rattle.std.proofs.Common.{◌≡◌, max, drop}
use Rattle.dali_write.specs.Plans.{greatest}
use Rattle.dali_write.proofs.stage.greatest_location.Given as goal

abbrev pub invariant-loop-location : goal.invariant-loop-location
invariant-loop-location l = max l.greatest (greatest (drop l.location-index l.updates)) ≡ greatest l.updates

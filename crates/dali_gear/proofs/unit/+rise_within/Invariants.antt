use Rattle.std.proofs.Common.{length}
use Rattle.dali_gear.proofs.unit.+rise_within.Given as goal

abbrev pub decreases-rise_within : goal.decreases-rise_within
decreases-rise_within l = length l.locations.now

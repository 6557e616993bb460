use Rattle.std.specs.Prelude.{length}
use Rattle.dali_read.proofs.finding.+first_other.Given as goal

abbrev pub decreases-first_other : goal.decreases-first_other
decreases-first_other l = length l.updates.now

use Rattle.std.proofs.Common.{length}
use Rattle.dali_write.proofs.row.+another.Given as goal

abbrev pub decreases-another : goal.decreases-another
decreases-another l = length l.read.now

use Rattle.std.proofs.Common.{length}
use Rattle.dali_write.proofs.row.+holds.Given as goal

abbrev pub decreases-holds : goal.decreases-holds
decreases-holds l = length l.read.now

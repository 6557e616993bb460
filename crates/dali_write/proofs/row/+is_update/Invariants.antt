use Rattle.std.proofs.Common.{length}
use Rattle.dali_write.proofs.row.+is_update.Given as goal

abbrev pub decreases-is_update : goal.decreases-is_update
decreases-is_update l = length l.updates.now

use Rattle.std.proofs.Common.{length}
use Rattle.dali_write.proofs.row.+others_in_row.Given as goal

abbrev pub decreases-others_in_row : goal.decreases-others_in_row
decreases-others_in_row l = length l.behind.now

use Rattle.dali_write.proofs.UnreachedLemmas.{closing_unread}
use Rattle.dali_write.proofs.laws.unreached_units_were_not_read.Goals as goal

pub returns : goal.returns
returns c = closing_unread

use Rattle.std.proofs.Common.{length}
use Rattle.dali_bank.proofs.order.+rise_in_places.Given as goal

abbrev pub decreases-rise_in_places : goal.decreases-rise_in_places
decreases-rise_in_places l = length l.pairs.now

use Rattle.std.proofs.Common.{◌-◌, length}
use Rattle.dali_journal.specs.GroupAhead.{AreWidened}
use Rattle.dali_journal.proofs.widen.widened.Given as goal

abbrev pub invariant-loop-group : goal.invariant-loop-group
invariant-loop-group l = AreWidened l.bytes l.at l.wide.items

abbrev pub decreases-loop-group : goal.decreases-loop-group
decreases-loop-group l = length l.bytes - l.at

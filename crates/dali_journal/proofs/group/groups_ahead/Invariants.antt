use Rattle.std.proofs.Common.{◌-◌}
use Rattle.dali_journal.specs.GroupAhead.{IsFront}
use Rattle.dali_journal.proofs.group.groups_ahead.Given as goal

abbrev pub invariant-loop-orders : goal.invariant-loop-orders
invariant-loop-orders l = IsFront l.limit l.bytes l.at l.orders l.index.entries

abbrev pub decreases-loop-orders : goal.decreases-loop-orders
decreases-loop-orders l = l.limit - l.orders

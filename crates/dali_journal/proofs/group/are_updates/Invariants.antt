use Rattle.std.proofs.Common.{length}
use Rattle.dali_journal.specs.GroupAhead.{AreUpdatesAbove}
use Rattle.dali_journal.proofs.group.are_updates.Given as goal

abbrev pub invariant-loop-location : goal.invariant-loop-location
invariant-loop-location l = AreUpdatesAbove l.low l.rest → AreUpdatesAbove 0x02 l.bytes

abbrev pub decreases-loop-location : goal.decreases-loop-location
decreases-loop-location l = length l.rest

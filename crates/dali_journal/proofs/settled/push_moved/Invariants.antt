use Rattle.std.proofs.Common.{◌≡◌, ◌++◌, map, take}
use Rattle.dali_journal.specs.Settled.{moved}
use Rattle.dali_journal.proofs.settled.push_moved.Given as goal

abbrev pub invariant-loop-one : goal.invariant-loop-one
invariant-loop-one l = l.settled.items ≡ l.fn.settled.items ++ map (moved l.front) (take l.one-index l.more)

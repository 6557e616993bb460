use Rattle.std.proofs.Common.{length}
use Rattle.dali_input.specs.ItemsLeft.{items_to_end}
use Rattle.dali_input.proofs.ItemsLemmas.{CountedSoFar}
use Rattle.dali_input.proofs.items.count_to_end.Given as goal

abbrev pub invariant-items : goal.invariant-items
invariant-items l = CountedSoFar (items_to_end l.initial.reader) (items_to_end l.reader) l.count

abbrev pub decreases-items : goal.decreases-items
decreases-items l = length l.reader

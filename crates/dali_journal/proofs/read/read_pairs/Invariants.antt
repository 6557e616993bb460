use Rattle.std.proofs.Common.{◌≡◌, ◌+◌, length}
use Rattle.dali_journal.specs.Decoding.{pairs_of, behind_pairs}
use Rattle.dali_journal.proofs.read.read_pairs.Given as goal

abbrev pub invariant-loop-to_come : goal.invariant-loop-to_come
invariant-loop-to_come l = record {
  told : behind_pairs l.pairs.items (pairs_of l.to_come l.low l.rest) ≡ pairs_of l.count 0 l.bytes;
  count : length l.pairs.items + l.to_come ≡ l.count;
}

abbrev pub decreases-loop-to_come : goal.decreases-loop-to_come
decreases-loop-to_come l = l.to_come

use Rattle.std.proofs.Common.{◌≡◌, ◌+◌, ◌*◌, ◌++◌, take, length}
use Rattle.dali_journal.specs.Spelling.{pairs_spelling}
use Rattle.dali_journal.proofs.record.push_pairs.Given as goal

abbrev pub invariant-loop-location : goal.invariant-loop-location
invariant-loop-location l =
    record {
      items : l.bytes.items ≡ l.fn.bytes.items ++ pairs_spelling (take l.location-index l.pairs);
      len : length l.bytes.items ≡ length l.fn.bytes.items + 2 * l.location-index;
    }

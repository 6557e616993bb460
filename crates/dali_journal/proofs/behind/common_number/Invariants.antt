use Rattle.std.proofs.Common.{All, take}
use Rattle.dali_journal.specs.Behind.{IsApart}
use Rattle.dali_journal.proofs.behind.common_number.Given as goal

abbrev pub invariant-loop-place : goal.invariant-loop-place
invariant-loop-place l = All (IsApart l.newer.records l.older.records) (take l.place l.newer.numbers)

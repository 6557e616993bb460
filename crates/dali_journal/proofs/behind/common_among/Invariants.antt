use Rattle.std.proofs.Common.{All, take}
use Rattle.dali_journal.specs.Behind.{IsApart}
use Rattle.dali_journal.proofs.behind.common_among.Given as goal

abbrev pub invariant-loop-one : goal.invariant-loop-one
invariant-loop-one l = All (λ one. IsApart l.newer.records l.older.records one.id) (take l.one-index l.settled)

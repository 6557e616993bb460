use Rattle.dali_link_commands.proofs.OlderLemmas.{HaveJoined}
use Rattle.dali_link_commands.proofs.older.joined_older.Given as goal

abbrev pub invariant-loop-index : goal.invariant-loop-index
invariant-loop-index g l = record {
  joined : HaveJoined g.S.Store.seen g.S.Store.failed g.S.Store.may_leave l.fn.stores l.stores l.index l.older;
}

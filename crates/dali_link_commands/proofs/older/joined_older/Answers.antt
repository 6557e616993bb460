use Rattle.std.proofs.Common.{arith}
use Rattle.dali_link_commands.proofs.OlderLemmas.{first_unusable, none_joined, one_joined}
use Rattle.dali_link_commands.proofs.older.joined_older.Goals as goal

pub loop-index-init : goal.loop-index-init
loop-index-init g c = record {
  joined = none_joined g.S.Store.seen g.S.Store.failed g.S.Store.may_leave c.args.stores.now;
}

pub returns-in-Err-clause-err : goal.returns-in-Err-clause-err
returns-in-Err-clause-err g c =
    first_unusable g.S.Store.seen g.S.Store.failed g.S.Store.may_leave c.args.stores.now c.loop-index.stores
    c.loop-index.index c.index-stores-index.result c.joined_store.new.store c.loop-index.older c.in-Err.problem.fault
    c.loop-index.invariant.joined (omega arith) c.index-stores-index.is c.in-Err.ensures.err

pub loop-index-preserved : goal.loop-index-preserved
loop-index-preserved g c = record {
  joined =
      one_joined g.S.Store.seen g.S.Store.failed g.S.Store.may_leave c.args.stores.now c.loop-index.stores
      c.loop-index.index c.index-stores-index.result c.joined_store.new.store c.loop-index.older c.in-Ok.journal
      c.loop-index.invariant.joined (omega arith) c.index-stores-index.is c.in-Ok.ensures.ok c.in-Ok.ensures.same
      c.in-Ok.ensures.settled;
}

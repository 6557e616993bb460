use Rattle.std.proofs.Common.{refl}
use Rattle.dali_drive.proofs.SinkLemmas.{flush_leaves, flush_elapses}
use Rattle.dali_drive.proofs.lent_sinks.LentSinksDesk.settle.Goals as goal

pub returns-clause-left : goal.returns-clause-left
returns-clause-left g c =
    flush_leaves c.flush.result _ _ _ _ (g.met.J.Sink.flushed_is_held c.args.self.now.journal.now)
    c.flush.ensures.bytes c.flush.ensures.flushed

pub returns-clause-time : goal.returns-clause-time
returns-clause-time g c =
    let time = flush_elapses c.flush.result _ _ _ _ (g.met.J.Sink.flushed_is_held c.args.self.now.journal.now)
    c.flush.ensures.bytes c.flush.ensures.flushed in
    record { later = time.later; nothing_else = time.nothing_else; keeps = time.keeps }

pub returns-clause-stays : goal.returns-clause-stays
returns-clause-stays g c = record { link_in = refl; link_out = refl; journal = refl; out = refl }

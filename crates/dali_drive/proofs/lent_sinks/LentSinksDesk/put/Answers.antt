use Rattle.std.proofs.Common.{refl, false}
use Rattle.dali_drive.proofs.SinkLemmas.{leaves_put, put_over, some_put}
use Rattle.dali_drive.proofs.lent_sinks.LentSinksDesk.put.Goals as goal

pub returns-clause-left : goal.returns-clause-left
returns-clause-left g c =
    leaves_put false _ _ _ _ _ (g.met.J.Sink.flushed_is_held c.args.self.now.journal.now)
    (some_put c.put_all.result _ _ c.args.bytes.now c.put_all.ensures.whole c.put_all.ensures.cut).1
    c.put_all.ensures.unflushed c.requires.ahead.1

pub returns-clause-grown : goal.returns-clause-grown
returns-clause-grown g c =
    let some = some_put c.put_all.result _ _ c.args.bytes.now c.put_all.ensures.whole c.put_all.ensures.cut in record {
      more = some.0;
      grown = some.1;
      leaves =
          let over = put_over false _ _ _ _ some.0 (g.met.J.Sink.flushed_is_held c.args.self.now.journal.now) some.1
          c.put_all.ensures.unflushed c.requires.ahead.1 in
          record { later = over.later; each = over.each; before = over.before };
      stays = record { link_in = refl; link_out = refl; journal = refl; out = refl };
    }

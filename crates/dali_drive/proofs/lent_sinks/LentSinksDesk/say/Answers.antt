use Rattle.std.proofs.Common.{[], refl}
use Rattle.std.proofs.KnownBytes.{Appends-nil}
use Rattle.dali_drive.specs.LentSinks.{SinkLeaves, SinkLeft, flushed_count, left_now}
use Rattle.dali_drive.proofs.StoreLemmas.{untouched}
use Rattle.dali_drive.proofs.lent_sinks.LentSinksDesk.say.Goals as goal

pub returns-clause-grown : goal.returns-clause-grown
returns-clause-grown g c =
    let journal = c.args.self.now.journal.now in record {
      more = [];
      grown = Appends-nil (g.J.Sink.held journal);
      leaves =
          let left = untouched g.J.Sink.held (λ (j : g.row.J.Denot). SinkLeaves (g.J.Sink.flushed j) (g.J.Sink.held j))
          (λ (j : g.row.J.Denot). flushed_count (g.J.Sink.flushed j))
          (λ (j : g.row.J.Denot). SinkLeft (g.J.Sink.flushed j) (g.J.Sink.held j)) journal c.requires.ahead.1
          (left_now (g.J.Sink.flushed journal) (g.J.Sink.held journal) (g.met.J.Sink.flushed_is_held journal)) in
          record { later = left.later; each = left.each; before = left.before };
      stays = record { link_in = refl; link_out = refl; journal = refl; out = refl };
    }

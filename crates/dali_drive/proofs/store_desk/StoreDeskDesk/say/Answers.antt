use Rattle.std.proofs.Common.{[]}
use Rattle.std.proofs.KnownBytes.{Appends-nil}
use Rattle.dali_drive.proofs.StoreLemmas.{untouched}
use Rattle.dali_drive.proofs.store_desk.StoreDeskDesk.say.Goals as goal

pub returns-clause-grown : goal.returns-clause-grown
returns-clause-grown g c =
    let journal = c.args.self.now.journal in record {
      more = [];
      grown = Appends-nil (g.S.Store.seen journal);
      leaves =
          let left = untouched g.S.Store.seen g.S.Store.may_leave g.S.Store.moment g.S.Store.left_since journal
          c.requires.ahead.1 (g.met.S.Store.only_now journal) in
          record { later = left.later; each = left.each; before = left.before };
      stays = tt;
    }

use Rattle.std.proofs.Common.{refl, subst, ℕ}
use Rattle.dali_drive.specs.Behind.{IsWhole}
use Rattle.dali_drive.proofs.store_desk.StoreDeskOpenDesk.open.Goals as goal

pub returns-in-Ok-joined-clause-journal : goal.returns-in-Ok-joined-clause-journal
returns-in-Ok-joined-clause-journal g c = record {
  behind = record {
    begun = record {
      journal = c.in-Ok.own;
      opened = c.in-Ok.ensures.journal;
      middle = g.S.Store.seen c.open.new.store;
      written = c.in-Ok.ensures.holds;
    };
    journal = c.in-Ok-joined.journal;
    whole = subst (λ (n : ℕ). IsWhole c.args.self.now.older n c.in-Ok.own c.in-Ok-joined.journal)
        c.in-Ok.ensures.journal.found.loaded.0 (rw c.take.ensures.value at c.in-Ok-joined.ensures.ok);
  };
  journal_is = refl;
  streams = refl;
}

pub returns-in-Err-joined-clause-fault : goal.returns-in-Err-joined-clause-fault
returns-in-Err-joined-clause-fault g c = record {
  begun = record {
    journal = c.in-Ok.own;
    opened = c.in-Ok.ensures.journal;
    middle = g.S.Store.seen c.open.new.store;
    written = c.in-Ok.ensures.holds;
  };
  why = rw c.take.ensures.value at c.in-Err-joined.ensures.err;
  streams = refl;
  settled = c.in-Ok.ensures.settled;
}

use Rattle.std.proofs.Common.{◌∙◌, refl}
use Rattle.dali_bank.specs.Blank.{blank_bank}
use Rattle.dali_report.proofs.DifferenceLemmas.{laid_next, none_told, told_at, untold_at}
use Rattle.dali_report.proofs.differences.bank_told.Goals.{in-Some, in-None}
use Rattle.dali_report.proofs.differences.bank_told.Goals as goal

pub loop-at-init : goal.loop-at-init
loop-at-init c = record { bank = rw (none_told c.args.told.now) refl }

pub loop-at-preserved : goal.loop-at-preserved
loop-at-preserved c = record {
  bank = laid_next c.args.updates.now c.args.told.now blank_bank c.loop-at.bank c.loop-at.at c.from.result
      c.match-get.bank (0, 0) c.loop-at-test.true c.loop-at.invariant.bank c.from.ensures
      (elim c.match-get.branch [
        | in-Some w ↦ w.bank-is ∙ told_at c.args.told.now c.loop-at.at _ w.in-Some.field-0.now
            w.in-Some.ensures.lookup.3.0 w.in-Some.ensures.lookup.1
        | in-None w ↦ w.bank-is ∙ untold_at c.args.told.now c.loop-at.at _ w.in-None.ensures.lookup.3
      ]);
}

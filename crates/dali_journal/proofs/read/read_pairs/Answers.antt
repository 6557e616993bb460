use Rattle.std.proofs.Common.{◌∙◌, ◌-◌, sym, ap, ◌∷◌, arith}
use Rattle.dali_journal.specs.Decoding.{pairs_of, behind_pairs}
use Rattle.dali_journal.proofs.PairSteps.{pairs_of-bad, pairs_of-pair, behind-move}
use Rattle.dali_journal.proofs.read.read_pairs.Goals as goal

pub returns-then-not-fits : goal.returns-then-not-fits
returns-then-not-fits c =
    let l = c.loop-to_come in
    let bad =
    pairs_of-bad l.to_come (l.to_come - 1) l.low c.in-Some.location.now c.in-Some.after.now (omega arith)
    (sym c.fits.ensures ∙ c.if-not-fits.true) in
    sym (ap (behind_pairs l.pairs.items) (ap (pairs_of l.to_come l.low) c.in-Some.ensures.cases.0 ∙ bad))
    ∙ l.invariant.told

pub loop-to_come-preserved : goal.loop-to_come-preserved
loop-to_come-preserved c =
    let l = c.loop-to_come in
    let location = c.in-Some.location.now in
    let byte = c.in-Some-split_first.byte.now in
    let rest = c.in-Some-split_first.after.now in
    let one =
    pairs_of-pair l.to_come (l.to_come - 1) l.low location byte rest (omega arith)
    (sym c.fits.ensures ∙ c.if-not-fits.false) in
    record {
      told =
          ap (λ items. behind_pairs items (pairs_of (l.to_come - 1) location rest)) c.push.ensures.items
          ∙ behind-move l.pairs.items (location, byte) (pairs_of (l.to_come - 1) location rest)
          ∙ sym (ap (behind_pairs l.pairs.items)
          (ap (pairs_of l.to_come l.low)
          (c.in-Some.ensures.cases.0 ∙ ap (λ bs. location ∷ bs) c.in-Some-split_first.ensures.cases.0)
          ∙ one))
          ∙ l.invariant.told;
      count = omega (arith, c.push.ensures.len);
    }

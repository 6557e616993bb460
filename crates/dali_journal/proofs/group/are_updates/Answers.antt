use Rattle.dali_journal.proofs.AheadLemmas.{one_more}
use Rattle.dali_journal.proofs.group.are_updates.Goals as goal

pub loop-location-preserved : goal.loop-location-preserved
loop-location-preserved c = λ are.
    let l = c.loop-location in
    let first = c.in-Some in
    l.invariant (one_more l.low l.rest.now first.field-0-0.now first.after.now first.ensures.cases.0
    first.ensures.cases.1 first.ensures.cases.2 c.if-location-low.false c.if-location-eq17.false
    c.if-location-eq18.false are)

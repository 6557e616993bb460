use Rattle.std.proofs.Common.{◌+◌, ◌*◌, sym, subst, arith, get_or}
use Rattle.dali_journal.specs.declared.version.Version.TheVariants.{Two}
use Rattle.dali_journal.specs.GroupAhead.{HasBegan}
use Rattle.dali_journal.proofs.PairLemmas.{are-bytes}
use Rattle.dali_journal.proofs.AheadLemmas.{began_there}
use Rattle.dali_journal.proofs.group.head_ahead.Goals as goal

pub returns : goal.returns
returns c =
    let first = c.in-Some in
    let number = c.in-Some-split_first_chunk in
    let moment = c.in-Some-split_first_chunk-2 in
    let two = c.in-Some-split_first_chunk-3 in
    subst (λ n. HasBegan Two c.from_be_bytes.result (get_or two.field-0-0.now 0 0)
    (n + 2 * get_or two.field-0-0.now 1 0) c.args.bytes.now) (sym c.began_head_len.ensures)
    (began_there first.letter.now c.from_be_bytes.result c.args.bytes.now first.rest.now number.number.now
    number.rest.now moment._moment.now moment.rest.now two.field-0-0.now two.rest.now
    (are-bytes c.args.bytes.now (λ i. omega (arith, c.type_inv.bytes i)))
    first.ensures.cases.0 c.if-letter-ne66.false
    number.ensures.cases.0 number.ensures.cases.1 number.ensures.cases.2
    moment.ensures.cases.0 moment.ensures.cases.1 moment.ensures.cases.2
    two.ensures.cases.0 two.ensures.cases.1 two.ensures.cases.2
    c.from_be_bytes.ensures c.if-unit-gt63.false c.if-count-lt1.false
    (c.has_updates.ensures c.if-not-has_updates.false))

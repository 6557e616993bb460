use Rattle.std.proofs.Common.{subst, arith}
use Rattle.dali_bank.specs.Order.{AreUpdates}
use Rattle.dali_journal.proofs.PairLemmas.{are-bytes}
use Rattle.dali_journal.proofs.JournalLemmas.{order_in_range}
use Rattle.dali_journal.proofs.record.tell_range.Goals as goal

pub returns : goal.returns
returns c =
    order_in_range c.args.bytes.now c.args.order.now c.args.moment
    (are-bytes c.args.bytes.now (λ i. omega (arith, c.type_inv.bytes i))) c.requires
    (let e = c.id-id.ensures in let f = c.id-id.type_inv in omega arith)
    (let f = c.ranges.moment in omega arith)
    (let e = c.unit-unit.ensures.value in let f = c.unit-unit.ensures.short in omega arith)
    (subst AreUpdates c.updates-updates.ensures.value c.updates-updates.ensures.valid)

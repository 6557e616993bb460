use Rattle.std.proofs.Common.{ap, length, arith}
use Rattle.dali_journal.proofs.PieceLemmas.{length-pairs_spelling}
use Rattle.dali_journal.proofs.journal.bytes_wanted.Goals as goal

pub returns : goal.returns
returns c =
    let l = length-pairs_spelling c.args.order.now.updates in
    let n = ap length c.updates.ensures.value in
    let d = c.bytes_due.ensures in
    omega arith

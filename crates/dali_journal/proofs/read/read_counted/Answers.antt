use Rattle.std.proofs.Common.{subst, arith}
use Rattle.dali_journal.proofs.PairLemmas.{AreBytes, are-bytes, updates-read}
use Rattle.dali_journal.proofs.read.read_counted.Goals as goal

pub returns-in-None : goal.returns-in-None
returns-in-None c =
    let bytes = are-bytes c.args.bytes.now (λ i. omega (arith, c.type_inv.bytes i)) in
    let rest = (subst AreBytes c.in-Some.ensures.cases.0 bytes).1 in
    absurd (let made = c.in-None.ensures.made.1 (
      omega arith,
      updates-read c.in-Some.count.now c.in-Some.rest.now c.in-Whole.pairs c.deref.result.now
          (omega arith) (omega arith) rest c.in-Whole.ensures c.deref.ensures.0,
    ) in cc)

use Rattle.std.proofs.Common.{refl}
use Rattle.dali_bank.proofs.LayoutLemmas.{no_number}
use Rattle.dali_bank.proofs.draft.Draft.number.Goals as goal

pub returns-then-are_all-clause-none : goal.returns-then-are_all-clause-none
returns-then-are_all-clause-none c =
    let b = c.bytes-bytes.ensures in
    no_number c.args.self.now c.args.field b.sized (rw (← b.value) (c.if-are_all.ensures.0 refl))

use Rattle.std.proofs.Common.{sym, ◌∙◌}
use Rattle.dali_bank.proofs.OrderLemmas.{pairs_same, same_pairs}
use Rattle.dali_bank.proofs.order.are_same.Goals as goal

pub returns : goal.returns
returns c = (
  λ told. pairs_same c.args.pairs.now c.args.others.now (sym c.eq.ensures ∙ told),
  λ same. c.eq.ensures ∙ same_pairs c.args.pairs.now c.args.others.now same,
)

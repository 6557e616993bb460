use Rattle.std.proofs.Common.{◌∙◌, ◌∷◌, refl, sym, ap}
use Rattle.dali_bank.specs.Order.{Contents}
use Rattle.dali_drive.proofs.ListedLemmas.{gave_more}
use Rattle.dali_drive.proofs.listed.ListedOrdersOrders.next.Goals as goal

pub returns-clause-given : goal.returns-clause-given
returns-clause-given c =
    λ first given gave. gave_more first c.args.self.now _ c.copy.result given
    (c.in_ok-order.ensures.cases.0
    ∙ ap (λ (order : Contents). order ∷ c.in_ok-order.rest.now) (sym c.copy.ensures.value))
    refl gave

use Rattle.dali_laws.proofs.QuietLemmas.{stays_still}
use Rattle.dali_laws.proofs.laws.nothing_is_done_until_an_order_is_taken.Goals as goal

pub returns : goal.returns
returns c =
    λ start past more legal busy none. let still = stays_still start past more legal busy none in (still.1, still.2)

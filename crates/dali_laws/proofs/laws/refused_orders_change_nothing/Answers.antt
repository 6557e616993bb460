use Rattle.dali_laws.proofs.AgreeLemmas.{nothing_changed}
use Rattle.dali_laws.proofs.laws.refused_orders_change_nothing.Goals as goal

pub returns : goal.returns
returns c = nothing_changed

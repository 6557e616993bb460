use Rattle.dali_laws.proofs.TakenLemmas.{kept_are_taken}
use Rattle.dali_laws.proofs.laws.the_taken_orders_are_kept.Goals as goal

pub returns : goal.returns
returns c = kept_are_taken

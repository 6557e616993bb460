use Rattle.dali_laws.proofs.StepsLemmas.{said_in_time}
use Rattle.dali_laws.proofs.laws.orders_are_said_in_time.Goals as goal

pub returns : goal.returns
returns c = said_in_time

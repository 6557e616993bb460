use Rattle.dali_drive.proofs.BehindLemmas.{acts_once}
use Rattle.dali_drive.proofs.laws.older_orders_act_once.Goals as goal

pub returns : goal.returns
returns c = acts_once

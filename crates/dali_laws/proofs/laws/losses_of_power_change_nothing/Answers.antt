use Rattle.dali_laws.proofs.PoweredLemmas.{powered_legal, powered_planned}
use Rattle.dali_laws.proofs.laws.losses_of_power_change_nothing.Goals as goal

pub returns-clause-legal : goal.returns-clause-legal
returns-clause-legal c = powered_legal

pub returns-clause-planned : goal.returns-clause-planned
returns-clause-planned c = powered_planned

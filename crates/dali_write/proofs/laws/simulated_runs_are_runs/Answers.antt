use Rattle.dali_write.specs.Worlds.{IsAmong}
use Rattle.dali_write.proofs.RunLemmas.{shown_run}
use Rattle.dali_write.proofs.laws.simulated_runs_are_runs.Goals as goal

pub returns : goal.returns
returns c = λ loses. shown_run (IsAmong loses)

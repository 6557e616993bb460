use Rattle.dali_write.specs.Worlds.{IsAmong}
use Rattle.dali_laws.proofs.NoiseLemmas.{opened_spares, begun_spares, left_spares, done_spares, doubt_spares}
use Rattle.dali_laws.proofs.NoiseLemmas.{closed_spares}
use Rattle.dali_laws.proofs.noise.altered_answers_spare_orders.Goals as goal

pub returns-clause-opened : goal.returns-clause-opened
returns-clause-opened c = λ made loses. opened_spares made (IsAmong loses)

pub returns-clause-begun : goal.returns-clause-begun
returns-clause-begun c = λ made loses. begun_spares made (IsAmong loses)

pub returns-clause-left : goal.returns-clause-left
returns-clause-left c = λ made loses. left_spares made (IsAmong loses)

pub returns-clause-done : goal.returns-clause-done
returns-clause-done c = λ loses. done_spares (IsAmong loses)

pub returns-clause-doubt : goal.returns-clause-doubt
returns-clause-doubt c = λ loses. doubt_spares (IsAmong loses)

pub returns-clause-closed : goal.returns-clause-closed
returns-clause-closed c = λ loses. closed_spares (IsAmong loses)

use Rattle.dali_drive.proofs.KillLemmas.{stood_in, stood_before}
use Rattle.dali_drive.proofs.laws.stops_leave_a_part.Goals as goal

pub returns-clause-ended : goal.returns-clause-ended
returns-clause-ended g = λ limit most pace orders found seen left first writer last begun is held d part.
    stood_in pace last is held begun orders part writer d

pub returns-clause-broken : goal.returns-clause-broken
returns-clause-broken g = λ limit most pace orders fault found seen left first last begun is held d part.
    stood_before pace last is held begun orders part fault d

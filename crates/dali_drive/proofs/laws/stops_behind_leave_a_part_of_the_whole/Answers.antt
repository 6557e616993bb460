use Rattle.dali_drive.proofs.WholeLemmas.{ended_stood, broke_stood}
use Rattle.dali_drive.proofs.laws.stops_behind_leave_a_part_of_the_whole.Goals as goal

pub returns-clause-ended : goal.returns-clause-ended
returns-clause-ended g =
    λ older limit most room pace given found seen left first writer last b follow is held within part.
    ended_stood older b found is pace room within given seen left last held part writer follow

pub returns-clause-broken : goal.returns-clause-broken
returns-clause-broken g =
    λ older limit most room pace given fault found seen left first last b follow is held within part.
    broke_stood older b found is pace room within given seen left last held part fault follow

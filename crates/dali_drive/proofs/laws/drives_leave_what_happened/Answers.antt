use Rattle.dali_drive.proofs.SittingLemmas.{came_to_its_end, some_broken}
use Rattle.dali_drive.proofs.RepeatLemmas.{unopened_same}
use Rattle.dali_drive.proofs.laws.drives_leave_what_happened.Goals as goal

pub returns-clause-ended : goal.returns-clause-ended
returns-clause-ended g = λ limit most pace orders found left first writer last begun d is held.
    came_to_its_end pace is begun d held

pub returns-clause-broken : goal.returns-clause-broken
returns-clause-broken g = λ limit most pace orders fault found left first last begun d is between.
    some_broken pace is begun d left between

pub returns-clause-unopened : goal.returns-clause-unopened
returns-clause-unopened g = unopened_same

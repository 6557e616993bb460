use Rattle.dali_drive.proofs.FollowLawLemmas.{as_drive, followed_ended, followed_broken}
use Rattle.dali_drive.proofs.laws.followed_orders_are_driven.Goals as goal

pub returns-clause-drive : goal.returns-clause-drive
returns-clause-drive g = as_drive

pub returns-clause-ended : goal.returns-clause-ended
returns-clause-ended g = λ limit most pace given found left first writer last begun follow is held.
    followed_ended pace is begun given writer last left follow held

pub returns-clause-broken : goal.returns-clause-broken
returns-clause-broken g = λ limit most pace given fault found left first last begun follow is between.
    followed_broken pace is begun given fault last left follow between

use Rattle.dali_drive.proofs.AloneLemmas.{alone, followed_broke_stood, followed_stood}
use Rattle.dali_drive.proofs.FollowLawLemmas.{followed_ended, followed_broken}
use Rattle.dali_drive.proofs.laws.what_is_followed_alone_is_of_the_store.Goals as goal

pub returns-clause-ended : goal.returns-clause-ended
returns-clause-ended g = λ limit most pace given found left first writer last b follow is held.
    followed_ended pace is (alone b) given writer last left follow held

pub returns-clause-broken : goal.returns-clause-broken
returns-clause-broken g = λ limit most pace given fault found left first last b follow is between.
    followed_broken pace is (alone b) given fault last left follow between

pub returns-clause-stopped : goal.returns-clause-stopped
returns-clause-stopped g = λ limit most pace given found seen left first writer last b follow is held part.
    followed_stood pace is (alone b) given seen left last held part writer follow

pub returns-clause-stopped_broken : goal.returns-clause-stopped_broken
returns-clause-stopped_broken g = λ limit most pace given fault found seen left first last b follow is held part.
    followed_broke_stood pace is (alone b) given seen left last held part fault follow

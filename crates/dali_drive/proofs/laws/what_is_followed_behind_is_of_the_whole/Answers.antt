use Rattle.dali_drive.proofs.WholeLemmas.{ended_whole, broke_whole, again_whole}
use Rattle.dali_drive.proofs.laws.what_is_followed_behind_is_of_the_whole.Goals as goal

pub returns-clause-ended : goal.returns-clause-ended
returns-clause-ended g = λ older limit most room pace given found left first writer last b follow is held within.
    ended_whole older b found is pace room within given writer last left follow held

pub returns-clause-broken : goal.returns-clause-broken
returns-clause-broken g = λ older limit most room pace given fault found left first last b follow is between within.
    broke_whole older b found is pace room within given fault last left follow between

pub returns-clause-again : goal.returns-clause-again
returns-clause-again g = λ older limit most found first b is version. again_whole older b found is version

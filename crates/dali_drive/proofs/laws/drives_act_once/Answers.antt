use Rattle.dali_drive.proofs.RepeatLemmas.{sittings_follow, act_once}
use Rattle.dali_drive.proofs.laws.drives_act_once.Goals as goal

pub returns-clause-follow : goal.returns-clause-follow
returns-clause-follow g = λ start most first left sittings loads sat begins.
    (sittings_follow start most first left sittings loads sat begins).0

pub returns-clause-once : goal.returns-clause-once
returns-clause-once g = act_once

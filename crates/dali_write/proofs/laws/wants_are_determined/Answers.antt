use Rattle.dali_write.proofs.DeterminedLemmas.{wants_one}
use Rattle.dali_write.proofs.laws.wants_are_determined.Goals as goal

pub returns : goal.returns
returns c = wants_one

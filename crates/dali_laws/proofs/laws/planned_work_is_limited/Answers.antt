use Rattle.dali_laws.proofs.WorkLemmas.{worked}
use Rattle.dali_laws.proofs.laws.planned_work_is_limited.Goals as goal

pub returns : goal.returns
returns c = worked

use Rattle.dali_write.proofs.DoubtLemmas.{doubt_cause}
use Rattle.dali_write.proofs.laws.doubts_have_a_cause.Goals as goal

pub returns : goal.returns
returns c = doubt_cause

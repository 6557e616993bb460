use Rattle.dali_write.proofs.DeterminedLemmas.{frame_wanted}
use Rattle.dali_write.proofs.laws.each_frame_was_wanted.Goals as goal

pub returns : goal.returns
returns c = frame_wanted

use Rattle.dali_journal.proofs.MomentLemmas.{moments_kept}
use Rattle.dali_journal.proofs.laws.moments_are_kept.Goals as goal

pub returns : goal.returns
returns c = moments_kept

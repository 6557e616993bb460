use Rattle.dali_journal.proofs.KeptLemmas.{in_the_groups}
use Rattle.dali_journal.proofs.laws.kept_is_in_the_groups.Goals as goal

pub returns : goal.returns
returns c = in_the_groups

use Rattle.dali_journal.proofs.LoadLemmas.{loads_again}
use Rattle.dali_journal.proofs.laws.journals_load_again.Goals as goal

pub returns : goal.returns
returns c = loads_again

use Rattle.dali_bus.proofs.UnenabledLemmas.{unenabled_stays}
use Rattle.dali_bus.proofs.laws.unenabled_memory_stays.Goals as goal

pub returns : goal.returns
returns c = unenabled_stays

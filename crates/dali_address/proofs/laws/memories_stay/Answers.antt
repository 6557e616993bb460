use Rattle.dali_address.proofs.KeepLemmas.{memories_stay}
use Rattle.dali_address.proofs.laws.memories_stay.Goals as goal

pub returns : goal.returns
returns c = memories_stay

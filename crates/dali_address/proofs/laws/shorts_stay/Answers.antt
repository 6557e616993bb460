use Rattle.dali_address.proofs.KeepLemmas.{shorts_stay}
use Rattle.dali_address.proofs.laws.shorts_stay.Goals as goal

pub returns : goal.returns
returns c = shorts_stay

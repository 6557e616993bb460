use Rattle.dali_address.proofs.KeepLemmas.{addresses_stay}
use Rattle.dali_address.proofs.laws.addresses_stay.Goals as goal

pub returns : goal.returns
returns c = addresses_stay

use Rattle.dali_address.proofs.CountingLemmas.{census_is_true}
use Rattle.dali_address.proofs.laws.census_is_true.Goals as goal

pub returns : goal.returns
returns c = census_is_true

use Rattle.dali_address.proofs.EndStaysLemmas.{end_stays}
use Rattle.dali_address.proofs.laws.end_stays.Goals as goal

pub returns : goal.returns
returns c = end_stays

use Rattle.dali_address.proofs.CountingLemmas.{checks_count}
use Rattle.dali_address.proofs.laws.checks_count.Goals as goal

pub returns : goal.returns
returns c = checks_count

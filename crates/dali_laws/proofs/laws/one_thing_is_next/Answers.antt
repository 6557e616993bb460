use Rattle.dali_laws.proofs.NextLemmas.{one_next}
use Rattle.dali_laws.proofs.laws.one_thing_is_next.Goals as goal

pub returns : goal.returns
returns c = one_next

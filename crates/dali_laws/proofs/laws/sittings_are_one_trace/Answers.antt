use Rattle.dali_laws.proofs.JoinLemmas.{joined_sittings}
use Rattle.dali_laws.proofs.laws.sittings_are_one_trace.Goals as goal

pub returns : goal.returns
returns c = joined_sittings

use Rattle.dali_address.proofs.SaidLemmas.{names_are_true}
use Rattle.dali_address.proofs.laws.names_are_true.Goals as goal

pub returns : goal.returns
returns c = names_are_true

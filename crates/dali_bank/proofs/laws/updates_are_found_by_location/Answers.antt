use Rattle.dali_bank.proofs.UpdateLemmas.{found_among, among_found}
use Rattle.dali_bank.proofs.laws.updates_are_found_by_location.Goals as goal

pub returns : goal.returns
returns c = λ updates location byte rises. (found_among updates location byte, among_found updates location byte rises)

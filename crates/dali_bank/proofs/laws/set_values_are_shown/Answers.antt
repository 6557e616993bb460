use Rattle.dali_bank.proofs.LawLemmas.{set_value_shown}
use Rattle.dali_bank.proofs.laws.set_values_are_shown.Goals as goal

pub returns : goal.returns
returns c = set_value_shown

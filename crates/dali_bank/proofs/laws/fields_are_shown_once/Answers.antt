use Rattle.dali_bank.proofs.LawLemmas.{shown_once}
use Rattle.dali_bank.proofs.laws.fields_are_shown_once.Goals as goal

pub returns : goal.returns
returns c = shown_once

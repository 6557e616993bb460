use Rattle.dali_laws.proofs.CauseLemmas.{shown_at}
use Rattle.dali_laws.proofs.causes.causes_are_shown.Goals as goal

pub returns : goal.returns
returns c = shown_at

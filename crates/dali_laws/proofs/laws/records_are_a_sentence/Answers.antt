use Rattle.dali_laws.proofs.RepeatLemmas.{legal_sentence}
use Rattle.dali_laws.proofs.laws.records_are_a_sentence.Goals as goal

pub returns : goal.returns
returns c = legal_sentence

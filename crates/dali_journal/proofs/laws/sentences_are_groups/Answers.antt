use Rattle.dali_journal.proofs.GroupLemmas.{sentence_groups, groups_sentence}
use Rattle.dali_journal.proofs.laws.sentences_are_groups.Goals as goal

pub returns : goal.returns
returns c = λ records. (sentence_groups records, groups_sentence records)

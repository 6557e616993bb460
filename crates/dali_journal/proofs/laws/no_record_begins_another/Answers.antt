use Rattle.dali_journal.proofs.SpellingLemmas.{none_begins_another}
use Rattle.dali_journal.proofs.laws.no_record_begins_another.Goals as goal

pub returns : goal.returns
returns c = none_begins_another

use Rattle.dali_journal.proofs.BehindLemmas.{stand_alone}
use Rattle.dali_journal.proofs.laws.own_records_stand_alone.Goals as goal

pub returns : goal.returns
returns c = stand_alone

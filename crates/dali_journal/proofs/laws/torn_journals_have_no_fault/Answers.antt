use Rattle.dali_journal.proofs.TornLemmas.{torn_no_fault}
use Rattle.dali_journal.proofs.laws.torn_journals_have_no_fault.Goals as goal

pub returns : goal.returns
returns c = torn_no_fault

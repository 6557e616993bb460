use Rattle.dali_journal.proofs.FaultLemmas.{one_fault}
use Rattle.dali_journal.proofs.laws.bytes_have_one_fault.Goals as goal

pub returns : goal.returns
returns c = one_fault

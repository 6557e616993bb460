use Rattle.dali_write.proofs.RunLemmas.{leads_of}
use Rattle.dali_read.proofs.InBlockLemmas.{when_told}
use Rattle.dali_read.proofs.CourseLemmas.{last_read, bank_read}
use Rattle.dali_read.proofs.IdentityLemmas.{identity_read}
use Rattle.dali_read.proofs.FindLemmas.{order_read, updates_told}
use Rattle.dali_read.proofs.laws.readings_are_true.Goals as goal

pub returns-clause-last : goal.returns-clause-last
returns-clause-last c = last_read

pub returns-clause-bank : goal.returns-clause-bank
returns-clause-bank c = bank_read

pub returns-clause-identity : goal.returns-clause-identity
returns-clause-identity c = identity_read

pub returns-clause-order : goal.returns-clause-order
returns-clause-order c = order_read

pub returns-clause-updates : goal.returns-clause-updates
returns-clause-updates c = updates_told

pub returns-clause-moments : goal.returns-clause-moments
returns-clause-moments c = λ loses told first last unit location byte in_block run.
    when_told told first last unit location byte in_block (leads_of told first last run)

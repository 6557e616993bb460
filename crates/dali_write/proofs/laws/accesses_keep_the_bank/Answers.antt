use Rattle.dali_write.specs.Worlds.{IsAmong}
use Rattle.dali_write.proofs.RunLemmas.{leads_of}
use Rattle.dali_write.proofs.StoredLemmas.{read_keeps, write_keeps}
use Rattle.dali_write.proofs.laws.accesses_keep_the_bank.Goals as goal

pub returns-clause-read : goal.returns-clause-read
returns-clause-read c = λ loses at location unit outcome told first last run.
    read_keeps (IsAmong loses) at location unit outcome told first last (leads_of told first last run)

pub returns-clause-write : goal.returns-clause-write
returns-clause-write c = λ loses pace at before location byte unit outcome told first last run.
    write_keeps (IsAmong loses) pace at before location byte unit outcome told first last (leads_of told first last run)

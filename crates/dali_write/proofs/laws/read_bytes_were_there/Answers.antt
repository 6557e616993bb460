use Rattle.dali_write.proofs.RunLemmas.{leads_of}
use Rattle.dali_write.proofs.WhenToldLemmas.{when_told}
use Rattle.dali_write.proofs.laws.read_bytes_were_there.Goals as goal

pub returns : goal.returns
returns c = λ loses told first last unit location byte run.
    when_told told first last unit location byte (leads_of told first last run)

use Rattle.dali_write.proofs.RunLemmas.{leads_of}
use Rattle.dali_write.proofs.StillReadLemmas.{stands_true}
use Rattle.dali_write.proofs.laws.still_reads_are_true.Goals as goal

pub returns : goal.returns
returns c = λ loses told first last unit location byte run.
    stands_true told first last unit location byte (leads_of told first last run)

use Rattle.std.proofs.Common.{◌++◌}
use Rattle.dali_write.proofs.RunLemmas.{leads_of}
use Rattle.dali_write.proofs.BlockLemmas.{when_block}
use Rattle.dali_read.proofs.laws.block_bytes_were_there.Goals as goal

pub returns : goal.returns
returns c = λ loses newer tried older first last unit block bytes fits run read.
    when_block newer tried older first last unit block bytes (leads_of (newer ++ (tried ++ older)) first last run) read

use Rattle.std.proofs.Common.{subst, ℕ}
use Rattle.dali_write.specs.Worlds.{IsAmong, Shows}
use Rattle.dali_write.proofs.RunLemmas.{leads_of}
use Rattle.dali_write.proofs.BlockBytesLemmas.{block_count}
use Rattle.dali_write.proofs.BlockLemmas.{block_true}
use Rattle.dali_read.proofs.InBlockLemmas.{place_is}
use Rattle.dali_read.proofs.laws.block_reads_are_true.Goals as goal

pub returns-clause-count : goal.returns-clause-count
returns-clause-count c = λ tried unit block bytes read. block_count unit block bytes tried read

pub returns-clause-bytes : goal.returns-clause-bytes
returns-clause-bytes c = λ loses tried first last unit block bytes fits run read index byte is.
    subst (λ (place : ℕ). Shows (IsAmong loses) last unit place byte)
    (place_is unit block bytes tried fits read index byte is)
    (block_true tried first last unit block bytes (leads_of tried first last run) read index byte is)

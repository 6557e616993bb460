use Rattle.dali_write.proofs.BlockSessionLemmas.{block_read, block_silent, block_amid}
use Rattle.dali_write.proofs.laws.sessions_read_blocks.Goals as goal

pub returns-clause-read : goal.returns-clause-read
returns-clause-read c = block_read

pub returns-clause-silent : goal.returns-clause-silent
returns-clause-silent c = block_silent

pub returns-clause-amid : goal.returns-clause-amid
returns-clause-amid c = block_amid

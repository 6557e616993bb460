use Rattle.dali_write.proofs.BlockShapeLemmas.{block_frames_are}
use Rattle.dali_write.proofs.PlaceLemmas.{moved_is}
use Rattle.dali_read.proofs.laws.blocks_are_these.Goals as goal

pub returns-clause-frames : goal.returns-clause-frames
returns-clause-frames c = block_frames_are

pub returns-clause-place : goal.returns-clause-place
returns-clause-place c = moved_is

-- How many frames a session may still send: a number that falls with each of them.
use Rattle.std.specs.Prelude.{ℕ, suc, ◌+◌, ◌-◌, ◌*◌, length}
use Rattle.dali_write.specs.declared.stage.Task.{Task}
use Rattle.dali_write.specs.declared.stage.Stage.{Stage}
use Rattle.dali_write.specs.declared.stage.Stage.TheVariants.{ReadLength, ReadFormat, ReadFormatLow, Unlock, WriteOn}
use Rattle.dali_write.specs.declared.stage.Stage.TheVariants.{ReadBack, ReadPiece, Close, ReadClosed, ReadAll, ReadOn}
use Rattle.dali_write.specs.declared.stage.Stage.TheVariants.{ReadBlock, Over}
use Rattle.dali_write.specs.Frames.{read_frames, write_frames}
use Rattle.dali_write.specs.Counts.{rows_frames}
use Rattle.dali_write.specs.Tries.{most_tries, plan_requests}
use Rattle.dali_write.specs.Stages.{updates_for, of_block, pieces_at}

-- all tries of a checked read, of a checked write, and of the two that close a unit
abbrev pub read_limit : ℕ
read_limit = most_tries * read_frames

abbrev pub write_limit : ℕ
write_limit = most_tries * write_frames

abbrev pub close_limit : ℕ
close_limit = write_limit + read_limit

-- to read back the bytes from this index on, of `count` bytes
abbrev pub read_back_limit : ℕ → ℕ → ℕ
read_back_limit count index = read_limit * (count - index) + close_limit

-- to write the updates from this one on, lock the unit and read all of them back
abbrev pub write_on_limit : ℕ → ℕ → ℕ
write_on_limit count index = write_limit * (count - index) + write_limit + read_back_limit (suc count) 0

-- the most frames from a stage on
abbrev pub limit_at : Task → Stage → ℕ
limit_at task ReadLength = 3 * read_limit
limit_at task ReadFormat = 2 * read_limit
limit_at task (ReadFormatLow high) = read_limit
limit_at task Unlock = write_limit + write_on_limit (length (updates_for task)) 0
limit_at task (WriteOn index) = write_on_limit (length (updates_for task)) index
limit_at task (ReadBack index) = read_back_limit (suc (length (updates_for task))) index
limit_at task (ReadPiece index left) =
    most_tries * rows_frames (pieces_at task index left)
    + read_back_limit (suc (length (updates_for task))) (index + left)
limit_at task (Close answered unanswered) = close_limit
limit_at task (ReadClosed answered unanswered) = read_limit
limit_at task ReadAll = 255 * read_limit
limit_at task (ReadOn location last) = read_limit * (suc last - location)
limit_at task ReadBlock = most_tries * length (plan_requests 0 (of_block task) 1)
limit_at task (Over verdict) = 0

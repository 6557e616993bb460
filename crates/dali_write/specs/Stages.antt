-- The plan that is left at a stage of a session.
use Rattle.std.specs.Prelude.{ℕ, zero, suc, ◌-◌, ◌+◌, get_or, List, [], ◌∷◌, take, drop, Option, Some, None, Result, Ok, Err}
use Rattle.dali_bank.specs.Order.{Contents}
use Rattle.dali_write.specs.declared.access.Access.{Access}
use Rattle.dali_write.specs.declared.ask.Verdict.{Verdict}
use Rattle.dali_write.specs.declared.ask.Verdict.TheVariants.{Closed, NotClosed, Read, Done}
use Rattle.dali_write.specs.declared.stage.Task.{Task}
use Rattle.dali_write.specs.declared.stage.Task.TheVariants.{Fresh, Opened, Closing, Reading, ReadingBlock}
use Rattle.dali_write.specs.declared.stage.Stage.{Stage}
use Rattle.dali_write.specs.declared.stage.Stage.TheVariants.{ReadLength, ReadFormat, ReadFormatLow, Unlock, WriteOn}
use Rattle.dali_write.specs.declared.stage.Stage.TheVariants.{ReadBack, ReadPiece, Close, ReadClosed, ReadAll, ReadOn}
use Rattle.dali_write.specs.declared.stage.Stage.TheVariants.{ReadBlock, Over}
use Rattle.dali_write.specs.declared.pace.Pace.{Pace}
use Rattle.dali_write.specs.declared.pace.Pace.TheVariants.{Checked}
use Rattle.dali_write.specs.Plans.{Plan, Finish, Make, read_length, read_format, read_format_low, unlock, write_on}
use Rattle.dali_write.specs.Plans.{rows_of, most_of, read_backs, read_back, most_again, expect_all, close, read_closed, read_all, read_on}
use Rattle.dali_write.specs.Plans.{read_block}

abbrev pub updates_for : Task → List (ℕ × ℕ)
updates_for (Fresh order pace) = order.updates
updates_for (Opened order pace) = order.updates
updates_for task = []

-- the order that it is for
abbrev pub order_for : Task → Option Contents
order_for (Fresh order pace) = Some order
order_for (Opened order pace) = Some order
order_for task = None

-- the plan that it keeps to
abbrev pub pace_for : Task → Pace
pace_for (Fresh order pace) = pace
pace_for (Opened order pace) = pace
pace_for task = Checked

-- what a session of a block reads
abbrev pub of_block : Task → Plan
of_block (ReadingBlock block) = read_block block
of_block task = Finish Read

-- the whole plan of a session
abbrev pub plan_of : Task → Plan
plan_of (Fresh order pace) = read_length pace order.updates
plan_of (Opened order pace) = unlock pace order.updates
plan_of Closing = close Closed NotClosed
plan_of Reading = read_all
plan_of (ReadingBlock block) = read_block block

-- the location of the write before the update with this index: the first one comes after the lock byte
abbrev pub written_before : List (ℕ × ℕ) → ℕ → ℕ
written_before updates zero = 2
written_before updates (suc index) = (get_or updates index (0, 0)).0

-- what is read back from an index on
abbrev pub back_from : Task → ℕ → List (ℕ × ℕ)
back_from task index = drop index (read_backs (updates_for task))

-- the first `left` of these, which belong to a row that is read again
abbrev pub pieces_at : Task → ℕ → ℕ → List (ℕ × List ℕ)
pieces_at task index left = rows_of most_again (take left (back_from task index))

-- the rows of what is read back from an index on
abbrev pub rows_at : Task → ℕ → List (ℕ × List ℕ)
rows_at task index = rows_of (most_of (pace_for task)) (back_from task index)

-- there is always one that is read again
abbrev pub go_again : List (ℕ × List ℕ) → Plan → Plan
go_again [] after = Finish Done
go_again (row ∷ rows) after = expect_all (row ∷ rows) after

-- the plan that is left at a stage
abbrev pub plan_at : Task → Stage → Plan
plan_at task ReadLength = read_length (pace_for task) (updates_for task)
plan_at task ReadFormat = read_format (pace_for task)
plan_at task (ReadFormatLow high) = read_format_low high
plan_at task Unlock = unlock (pace_for task) (updates_for task)
plan_at task (WriteOn index) =
    write_on (pace_for task) (updates_for task) (written_before (updates_for task) index)
    (drop index (updates_for task))
plan_at task (ReadBack index) = read_back (rows_at task index)
plan_at task (ReadPiece index left) = go_again (pieces_at task index left) (read_back (rows_at task (index + left)))
plan_at task (Close answered unanswered) = close answered unanswered
plan_at task (ReadClosed answered unanswered) = read_closed answered unanswered
plan_at task ReadAll = read_all
plan_at task (ReadOn location last) = read_on location (suc last - location)
plan_at task ReadBlock = of_block task
plan_at task (Over verdict) = Finish verdict

-- the access at hand, or how the session ended
abbrev pub access_of : Plan → Result Access Verdict
access_of (Finish verdict) = Err verdict
access_of (Make access after) = Ok access

-- How much a writer may still want: a number that falls with each record, frame and saying.
use Rattle.std.specs.Prelude.{ℕ, ◌+◌, length}
use Rattle.dali_bank.specs.Order.{Contents}
use Rattle.dali_write.specs.Counts.{fresh_limit, opened_limit}
use Rattle.dali_write.specs.Told.{frames_left}
use Rattle.dali_engine.specs.declared.phase.Phase.{Phase}
use Rattle.dali_engine.specs.declared.phase.Phase.TheVariants.{Idle, Begins, Checks, Writes, Closes, Says}

-- from Opened on: the frames, the end and the saying
abbrev pub opened_work : Contents → ℕ
opened_work order = opened_limit (length order.updates) + 2

-- from Began on: the frames and Opened before that
abbrev pub begun_work : Contents → ℕ
begun_work order = fresh_limit + 1 + opened_work order

-- at most this many records, frames and sayings are still to come
abbrev pub work_left : Phase → ℕ
work_left Idle = 0
work_left (Begins order moment) = 1 + begun_work order
work_left (Checks order s) = frames_left s + 1 + opened_work order
work_left (Writes order s) = frames_left s + 2
work_left (Closes order moment s) = frames_left s + 2 + begun_work order
work_left (Says id code) = 1

-- The orders that a trace has taken, the newest first.
use Rattle.std.specs.Prelude.{List, [], ◌∷◌, Option, Some, None, map}
use Rattle.dali_bank.specs.Order.{Contents}
use Rattle.dali_journal.specs.declared.record.Record.{Record}
use Rattle.dali_journal.specs.declared.kept.Progress.{Progress}
use Rattle.dali_journal.specs.Orders.{orders_of}
use Rattle.dali_trace.specs.declared.happening.Reply.TheVariants as replies
use Rattle.dali_trace.specs.declared.happening.Happening.{Happening}
use Rattle.dali_trace.specs.declared.happening.Happening.TheVariants.{Asked, Answered, Stopped}
use Rattle.dali_trace.specs.Trace.{waiting}

-- the orders without the newest one, if that still waits
abbrev pub without : Option Contents → List Contents → List Contents
without None orders = orders
without (Some waits) [] = []
without (Some waits) (newest ∷ older) = older

-- one order for each reply Taken, without those that were said Blocked and those that a stop found waiting
abbrev pub taken_or_waiting : List Happening → List Contents
taken_or_waiting [] = []
taken_or_waiting (Answered id replies.Taken ∷ Asked order moment ∷ past) = order ∷ taken_or_waiting past
taken_or_waiting (Answered id (replies.Blocked unit) ∷ past) = without (waiting past) (taken_or_waiting past)
taken_or_waiting (Stopped pace ∷ past) = without (waiting past) (taken_or_waiting past)
taken_or_waiting (other ∷ past) = taken_or_waiting past

-- the taken orders: nor the one that waits now
abbrev pub taken_orders : List Happening → List Contents
taken_orders trace = without (waiting trace) (taken_or_waiting trace)

-- the orders that records begin
abbrev pub begun_orders : List Record → List Contents
begun_orders records = map (λ (order : Contents × Progress). order.0) (orders_of records)

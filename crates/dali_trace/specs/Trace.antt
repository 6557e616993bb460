-- The view of a writer that a trace gives. A trace is a list of happenings, the newest first.
use Rattle.std.specs.Prelude.{◌||◌, ℕ, Bool, true, false, List, [], ◌∷◌, ◌++◌, Option, Some, None, length, nat_le}
use Rattle.dali_bank.specs.Order.{Contents}
use Rattle.dali_journal.specs.declared.record.Record.{Record}
use Rattle.dali_journal.specs.declared.record.Record.TheVariants.{Began, Ended}
use Rattle.dali_journal.specs.declared.standing.Standing.{Standing}
use Rattle.dali_journal.specs.declared.standing.Standing.TheVariants as standings
use Rattle.dali_journal.specs.Sentence.{standing_of}
use Rattle.dali_journal.specs.Orders.{orders_of}
use Rattle.dali_write.specs.Exchanges.{Exchange}
use Rattle.dali_trace.specs.declared.happening.Reply.{Reply}
use Rattle.dali_trace.specs.declared.happening.Reply.TheVariants as replies
use Rattle.dali_trace.specs.declared.happening.Happening.{Happening}
use Rattle.dali_trace.specs.declared.happening.Happening.TheVariants.{Asked, Answered, Kept, Stopped, Powered}
use Rattle.dali_trace.specs.Cut.{since, is_stop, is_start, frames_in, kept_in}
use Rattle.dali_write.specs.declared.pace.Pace.{Pace}

-- what a trace starts from: the records of a journal, the newest first, the most orders that it may hold, and the plan
-- that sessions keep to
pub record Start : Type 0 where
  pub records : List Record
  pub limit : ℕ
  pub pace : Pace

-- the plan that sessions keep to by now: that of the start, until the program begins anew by another
abbrev pub pace_at : Start → List Happening → Pace
pace_at start [] = start.pace
pace_at start (Stopped pace ∷ past) = pace
pace_at start (other ∷ past) = pace_at start past

-- the records so far: those of the start, and those that were kept
abbrev pub records_of : Start → List Happening → List Record
records_of start past = kept_in past ++ start.records

-- the standing of the records so far
abbrev pub standing_at : Start → List Happening → Standing
standing_at start past = standing_of (records_of start past)

-- the frames since the last stop, with what came back
abbrev pub sent_of : List Happening → List Exchange
sent_of past = frames_in (since is_stop past)

-- the frames since the last order was taken, or since the last stop, whichever is later
abbrev pub sent_since_taken : List Happening → List Exchange
sent_since_taken past = frames_in (since is_start past)

-- the units that have lost their power by now, if these had before
abbrev pub powered_of : List ℕ → List Happening → List ℕ
powered_of before [] = before
powered_of before (Powered address ∷ past) = address ∷ powered_of before past
powered_of before (other ∷ past) = powered_of before past

-- The sayings that are still due since the last stop.
pub data Outstanding : Type 0 where
  -- nothing
  Quiet : Outstanding
  -- how the order ends that was taken at that moment and hasn't begun
  Waiting : (order : Contents) → (moment : ℕ) → Outstanding
  -- how the order ends that was taken and has begun
  Working : Outstanding
  -- how the order ended whose end was just kept
  JustEnded : Outstanding

-- an order that gets the reply Taken waits; another reply changes nothing
abbrev pub replied : Contents → ℕ → Reply → Outstanding → Outstanding
replied order moment replies.Taken before = Waiting order moment
replied order moment reply before = before

-- that after another happening; an answer that isn't a reply is a saying: it tells of an order that was taken before
abbrev pub next_outstanding : Outstanding → Happening → Outstanding
next_outstanding before (Answered id reply) = Quiet
next_outstanding before (Kept (Began order moment)) = Working
next_outstanding before (Kept (Ended code)) = JustEnded
next_outstanding before (Stopped pace) = Quiet
next_outstanding before other = before

-- that of a trace; an answer straight after an order is its reply
abbrev pub outstanding_of : List Happening → Outstanding
outstanding_of [] = Quiet
outstanding_of (Answered id reply ∷ Asked order moment ∷ past) = replied order moment reply (outstanding_of past)
outstanding_of (newest ∷ past) = next_outstanding (outstanding_of past) newest

-- the waiting order: it was taken and hasn't begun, with no saying and no stop since
abbrev pub waits_in : Outstanding → Option Contents
waits_in (Waiting order moment) = Some order
waits_in other = None

abbrev pub waiting : List Happening → Option Contents
waiting past = waits_in (outstanding_of past)

-- the moment at which the waiting order was submitted
abbrev pub since_in : Outstanding → ℕ
since_in (Waiting order moment) = moment
since_in other = 0

abbrev pub waiting_since : List Happening → ℕ
waiting_since past = since_in (outstanding_of past)

-- since the last stop an order was taken or has ended, with no saying since
abbrev pub unsaid_in : Outstanding → Bool
unsaid_in Quiet = false
unsaid_in other = true

abbrev pub is_unsaid : List Happening → Bool
is_unsaid past = unsaid_in (outstanding_of past)

-- since the last stop an order has ended, with none taken and no saying since
abbrev pub ended_in : Outstanding → Bool
ended_in JustEnded = true
ended_in other = false

abbrev pub has_ended : List Happening → Bool
has_ended past = ended_in (outstanding_of past)

-- an order was begun and hasn't ended
abbrev pub is_at_work : Standing → Bool
is_at_work (standings.Began order) = true
is_at_work (standings.Opened order) = true
is_at_work other = false

-- there is something to be done or said
abbrev pub is_busy : Start → List Happening → Bool
is_busy start past = is_at_work (standing_at start past) || is_unsaid past

-- there are as many orders as there may be
abbrev pub is_full : Start → List Happening → Bool
is_full start past = nat_le start.limit (length (orders_of (records_of start past)))

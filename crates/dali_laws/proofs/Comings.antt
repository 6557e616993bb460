-- How an order has come along since its start: the frames that it sent, joined from those of its sessions.
use Rattle.std.specs.Prelude.{◌≡◌, ◌⊎◌, ◌≤◌, ℕ, Bool, true, false, List, [], ◌∷◌, ◌++◌, Option, Some, None, ⊤}
use Rattle.dali_bank.specs.Order.{Contents}
use Rattle.dali_journal.specs.declared.record.Code.{Code}
use Rattle.dali_journal.specs.declared.record.Record.TheVariants.{Ended}
use Rattle.dali_journal.specs.declared.standing.Standing.{Standing}
use Rattle.dali_journal.specs.declared.standing.Standing.TheVariants as standings
use Rattle.dali_journal.specs.declared.kept.Progress.{Progress}
use Rattle.dali_journal.specs.declared.kept.Progress.TheVariants as reached
use Rattle.dali_journal.specs.Orders.{orders_of}
use Rattle.dali_write.specs.Exchanges.{Exchange}
use Rattle.dali_write.specs.declared.ask.Ask.TheVariants as asks
use Rattle.dali_write.specs.declared.ask.Verdict.{Verdict}
use Rattle.dali_write.specs.declared.ask.Verdict.TheVariants as verdicts
use Rattle.dali_write.specs.Plans.{read_length, unlock, close}
use Rattle.dali_write.specs.Tries.{Wants}
use Rattle.dali_trace.specs.declared.happening.Happening.{Happening}
use Rattle.dali_trace.specs.Trace.{pace_at, Start, records_of, standing_at, sent_since_taken, waiting, has_ended}
use Rattle.dali_trace.specs.Grounds.{EndsIn}
use Rattle.dali_trace.specs.ByPlan.{told_in}
use Rattle.dali_trace.specs.Work.{stood_at, kept_since}
use Rattle.dali_write.specs.declared.pace.Pace.{Pace}

-- these frames closed the unit that was left at the start; if none was left, there are none, and there was no need of
-- any if an order was opened
abbrev pub ClosedBy : Standing → List Exchange → Type 0
ClosedBy standings.Idle sent = sent ≡ []
ClosedBy (standings.Began order) sent = sent ≡ []
ClosedBy (standings.Opened order) sent = ⊥
ClosedBy (standings.Left unit) sent =
    Wants unit (close verdicts.Closed verdicts.NotClosed) sent (asks.Ended verdicts.Closed)

-- these frames are those of a fresh session that found that the order may be opened, after those that closed a left
-- unit
abbrev pub CheckedBy : Pace → Standing → Contents → List Exchange → Type 0
CheckedBy pace first order sent =
    (told : List Exchange) × (older : List Exchange) × (sent ≡ told ++ older)
    × Wants order.unit (read_length pace order.updates) told (asks.Ended verdicts.MayOpen) × ClosedBy first older

-- these frames came before the order was opened: none if it was opened at the start
abbrev pub OpenedBy : Pace → Standing → Contents → List Exchange → Type 0
OpenedBy pace standings.Idle order sent = CheckedBy pace standings.Idle order sent
OpenedBy pace (standings.Began begun) order sent = CheckedBy pace (standings.Began begun) order sent
OpenedBy pace (standings.Left unit) order sent = CheckedBy pace (standings.Left unit) order sent
OpenedBy pace (standings.Opened opened) order sent = (opened ≡ order) × (sent ≡ [])

-- these are all frames of an order that ended so
abbrev pub EndedBy : Pace → Standing → Contents → Code → List Exchange → Type 0
EndedBy pace first order code sent =
    (verdict : Verdict) × (told : List Exchange) × (older : List Exchange) × (sent ≡ told ++ older)
    × ((EndsIn (standings.Began order) verdict (Ended code)
    × Wants order.unit (read_length pace order.updates) told (asks.Ended verdict) × ClosedBy first older)
    ⊎ (EndsIn (standings.Opened order) verdict (Ended code)
    × Wants order.unit (unlock pace order.updates) told (asks.Ended verdict) × OpenedBy pace first order older))

-- the newest order has ended, and these are its frames
abbrev pub NewestEndedBy : Pace → Standing → List (Contents × Progress) → List Exchange → Type 0
NewestEndedBy pace stands ((order, reached.Ended code) ∷ older) sent = EndedBy pace stands order code sent
NewestEndedBy pace stands other sent = ⊥

-- The progress of an order since its start, by the standing of the records at the start and now: the frames sent since
-- then, those of them that the session at hand has seen, and how many records were kept.
abbrev pub HasCome : Pace → Standing → Standing → Option Contents → Bool → List (Contents × Progress) → List Exchange
    → List Exchange → ℕ → Type 0
HasCome pace first (standings.Began order) waits ended orders sent told kept =
    (older : List Exchange) × (sent ≡ told ++ older) × ClosedBy first older × (kept ≤ 2)
HasCome pace first (standings.Opened order) waits ended orders sent told kept =
    (older : List Exchange) × (sent ≡ told ++ older) × OpenedBy pace first order older × (kept ≤ 3)
HasCome pace first (standings.Left unit) (Some order) ended orders sent told kept =
    (first ≡ standings.Left unit) × (sent ≡ told) × (kept ≤ 0)
HasCome pace first standings.Idle (Some order) ended orders sent told kept = (told ≡ []) × ClosedBy first sent
    × (kept ≤ 1)
HasCome pace first now None true orders sent told kept = NewestEndedBy pace first orders sent × (kept ≤ 4)
HasCome pace first now None false orders sent told kept = ⊤

-- and so it is of the trace
abbrev pub IsOnPlan : Start → List Happening → Type 0
IsOnPlan start past =
    HasCome (pace_at start past) (stood_at start past) (standing_at start past) (waiting past) (has_ended past)
    (orders_of (records_of start past)) (sent_since_taken past) (told_in past) (kept_since past)

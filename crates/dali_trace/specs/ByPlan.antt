-- The traces that keep to the plans of their sessions: each frame is the one that the session at hand asks for after
-- the frames that it has seen, and each record and saying is the one that its end asks for.
--
-- So each frame belongs to a try of a checked access, a try ends at its first miss or with its last frame, and an
-- access has a further try exactly when its last one ended in a miss and it has had fewer than eight. A stop cuts off
-- the try at hand, and the session begins anew.
use Rattle.std.specs.Prelude.{List, [], ◌∷◌, ⊤}
use Rattle.dali_journal.specs.declared.record.Record.TheVariants.{Began}
use Rattle.dali_journal.specs.declared.standing.Standing.{Standing}
use Rattle.dali_journal.specs.declared.standing.Standing.TheVariants as standings
use Rattle.dali_write.specs.Exchanges.{Exchange}
use Rattle.dali_write.specs.declared.ask.Ask.{Ask}
use Rattle.dali_write.specs.declared.ask.Ask.TheVariants as asks
use Rattle.dali_write.specs.declared.ask.Verdict.{Verdict}
use Rattle.dali_write.specs.declared.ask.Verdict.TheVariants as verdicts
use Rattle.dali_write.specs.Plans.{read_length, unlock, close}
use Rattle.dali_write.specs.Tries.{Wants}
use Rattle.dali_trace.specs.declared.happening.Reply.TheVariants as replies
use Rattle.dali_trace.specs.declared.happening.Happening.{Happening}
use Rattle.dali_trace.specs.declared.happening.Happening.TheVariants.{Answered, Sent, Kept}
use Rattle.dali_trace.specs.Cut.{since, is_turn, frames_in}
use Rattle.dali_trace.specs.Trace.{pace_at, Start, standing_at}
use Rattle.dali_trace.specs.Grounds.{EndsIn}
use Rattle.dali_write.specs.declared.pace.Pace.{Pace}

-- the frames of the session at hand: those since an order was taken, a record was kept or a stop, whichever is latest
abbrev pub told_in : List Happening → List Exchange
told_in past = frames_in (since is_turn past)

-- with this standing of the records, the session at hand asks this after these frames, by one of both plans: a fresh
-- one of the order that was begun, an opened one of the order that was opened, one that closes the left unit
abbrev pub Asks : Pace → Standing → List Exchange → Ask → Type 0
Asks pace standings.Idle told ask = ⊥
Asks pace (standings.Began order) told ask = Wants order.unit (read_length pace order.updates) told ask
Asks pace (standings.Opened order) told ask = Wants order.unit (unlock pace order.updates) told ask
Asks pace (standings.Left unit) told ask = Wants unit (close verdicts.Closed verdicts.NotClosed) told ask

-- the happening is what the plan asks for. An order is begun, and an end is said, without any frame
abbrev pub IsPlanned : Start → List Happening → Happening → Type 0
IsPlanned start past (Sent frame answer) =
    Asks (pace_at start past) (standing_at start past) (told_in past) (asks.Send frame)
IsPlanned start past (Kept (Began order moment)) = ⊤
IsPlanned start past (Kept entry) =
    (verdict : Verdict) × Asks (pace_at start past) (standing_at start past) (told_in past) (asks.Ended verdict)
    × EndsIn (standing_at start past) verdict entry
IsPlanned start past (Answered id (replies.Blocked unit)) =
    Asks (pace_at start past) (standing_at start past) (told_in past) (asks.Ended verdicts.NotClosed)
IsPlanned start past other = ⊤

-- and so is each of the trace
abbrev pub ByPlan : Start → List Happening → Type 0
ByPlan start [] = ⊤
ByPlan start (next ∷ past) = ByPlan start past × IsPlanned start past next

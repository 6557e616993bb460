-- How much work an order takes. An order starts when it is taken, and when a stop leaves it begun or opened.
use Rattle.std.specs.Prelude.{◌≡◌, ◌⊎◌, ◌≤◌, ℕ, ◌+◌, nat_lt, Bool, true, List, [], ◌∷◌, ◌++◌, length, Option, ⊤}
use Rattle.std.specs.Prelude.{Some, None, IfSome, if◌then◌else◌}
use Rattle.dali_bank.specs.Order.{Contents}
use Rattle.dali_journal.specs.declared.record.Code.{Code}
use Rattle.dali_journal.specs.declared.record.Code.TheVariants as codes
use Rattle.dali_journal.specs.declared.standing.Standing.{Standing}
use Rattle.dali_journal.specs.declared.standing.Standing.TheVariants as standings
use Rattle.dali_journal.specs.declared.kept.Progress.{Progress}
use Rattle.dali_journal.specs.Orders.{orders_of}
use Rattle.dali_write.specs.Exchanges.{Exchange}
use Rattle.dali_write.specs.Plans.{greatest, unlock}
use Rattle.dali_write.specs.Frames.{read_frames, write_frames}
use Rattle.dali_write.specs.Counts.{done_frames, closing_limit, fresh_limit, opened_limit}
use Rattle.dali_write.specs.Misses.{IsLong}
use Rattle.dali_write.specs.Doubts.{EndsUnread, EndsUnlooked, FailedForGood, FoundAnother}
use Rattle.dali_trace.specs.declared.happening.Reply.TheVariants as replies
use Rattle.dali_trace.specs.declared.happening.Happening.{Happening}
use Rattle.dali_trace.specs.declared.happening.Happening.TheVariants.{Asked, Answered}
use Rattle.dali_trace.specs.Cut.{since, up_to, is_start, kept_in}
use Rattle.dali_trace.specs.Trace.{pace_at, Start, records_of, standing_at, sent_since_taken, waiting, has_ended}
use Rattle.dali_write.specs.declared.pace.Pace.{Pace}
use Rattle.dali_write.specs.Plans.{rows_of, most_of, read_backs, all_rows}
use Rattle.dali_write.specs.Frames.{format_frames}

-- the standing of the records at the last start
abbrev pub stood_at : Start → List Happening → Standing
stood_at start past = standing_at start (up_to is_start past)

-- how many records were kept since then
abbrev pub kept_since : List Happening → ℕ
kept_since past = length (kept_in (since is_start past))

-- from a start of an order with this many updates no more frames are sent, a left unit's closing included
abbrev pub work_limit : ℕ → ℕ
work_limit updates = closing_limit + fresh_limit + opened_limit updates

-- the frames that look whether bank 1 suits the updates, if no try misses
abbrev pub look_frames : Pace → List (ℕ × ℕ) → ℕ
look_frames pace updates =
    if nat_lt (greatest updates) 0x13 then read_frames else read_frames + format_frames pace

-- the frames of an order that is done, from its start on, if no try misses
abbrev pub frames_from : Pace → Standing → List (ℕ × ℕ) → ℕ
frames_from pace (standings.Left unit) updates =
    done_frames pace updates + look_frames pace updates + (write_frames + read_frames)
frames_from pace (standings.Opened order) updates = done_frames pace updates
frames_from pace other updates = done_frames pace updates + look_frames pace updates

-- among these frames are those of a session that carries the order out, of which an access failed that isn't made good
abbrev pub FailsForGood : Pace → Contents → List Exchange → Type 0
FailsForGood pace order sent =
    (told : List Exchange) × (older : List Exchange) × (sent ≡ told ++ older)
    × FailedForGood order.unit (unlock pace order.updates) told

-- a read of the lock byte or of updates' locations, of a row of them, found other bytes than must be there
abbrev pub FindsAnother : Pace → Contents → List Exchange → Type 0
FindsAnother pace order sent =
    (told : List Exchange) × (older : List Exchange) × (sent ≡ told ++ older)
    × FoundAnother order.unit (unlock pace order.updates)
    (all_rows (rows_of (most_of pace) (read_backs order.updates))) told

-- The frames from an order's start on that earn it its code. Done: exactly as many as its plan takes, and for each miss
-- and each row that told another byte at most what it may take. Silent: the last access, which read the length or the
-- content format, failed. DoubtOpen: the last access, which read the lock byte, failed. Doubt: an access failed, or
-- another byte was found, and wasn't read again. (The checked reads on which Done, Short, Format and Doubt also rest
-- are a rule of legal traces.)
abbrev pub IsEarned : Pace → Standing → Contents → Code → List Exchange → Type 0
IsEarned pace first order codes.Done sent =
    IsLong pace (read_backs order.updates) (frames_from pace first order.updates) sent
IsEarned pace first order codes.Silent sent = EndsUnlooked pace order.unit sent
IsEarned pace first order codes.Doubt sent = FailsForGood pace order sent ⊎ FindsAnother pace order sent
IsEarned pace first order codes.DoubtOpen sent = EndsUnread order.unit 0x02 sent
IsEarned pace first order other sent = ⊤

-- the order at hand: the one at work, the one that waits, or the one that has ended and isn't said yet
abbrev pub order_at : Standing → Option Contents → Bool → List (Contents × Progress) → Option Contents
order_at (standings.Began order) waits ended orders = Some order
order_at (standings.Opened order) waits ended orders = Some order
order_at other (Some order) ended orders = Some order
order_at other None true (newest ∷ older) = Some newest.0
order_at other None ended orders = None

abbrev pub order_at_hand : Start → List Happening → Option Contents
order_at_hand start past =
    order_at (standing_at start past) (waiting past) (has_ended past) (orders_of (records_of start past))

-- since the start of the order at hand no more frames than the limit were sent, and at most four records kept
abbrev pub IsWithinLimit : Start → List Happening → Type 0
IsWithinLimit start past =
    IfSome (order_at_hand start past)
    (λ order. (length (sent_since_taken past) ≤ work_limit (length order.updates)) × (kept_since past ≤ 4))

-- The last saying of an order that was taken was earned by the frames from its start on: how it ended, or that the left
-- unit's lock byte wasn't read.
abbrev pub IsSaidSo : Start → List Happening → Type 0
IsSaidSo start (Answered id reply ∷ Asked order moment ∷ past) = ⊤
IsSaidSo start (Answered id (replies.Kept code) ∷ past) =
    (order : Contents) × (order.id ≡ id) × (order_at_hand start past ≡ Some order)
    × IsEarned (pace_at start past) (stood_at start past) order code (sent_since_taken past)
IsSaidSo start (Answered id (replies.Blocked unit) ∷ past) = EndsUnread unit 0x02 (sent_since_taken past)
IsSaidSo start other = ⊤

-- it holds at each moment of a trace
abbrev pub AtEachPast : (List Happening → Type 0) → List Happening → Type 0
AtEachPast holds [] = holds []
AtEachPast holds (newest ∷ past) = holds (newest ∷ past) × AtEachPast holds past

-- at each moment the frames and records since the start of the order at hand are within the limit, and what is said
-- was earned
abbrev pub IsWorked : Start → List Happening → Type 0
IsWorked start past = AtEachPast (λ moment. IsWithinLimit start moment × IsSaidSo start moment) past

-- The cost of a trace that keeps to the plans.
use Rattle.std.proofs.Common.{◌≡◌, ◌⊎◌, inl, inr, refl, sym, ap, ◌∙◌, subst, ℕ, ◌+◌, ◌≤◌, Bool, true, false}
use Rattle.std.specs.Prelude.{⊤}
use Rattle.std.proofs.Common.{nat_lt, if◌then◌else◌, List, [], ◌∷◌, ◌++◌, length, length-append, append-nil, Option}
use Rattle.std.proofs.Common.{Some, None, IfSome, arith}
use Rattle.std.proofs.lemmas.Bool.{ltb-true, ltb-false}
use Rattle.dali_frame.specs.declared.forward.Frame.{Frame}
use Rattle.dali_bank.specs.Order.{Contents}
use Rattle.dali_journal.specs.declared.record.Code.{Code}
use Rattle.dali_journal.specs.declared.record.Code.TheVariants as codes
use Rattle.dali_journal.specs.declared.record.Record.TheVariants.{Began, Opened, Ended, Closed}
use Rattle.dali_journal.specs.declared.standing.Standing.{Standing}
use Rattle.dali_journal.specs.declared.standing.Standing.TheVariants as standings
use Rattle.dali_journal.specs.declared.kept.Progress.{Progress}
use Rattle.dali_journal.specs.declared.kept.Progress.TheVariants as reached
use Rattle.dali_journal.specs.Sentence.{standing_of}
use Rattle.dali_journal.specs.Orders.{orders_of}
use Rattle.dali_write.specs.Exchanges.{Exchange}
use Rattle.dali_write.specs.declared.ask.Ask.{Ask}
use Rattle.dali_write.specs.declared.ask.Ask.TheVariants as asks
use Rattle.dali_write.specs.declared.ask.Verdict.{Verdict}
use Rattle.dali_write.specs.declared.ask.Verdict.TheVariants as verdicts
use Rattle.dali_write.specs.Plans.{Plan, greatest, read_length, unlock, close}
use Rattle.dali_write.specs.Tries.{Wants}
use Rattle.dali_write.specs.Walks.{Took}
use Rattle.dali_write.specs.Doubts.{EndsUnread, FailedForGood, FoundAnother}
use Rattle.dali_write.specs.Frames.{read_frames, write_frames}
use Rattle.dali_write.specs.Counts.{closing_limit, fresh_limit, opened_limit, done_frames}
use Rattle.dali_write.specs.Misses.{IsLong}
use Rattle.dali_write.proofs.NextLemmas.{first_wanted, next_wanted, fresh_few, opened_few, closing_few}
use Rattle.dali_write.proofs.MissLemmas.{took_long}
use Rattle.dali_write.proofs.TurnLemmas.{close_turn, length_turn, unlock_turn}
use Rattle.dali_write.specs.Plans.{IsInTurn}
use Rattle.dali_write.proofs.ExactLemmas.{HasOthers, none_other, done_took_on}
use Rattle.dali_write.proofs.ExactEndLemmas.{low_took, high_took, closed_took}
use Rattle.dali_write.proofs.GiveUpLemmas.{fresh_late, opened_late, closing_late, unread_joined, unlooked_joined}
use Rattle.dali_write.proofs.DoubtLemmas.{doubt_cause}
use Rattle.dali_trace.specs.declared.happening.Reply.TheVariants as replies
use Rattle.dali_trace.specs.declared.happening.Happening.{Happening}
use Rattle.dali_trace.specs.declared.happening.Happening.TheVariants.{Asked, Answered, Sent, Kept, Stopped}
use Rattle.dali_trace.specs.Trace.{pace_at, Start, records_of, standing_at, sent_since_taken, waiting, has_ended, is_at_work}
use Rattle.dali_trace.specs.Trace.{outstanding_of}
use Rattle.dali_trace.specs.Legal.{Legal, MaySay, EndsAs, HasNumber}
use Rattle.dali_trace.specs.Grounds.{EndsIn}
use Rattle.dali_trace.specs.ByPlan.{told_in, Asks, ByPlan}
use Rattle.dali_laws.proofs.Comings.{ClosedBy, CheckedBy, OpenedBy, EndedBy, NewestEndedBy, HasCome}
use Rattle.dali_trace.specs.Work.{stood_at, kept_since, work_limit, look_frames, frames_from, FailsForGood, FindsAnother, IsEarned}
use Rattle.dali_trace.specs.Work.{order_at, IsWithinLimit, IsSaidSo, IsWorked}
use Rattle.dali_laws.proofs.OnPlanLemmas.{on_plan, idle_next}
use Rattle.dali_laws.proofs.TakenLemmas.{none_waits_ended, no_opened}
use Rattle.dali_laws.proofs.SafeLemmas.{may_keep}
use Rattle.dali_write.specs.declared.pace.Pace.{Pace}
use Rattle.dali_write.specs.Plans.{rows_of, most_of, read_backs, all_rows}
use Rattle.dali_write.specs.Frames.{format_frames}
use Rattle.dali_write.specs.declared.pace.Pace.TheVariants.{Checked, Short}

-- the session at hand wants something
abbrev pub InSession : Pace → Standing → List Exchange → Type 0
InSession pace standings.Idle told = ⊤
InSession pace (standings.Began order) told = (ask : Ask) × Asks pace (standings.Began order) told ask
InSession pace (standings.Opened order) told = (ask : Ask) × Asks pace (standings.Opened order) told ask
InSession pace (standings.Left unit) told = (ask : Ask) × Asks pace (standings.Left unit) told ask

begins_session : (pace : Pace) (stands : Standing) → InSession pace stands []
begins_session pace standings.Idle = tt
begins_session pace (standings.Began order) = first_wanted order.unit (read_length pace order.updates)
begins_session pace (standings.Opened order) = first_wanted order.unit (unlock pace order.updates)
begins_session pace (standings.Left unit) = first_wanted unit (close verdicts.Closed verdicts.NotClosed)

next_in : (pace : Pace) (stands : Standing) (told : List Exchange) (frame : Frame) (answer : Option ℕ)
    → Asks pace stands told (asks.Send frame) → InSession pace stands (record { frame = frame; answer = answer } ∷ told)
next_in pace standings.Idle told frame answer asked = tt
next_in pace (standings.Began order) told frame answer asked =
    next_wanted order.unit (read_length pace order.updates) told frame answer asked
next_in pace (standings.Opened order) told frame answer asked =
    next_wanted order.unit (unlock pace order.updates) told frame answer asked
next_in pace (standings.Left unit) told frame answer asked =
    next_wanted unit (close verdicts.Closed verdicts.NotClosed) told frame answer asked

pub in_session : (start : Start) (past : List Happening) → ByPlan start past
    → InSession (pace_at start past) (standing_at start past) (told_in past)
in_session start [] planned = begins_session start.pace (standing_of start.records)
in_session start (Answered id replies.Taken ∷ past) planned = begins_session (pace_at start past)
    (standing_at start past)
in_session start (Sent frame answer ∷ past) planned =
    next_in (pace_at start past) (standing_at start past) (told_in past) frame answer planned.1
in_session start (Kept entry ∷ past) planned = begins_session (pace_at start past)
    (standing_at start (Kept entry ∷ past))
in_session start (Stopped pace ∷ past) planned = begins_session pace (standing_at start past)
in_session start (_ ∷ past) planned = in_session start past planned.0

-- lengths

both_few : (sent told older : List Exchange) (one two : ℕ) → sent ≡ told ++ older → length told ≤ one
    → length older ≤ two → length sent ≤ one + two
both_few sent told older one two parts few less =
    let all = ap (λ (t : List Exchange). length t) parts in
    let joined = length-append told older in
    omega arith

none_few : (sent : List Exchange) (limit : ℕ) → sent ≡ [] → length sent ≤ limit
none_few sent limit none = let all = ap (λ (t : List Exchange). length t) none in omega arith

closed_few : (first : Standing) (sent : List Exchange) → ClosedBy first sent → length sent ≤ closing_limit
closed_few standings.Idle sent closed = none_few sent closing_limit closed
closed_few (standings.Began order) sent closed = none_few sent closing_limit closed
closed_few (standings.Opened order) sent closed = absurd closed
closed_few (standings.Left unit) sent closed = closing_few unit sent (asks.Ended verdicts.Closed) closed

checked_few : (pace : Pace) (first : Standing) (order : Contents) (sent : List Exchange)
    → CheckedBy pace first order sent
    → length sent ≤ fresh_limit + closing_limit
checked_few pace first order sent (told, older, parts, wants, closed) =
    both_few sent told older fresh_limit closing_limit parts
    (fresh_few order.unit pace order.updates told (asks.Ended verdicts.MayOpen) wants) (closed_few first older closed)

opened_by_few : (pace : Pace) (first : Standing) (order : Contents) (sent : List Exchange)
    → OpenedBy pace first order sent
    → length sent ≤ fresh_limit + closing_limit
opened_by_few pace standings.Idle order sent opened = checked_few pace standings.Idle order sent opened
opened_by_few pace (standings.Began begun) order sent opened = checked_few pace (standings.Began begun) order sent
    opened
opened_by_few pace (standings.Left unit) order sent opened = checked_few pace (standings.Left unit) order sent opened
opened_by_few pace (standings.Opened other) order sent opened = none_few sent (fresh_limit + closing_limit) opened.1

ended_few : (pace : Pace) (first : Standing) (order : Contents) (code : Code) (sent : List Exchange)
    → EndedBy pace first order code sent
    → length sent ≤ work_limit (length order.updates)
ended_few pace first order code sent (verdict, told, older, parts, inl (ends, wants, closed)) =
    let few =
    both_few sent told older fresh_limit closing_limit parts
    (fresh_few order.unit pace order.updates told (asks.Ended verdict) wants) (closed_few first older closed) in
    omega arith
ended_few pace first order code sent (verdict, told, older, parts, inr (ends, wants, opened)) =
    let few =
    both_few sent told older (opened_limit (length order.updates)) (fresh_limit + closing_limit) parts
    (opened_few order.unit pace order.updates told (asks.Ended verdict) wants)
    (opened_by_few pace first order older opened) in omega arith

newest_few : (pace : Pace) (first : Standing) (newest : Contents × Progress) (older : List (Contents × Progress))
    (sent : List Exchange)
    → NewestEndedBy pace first (newest ∷ older) sent
    → length sent ≤ work_limit (length newest.0.updates)
newest_few pace first (order, reached.Ended code) older sent ended = ended_few pace first order code sent ended
newest_few pace first (order, reached.Begun) older sent ended = absurd ended
newest_few pace first (order, reached.Open) older sent ended = absurd ended

within : (pace : Pace) (first now : Standing) (waiter : Option Contents) (ended : Bool)
    (orders : List (Contents × Progress))
    (sent told : List Exchange) (kept : ℕ)
    → InSession pace now told → HasCome pace first now waiter ended orders sent told kept
    → IfSome (order_at now waiter ended orders)
    (λ order. (length sent ≤ work_limit (length order.updates)) × (kept ≤ 4))
within pace first (standings.Began order) waiter ended orders sent told kept session come =
    let few =
    both_few sent told come.0 fresh_limit closing_limit come.1
    (fresh_few order.unit pace order.updates told session.0 session.1) (closed_few first come.0 come.2) in
    let some = come.3 in (omega arith, omega arith)
within pace first (standings.Opened order) waiter ended orders sent told kept session come =
    let few =
    both_few sent told come.0 (opened_limit (length order.updates)) (fresh_limit + closing_limit) come.1
    (opened_few order.unit pace order.updates told session.0 session.1)
    (opened_by_few pace first order come.0 come.2) in
    let some = come.3 in (omega arith, omega arith)
within pace first (standings.Left unit) (Some order) ended orders sent told kept session come =
    let few = closing_few unit told session.0 session.1 in
    let all = ap (λ (t : List Exchange). length t) come.1 in
    let some = come.2 in (omega arith, omega arith)
within pace first standings.Idle (Some order) ended orders sent told kept session come =
    let few = closed_few first sent come.1 in let some = come.2 in (omega arith, omega arith)
within pace first standings.Idle None true [] sent told kept session come = tt
within pace first (standings.Left unit) None true [] sent told kept session come = tt
within pace first standings.Idle None true (newest ∷ older) sent told kept session come =
    (newest_few pace first newest older sent come.0, come.1)
within pace first (standings.Left unit) None true (newest ∷ older) sent told kept session come =
    (newest_few pace first newest older sent come.0, come.1)
within pace first standings.Idle None false orders sent told kept session come = tt
within pace first (standings.Left unit) None false orders sent told kept session come = tt

pub within_limit : (start : Start) (past : List Happening) → Legal start past → ByPlan start past
    → IsWithinLimit start past
within_limit start past legal planned =
    within (pace_at start past) (stood_at start past) (standing_at start past) (waiting past) (has_ended past)
    (orders_of (records_of start past)) (sent_since_taken past) (told_in past) (kept_since past)
    (in_session start past planned) (on_plan start past legal planned)

-- exact counts

joined_long : (pace : Pace) (wanted : List (ℕ × ℕ)) (unit frames others before all : ℕ)
    (sent told older : List Exchange) (verdict : Verdict) (plan : Plan)
    → sent ≡ told ++ older → IsInTurn None plan → Took pace unit plan told verdict frames others
    → HasOthers wanted told older others → IsLong pace wanted before older → frames + before ≡ all
    → IsLong pace wanted all sent
joined_long pace wanted unit frames others before all sent told older verdict plan parts turn took more long sum =
    rw (parts, ← sum) (took_long pace unit plan wanted told older verdict frames others before took more turn long)

none_long : (pace : Pace) (wanted : List (ℕ × ℕ)) (sent : List Exchange) → sent ≡ [] → IsLong pace wanted 0 sent
none_long pace wanted sent none = rw none (omega arith, omega arith)

abbrev closed_frames : Standing → ℕ
closed_frames (standings.Left unit) = write_frames + read_frames
closed_frames other = 0

-- a closing session is the same by both plans
took_too : (pace : Pace) (unit frames : ℕ) (plan : Plan) (told : List Exchange) (verdict : Verdict)
    → Took Checked unit plan told verdict frames 0 → Took pace unit plan told verdict frames 0
took_too Checked unit frames plan told verdict took = took
took_too Short unit frames plan told verdict took =
    record {
      outcomes = took.outcomes;
      walk = took.walk;
      more = took.more;
      took = took.took;
      few = omega (arith, took.few);
    }

closed_long : (pace : Pace) (wanted : List (ℕ × ℕ)) (first : Standing) (sent : List Exchange) → ClosedBy first sent
    → IsLong pace wanted (closed_frames first) sent
closed_long pace wanted standings.Idle sent closed = none_long pace wanted sent closed
closed_long pace wanted (standings.Began order) sent closed = none_long pace wanted sent closed
closed_long pace wanted (standings.Opened order) sent closed = absurd closed
closed_long pace wanted (standings.Left unit) sent closed =
    joined_long pace wanted unit (write_frames + read_frames) 0 0 (write_frames + read_frames) sent sent []
    verdicts.Closed (close verdicts.Closed verdicts.NotClosed) (sym (append-nil sent))
    (close_turn None verdicts.Closed verdicts.NotClosed)
    (took_too pace unit _ _ sent verdicts.Closed (closed_took sent unit closed)) (none_other wanted sent [])
    (none_long pace wanted [] refl) (omega arith)

checked_long : (pace : Pace) (wanted : List (ℕ × ℕ)) (first : Standing) (order : Contents) (sent : List Exchange)
    → CheckedBy pace first order sent
    → IsLong pace wanted (look_frames pace order.updates + closed_frames first) sent
checked_long pace wanted first order sent (told, older, parts, wants, closed) =
    by (nat_lt (greatest order.updates) 0x13) refl
  where
    by : (low : Bool) → nat_lt (greatest order.updates) 0x13 ≡ low
        → IsLong pace wanted ((if low then read_frames else read_frames + format_frames pace) + closed_frames first)
        sent
    by true e =
        joined_long pace wanted order.unit read_frames 0 (closed_frames first) (read_frames + closed_frames first) sent
        told older verdicts.MayOpen (read_length pace order.updates) parts
        (length_turn pace order.updates)
        (low_took told order.unit pace order.updates (ltb-true (greatest order.updates) 0x13 e) wants)
        (none_other wanted told older) (closed_long pace wanted first older closed) refl
    by false e =
        joined_long pace wanted order.unit (read_frames + format_frames pace) 0 (closed_frames first)
        (read_frames + format_frames pace + closed_frames first) sent
        told older verdicts.MayOpen (read_length pace order.updates) parts
        (length_turn pace order.updates)
        (high_took told order.unit pace order.updates (ltb-false (greatest order.updates) 0x13 e) wants)
        (none_other wanted told older) (closed_long pace wanted first older closed) refl

-- a session that carries the order out
opened_long : (pace : Pace) (order : Contents) (sent told older : List Exchange) (before all : ℕ) → sent ≡ told ++ older
    → Wants order.unit (unlock pace order.updates) told (asks.Ended verdicts.Done)
    → IsLong pace (read_backs order.updates) before older → done_frames pace order.updates + before ≡ all
    → IsLong pace (read_backs order.updates) all sent
opened_long pace order sent told older before all parts wants long sum =
    let (others, among, took) = done_took_on told older order.unit pace order.updates wants in
    joined_long pace (read_backs order.updates) order.unit (done_frames pace order.updates) others before all sent told
    older verdicts.Done (unlock pace order.updates) parts (unlock_turn pace order.updates) took among long sum

done_long : (pace : Pace) (first : Standing) (order : Contents) (sent told older : List Exchange) → sent ≡ told ++ older
    → Wants order.unit (unlock pace order.updates) told (asks.Ended verdicts.Done)
    → OpenedBy pace first order older
    → IsLong pace (read_backs order.updates) (frames_from pace first order.updates) sent
done_long pace standings.Idle order sent told older parts wants opened =
    opened_long pace order sent told older (look_frames pace order.updates + 0) _ parts wants
    (checked_long pace (read_backs order.updates) standings.Idle order older opened) (omega arith)
done_long pace (standings.Began begun) order sent told older parts wants opened =
    opened_long pace order sent told older (look_frames pace order.updates + 0) _ parts wants
    (checked_long pace (read_backs order.updates) (standings.Began begun) order older opened) (omega arith)
done_long pace (standings.Left unit) order sent told older parts wants opened =
    opened_long pace order sent told older (look_frames pace order.updates + (write_frames + read_frames)) _ parts wants
    (checked_long pace (read_backs order.updates) (standings.Left unit) order older opened) (omega arith)
done_long pace (standings.Opened other) order sent told older parts wants opened =
    opened_long pace order sent told older 0 _ parts wants (none_long pace (read_backs order.updates) older opened.1)
    (omega arith)

-- what a session's end earns

fresh_earned : (pace : Pace) (first : Standing) (order : Contents) (code : Code) (sent told older : List Exchange)
    (verdict : Verdict)
    → sent ≡ told ++ older
    → EndsIn (standings.Began order) verdict (Ended code)
    → Wants order.unit (read_length pace order.updates) told (asks.Ended verdict) → IsEarned pace first order code sent
fresh_earned pace first order codes.Short sent told older verdict parts ends wants = tt
fresh_earned pace first order codes.Format sent told older verdict parts ends wants = tt
fresh_earned pace first order codes.Silent sent told older verdict parts ends wants =
    let is = ends.1 in
    let same : verdict ≡ verdicts.Silent = cc in
    unlooked_joined pace order.unit sent told older parts
    (fresh_late told order.unit pace order.updates (rw same at wants))
fresh_earned pace first order _ sent told older verdict parts ends wants = absurd ends.0

opened_earned : (pace : Pace) (first : Standing) (order : Contents) (code : Code) (sent told older : List Exchange)
    (verdict : Verdict)
    → sent ≡ told ++ older
    → EndsIn (standings.Opened order) verdict (Ended code)
    → Wants order.unit (unlock pace order.updates) told (asks.Ended verdict) → OpenedBy pace first order older
    → IsEarned pace first order code sent
opened_earned pace first order codes.Done sent told older verdict parts ends wants opened =
    let is = ends.1 in
    let same : verdict ≡ verdicts.Done = cc in
    done_long pace first order sent told older parts (rw same at wants) opened
opened_earned pace first order codes.Doubt sent told older verdict parts ends wants opened =
    let is = ends.1 in
    let same : verdict ≡ verdicts.Doubt = cc in
    by (doubt_cause told order.unit pace order.updates (rw same at wants))
  where
    by : FailedForGood order.unit (unlock pace order.updates) told
        ⊎ FoundAnother order.unit (unlock pace order.updates)
        (all_rows (rows_of (most_of pace) (read_backs order.updates))) told
        → FailsForGood pace order sent ⊎ FindsAnother pace order sent
    by (inl failed) = inl (told, older, parts, failed)
    by (inr found) = inr (told, older, parts, found)
opened_earned pace first order codes.DoubtOpen sent told older verdict parts ends wants opened =
    let is = ends.1 in
    let same : verdict ≡ verdicts.DoubtOpen = cc in
    unread_joined order.unit 0x02 sent told older parts
    (opened_late told order.unit pace order.updates (rw same at wants))
opened_earned pace first order _ sent told older verdict parts ends wants opened = absurd ends.0

ended_earned : (pace : Pace) (first : Standing) (order : Contents) (code : Code) (sent : List Exchange)
    → EndedBy pace first order code sent → IsEarned pace first order code sent
ended_earned pace first order code sent (verdict, told, older, parts, inl (ends, wants, closed)) =
    fresh_earned pace first order code sent told older verdict parts ends wants
ended_earned pace first order code sent (verdict, told, older, parts, inr (ends, wants, opened)) =
    opened_earned pace first order code sent told older verdict parts ends wants opened

-- if an order has just ended, none is at work
pub ended_idle : (start : Start) (past : List Happening) → Legal start past → has_ended past ≡ true
    → is_at_work (standing_at start past) ≡ false
ended_idle start [] legal e = cc
ended_idle start (Answered id replies.Taken ∷ Asked order moment ∷ past) legal e = cc
ended_idle start (Answered id reply ∷ Asked order moment ∷ past) legal e = ended_idle start past legal.0.0 e
ended_idle start (Answered id reply ∷ past) legal e = cc
ended_idle start (Kept (Ended code) ∷ past) legal e =
    idle_next (standing_at start past) code (may_keep start past (Ended code) legal.1).whole.0.1
ended_idle start (Kept (Began order moment) ∷ past) legal e = cc
ended_idle start (Kept (Opened unit) ∷ past) legal e =
    no_opened (standing_at start past) unit (ended_idle start past legal.0 e)
    (may_keep start past (Opened unit) legal.1).whole.0.1
ended_idle start (Kept (Closed unit) ∷ past) legal e = refl
ended_idle start (Stopped pace ∷ past) legal e = cc
ended_idle start (_ ∷ past) legal e = ended_idle start past legal.0 e

-- the newest order, that has ended so
abbrev SaidEnd : Pace → Standing → Standing → Option Contents → Bool → List (Contents × Progress) → List Exchange → ℕ
    → Code → Type 0
SaidEnd pace first now waiter ended orders sent id code =
    (order : Contents) × (order.id ≡ id) × (order_at now waiter ended orders ≡ Some order)
    × EndedBy pace first order code sent

said_newest : (pace : Pace) (first now : Standing) (orders : List (Contents × Progress)) (sent : List Exchange) (id : ℕ)
    (code : Code)
    → is_at_work now ≡ false
    → EndsAs id code orders → NewestEndedBy pace first orders sent
    → SaidEnd pace first now None true orders sent id code
said_newest pace first now [] sent id code idle ends ended = absurd ends
said_newest pace first now ((order, reached.Begun) ∷ older) sent id code idle ends ended = absurd ends
said_newest pace first now ((order, reached.Open) ∷ older) sent id code idle ends ended = absurd ends
said_newest pace first standings.Idle ((order, reached.Ended last) ∷ older) sent id code idle ends ended =
    (order, ends.0, refl, subst (λ (c : Code). EndedBy pace first order c sent) ends.1 ended)
said_newest pace first (standings.Left unit) ((order, reached.Ended last) ∷ older) sent id code idle ends ended =
    (order, ends.0, refl, subst (λ (c : Code). EndedBy pace first order c sent) ends.1 ended)
said_newest pace first (standings.Began other) ((order, reached.Ended last) ∷ older) sent id code idle ends ended = cc
said_newest pace first (standings.Opened other) ((order, reached.Ended last) ∷ older) sent id code idle ends ended = cc

said_by : (pace : Pace) (first now : Standing) (waiter : Option Contents) (ended : Bool)
    (orders : List (Contents × Progress)) (sent told : List Exchange) (kept id : ℕ) (code : Code)
    → is_at_work now ≡ false
    → waiter ≡ None → ended ≡ true → EndsAs id code orders → HasCome pace first now waiter ended orders sent told kept
    → SaidEnd pace first now waiter ended orders sent id code
said_by pace first now (Some order) ended orders sent told kept id code idle none true_is ends come = cc
said_by pace first now None false orders sent told kept id code idle none true_is ends come = cc
said_by pace first standings.Idle None true orders sent told kept id code idle none true_is ends come =
    said_newest pace first standings.Idle orders sent id code idle ends come.0
said_by pace first (standings.Left unit) None true orders sent told kept id code idle none true_is ends come =
    said_newest pace first (standings.Left unit) orders sent id code idle ends come.0
said_by pace first (standings.Began order) None true orders sent told kept id code idle none true_is ends come = cc
said_by pace first (standings.Opened order) None true orders sent told kept id code idle none true_is ends come = cc

-- the saying of an order's end
pub said_end : (start : Start) (past : List Happening) (id : ℕ) (code : Code) → Legal start past → ByPlan start past
    → MaySay start past id (replies.Kept code)
    → SaidEnd (pace_at start past) (stood_at start past) (standing_at start past) (waiting past) (has_ended past)
    (orders_of (records_of start past)) (sent_since_taken past) id code
said_end start past id code legal planned may =
    said_by (pace_at start past) (stood_at start past) (standing_at start past) (waiting past) (has_ended past)
    (orders_of (records_of start past)) (sent_since_taken past) (told_in past) (kept_since past) id code
    (ended_idle start past legal may.0) (none_waits_ended (outstanding_of past) may.0) may.0 may.1
    (on_plan start past legal planned)

-- the saying that an order is blocked
blocked_by : (pace : Pace) (first now : Standing) (waiter : Option Contents) (ended : Bool)
    (orders : List (Contents × Progress))
    (sent told : List Exchange) (kept id unit : ℕ)
    → now ≡ standings.Left unit
    → HasNumber id waiter → Asks pace now told (asks.Ended verdicts.NotClosed)
    → HasCome pace first now waiter ended orders sent told kept → EndsUnread unit 0x02 sent
blocked_by pace first (standings.Left left) (Some order) ended orders sent told kept id unit at number asked come =
    let same : left ≡ unit = cc in
    subst (λ (u : ℕ). EndsUnread u 0x02 sent) same
    (unread_joined left 0x02 sent told [] (come.1 ∙ sym (append-nil told)) (closing_late told left asked))
blocked_by pace first (standings.Left left) None ended orders sent told kept id unit at number asked come = absurd
    number
blocked_by pace first standings.Idle waiter ended orders sent told kept id unit at number asked come = absurd asked
blocked_by pace first (standings.Began order) waiter ended orders sent told kept id unit at number asked come = cc
blocked_by pace first (standings.Opened order) waiter ended orders sent told kept id unit at number asked come = cc

said_so : (start : Start) (past : List Happening) → Legal start past → ByPlan start past → IsSaidSo start past
said_so start [] legal planned = tt
said_so start (Answered id reply ∷ Asked order moment ∷ past) legal planned = tt
said_so start (Answered id (replies.Kept code) ∷ past) legal planned =
    let said = said_end start past id code legal.0 planned.0 legal.1 in (
      said.0,
      said.1,
      said.2,
      ended_earned (pace_at start past) (stood_at start past) said.0 code (sent_since_taken past)
          said.3,
    )
said_so start (Answered id (replies.Blocked unit) ∷ past) legal planned =
    blocked_by (pace_at start past) (stood_at start past) (standing_at start past) (waiting past) (has_ended past)
    (orders_of (records_of start past)) (sent_since_taken past) (told_in past) (kept_since past) id unit
    legal.1.0 legal.1.1 planned.1 (on_plan start past legal.0 planned.0)
said_so start (Answered id reply ∷ past) legal planned = absurd legal.1
said_so start (_ ∷ past) legal planned = tt

pub worked : (start : Start) (past : List Happening) → Legal start past → ByPlan start past → IsWorked start past
worked start [] legal planned = (within_limit start [] legal planned, tt)
worked start (next ∷ past) legal planned = (
  (within_limit start (next ∷ past) legal planned, said_so start (next ∷ past) legal planned),
  worked start past legal.0 planned.0,
)

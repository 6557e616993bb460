-- The progress of the orders of a legal trace by plan.
use Rattle.std.proofs.Common.{◌≡◌, inl, inr, refl, sym, ap, subst, ℕ, suc, ◌≤◌, Bool, true, false, List, [], ◌∷◌}
use Rattle.std.proofs.Common.{Option, Some, None, IsSome, arith}
use Rattle.dali_frame.specs.declared.forward.Frame.{Frame}
use Rattle.dali_frame.specs.declared.forward.Frame.TheVariants.{Dtr0, Dtr1, Dtr2, Write, WriteSilent, Enable, AskDtr0}
use Rattle.dali_frame.specs.declared.forward.Frame.TheVariants.{AskDtr1, AskDtr2, Read, Other}
use Rattle.dali_bank.specs.Order.{Contents}
use Rattle.dali_journal.specs.declared.record.Code.{Code}
use Rattle.dali_journal.specs.declared.record.Code.TheVariants as codes
use Rattle.dali_journal.specs.declared.record.Record.{Record}
use Rattle.dali_journal.specs.declared.record.Record.TheVariants.{Began, Opened, Ended, Closed}
use Rattle.dali_journal.specs.declared.standing.Standing.{Standing}
use Rattle.dali_journal.specs.declared.standing.Standing.TheVariants as standings
use Rattle.dali_journal.specs.declared.kept.Progress.{Progress}
use Rattle.dali_journal.specs.declared.kept.Progress.TheVariants as reached
use Rattle.dali_journal.specs.Sentence.{Allows, next_standing, standing_of}
use Rattle.dali_journal.specs.Orders.{orders_of, come_to}
use Rattle.dali_write.specs.Exchanges.{Exchange}
use Rattle.dali_write.specs.declared.ask.Ask.TheVariants as asks
use Rattle.dali_write.specs.declared.ask.Verdict.{Verdict}
use Rattle.dali_write.specs.declared.ask.Verdict.TheVariants as verdicts
use Rattle.dali_write.specs.Plans.{read_length, close}
use Rattle.dali_write.specs.Tries.{Wants}
use Rattle.dali_trace.specs.declared.happening.Reply.TheVariants as replies
use Rattle.dali_trace.specs.declared.happening.Happening.{Happening}
use Rattle.dali_trace.specs.declared.happening.Happening.TheVariants.{Asked, Answered, Sent, Kept, Stopped}
use Rattle.dali_trace.specs.Trace.{pace_at, Start, records_of, standing_at, sent_since_taken, waiting, has_ended, is_unsaid}
use Rattle.dali_trace.specs.Trace.{is_at_work}
use Rattle.dali_trace.specs.Legal.{Legal, MaySend}
use Rattle.dali_trace.specs.Grounds.{EndsIn}
use Rattle.dali_trace.specs.ByPlan.{told_in, Asks, IsPlanned, ByPlan}
use Rattle.dali_trace.specs.Work.{stood_at, kept_since}
use Rattle.dali_laws.proofs.Comings.{ClosedBy, CheckedBy, OpenedBy, EndedBy, NewestEndedBy, HasCome, IsOnPlan}
use Rattle.dali_laws.proofs.TakenLemmas.{neither, waits}
use Rattle.dali_laws.proofs.SafeLemmas.{may_keep, may_send}
use Rattle.dali_laws.proofs.StandingLemmas.{begun_order, open_order}
use Rattle.dali_write.specs.declared.pace.Pace.{Pace}

-- a start: an order is taken when none is at work, a trace begins or was stopped
begins_taken : (pace : Pace) (stands : Standing) (order : Contents) (ended : Bool) (orders : List (Contents × Progress))
    → is_at_work stands ≡ false → HasCome pace stands stands (Some order) ended orders [] [] 0
begins_taken pace standings.Idle order ended orders idle = (refl, refl, omega arith)
begins_taken pace (standings.Left unit) order ended orders idle = (refl, refl, omega arith)
begins_taken pace (standings.Began other) order ended orders idle = cc
begins_taken pace (standings.Opened other) order ended orders idle = cc

begins_anew : (pace : Pace) (stands : Standing) (orders : List (Contents × Progress))
    → HasCome pace stands stands None false orders [] [] 0
begins_anew pace standings.Idle orders = tt
begins_anew pace (standings.Left unit) orders = tt
begins_anew pace (standings.Began order) orders = ([], refl, refl, omega arith)
begins_anew pace (standings.Opened order) orders = ([], refl, (refl, refl), omega arith)

-- a saying
after_saying : (pace : Pace) (first now : Standing) (waits : Option Contents) (ended : Bool)
    (orders : List (Contents × Progress))
    (sent told : List Exchange) (kept : ℕ)
    → HasCome pace first now waits ended orders sent told kept → HasCome pace first now None false orders sent told kept
after_saying pace first standings.Idle waits ended orders sent told kept come = tt
after_saying pace first (standings.Left unit) waits ended orders sent told kept come = tt
after_saying pace first (standings.Began order) waits ended orders sent told kept come = come
after_saying pace first (standings.Opened order) waits ended orders sent told kept come = come

-- a frame may be sent to a left unit only while an order waits
pub waits_on : (past : List Happening) (unit : ℕ) (frame : Frame) → MaySend past (standings.Left unit) frame
    → IsSome (waiting past)
waits_on past unit (Dtr0 byte) may = may.1.1
waits_on past unit (Dtr1 byte) may = may.1.1
waits_on past unit (AskDtr0 to) may = may.1
waits_on past unit (AskDtr1 to) may = may.1
waits_on past unit (Read to) may = may.1
waits_on past unit (Enable to) may = may.0.1
waits_on past unit (Write byte) may = may.serves.1
waits_on past unit (Dtr2 byte) may = absurd may
waits_on past unit (WriteSilent byte) may = absurd may
waits_on past unit (AskDtr2 to) may = absurd may
waits_on past unit (Other word) may = absurd may

-- a frame
after_frame : (pace : Pace) (past : List Happening) (first now : Standing) (waiter : Option Contents) (ended : Bool)
    (orders : List (Contents × Progress)) (sent told : List Exchange) (kept : ℕ) (x : Exchange)
    → waiting past ≡ waiter → MaySend past now x.frame → Asks pace now told (asks.Send x.frame)
    → HasCome pace first now waiter ended orders sent told kept
    → HasCome pace first now waiter ended orders (x ∷ sent) (x ∷ told) kept
after_frame pace past first standings.Idle waiter ended orders sent told kept x at may asked come = absurd asked
after_frame pace past first (standings.Began order) waiter ended orders sent told kept x at may asked come =
    (come.0, ap (λ t. x ∷ t) come.1, come.2, come.3)
after_frame pace past first (standings.Opened order) waiter ended orders sent told kept x at may asked come =
    (come.0, ap (λ t. x ∷ t) come.1, come.2, come.3)
after_frame pace past first (standings.Left unit) (Some order) ended orders sent told kept x at may asked come =
    (come.0, ap (λ t. x ∷ t) come.1, come.2)
after_frame pace past first (standings.Left unit) None ended orders sent told kept x at may asked come =
    let some : IsSome (waiting past) = waits_on past unit x.frame may in
    let never : IsSome {T = Contents} None = rw at at some in cc

-- a record

opened_verdict : (order : Contents) (other : ℕ) (verdict : Verdict)
    → EndsIn (standings.Began order) verdict (Opened other) → verdict ≡ verdicts.MayOpen
opened_verdict order other verdict ends = let told = ends.1 in cc

-- a left unit is closed, and no order ends there
pub closed_verdict : (unit : ℕ) (verdict : Verdict) (entry : Record) → EndsIn (standings.Left unit) verdict entry
    → (verdict ≡ verdicts.Closed) × (entry ≡ Closed unit)
closed_verdict unit verdict (Closed closed) ends = let told = ends.1 in let is = ends.0 in (cc, cc)
closed_verdict unit verdict _ ends = absurd ends.0

newest_ended : (pace : Pace) (first : Standing) (order : Contents) (code : Code) (progress : Progress)
    (orders : List (Contents × Progress))
    (sent : List Exchange)
    → (older : List (Contents × Progress)) × (orders ≡ (order, progress) ∷ older) → EndedBy pace first order code sent
    → NewestEndedBy pace first (come_to (reached.Ended code) orders) sent
newest_ended pace first order code progress orders sent newest ended = rw newest.1 ended

-- when no order waits, and the newest one has ended
now_ended : (pace : Pace) (first now : Standing) (orders : List (Contents × Progress)) (sent told : List Exchange)
    (kept : ℕ)
    → is_at_work now ≡ false
    → NewestEndedBy pace first orders sent → kept ≤ 4 → HasCome pace first now None true orders sent told kept
now_ended pace first standings.Idle orders sent told kept idle newest few = (newest, few)
now_ended pace first (standings.Left unit) orders sent told kept idle newest few = (newest, few)
now_ended pace first (standings.Began order) orders sent told kept idle newest few = cc
now_ended pace first (standings.Opened order) orders sent told kept idle newest few = cc

pub idle_next : (stands : Standing) (code : Code) → Allows stands (Ended code)
    → is_at_work (next_standing stands (Ended code)) ≡ false
idle_next (standings.Began order) codes.Short allowed = refl
idle_next (standings.Began order) codes.Format allowed = refl
idle_next (standings.Began order) codes.Silent allowed = refl
idle_next (standings.Opened order) codes.Done allowed = refl
idle_next (standings.Opened order) codes.Doubt allowed = refl
idle_next (standings.Opened order) codes.DoubtOpen allowed = refl
idle_next _ _ allowed = absurd allowed

ended_newest : (pace : Pace) (first stands : Standing) (records : List Record) (code : Code) (waiter : Option Contents)
    (ended : Bool)
    (sent told : List Exchange) (kept : ℕ) (verdict : Verdict)
    → standing_of records ≡ stands → Asks pace stands told (asks.Ended verdict) → EndsIn stands verdict (Ended code)
    → HasCome pace first stands waiter ended (orders_of records) sent told kept
    → NewestEndedBy pace first (come_to (reached.Ended code) (orders_of records)) sent × (kept ≤ 3)
ended_newest pace first standings.Idle records code waiter ended sent told kept verdict at asked ends come = absurd
    asked
ended_newest pace first (standings.Left unit) records code waiter ended sent told kept verdict at asked ends come =
    let no = (closed_verdict unit verdict (Ended code) ends).1 in cc
ended_newest pace first (standings.Began order) records code waiter ended sent told kept verdict at asked ends come =
    let few = come.3 in (
      newest_ended pace first order code reached.Begun (orders_of records) sent (begun_order records order at)
          (verdict, told, come.0, come.1, inl (ends, asked, come.2)),
      omega arith,
    )
ended_newest pace first (standings.Opened order) records code waiter ended sent told kept verdict at asked ends come = (
  newest_ended pace first order code reached.Open (orders_of records) sent (open_order records order at)
      (verdict, told, come.0, come.1, inr (ends, asked, come.2)),
  come.3,
)

after_ended : (start : Start) (past : List Happening) (code : Code) → Allows (standing_at start past) (Ended code)
    → IsPlanned start past (Kept (Ended code)) → IsOnPlan start past → IsOnPlan start (Kept (Ended code) ∷ past)
after_ended start past code allowed planned come =
    let newest =
    ended_newest (pace_at start past) (stood_at start past) (standing_at start past) (records_of start past) code
    (waiting past)
    (has_ended past) (sent_since_taken past) (told_in past) (kept_since past) planned.0
    refl planned.1 planned.2 come in
    let few = newest.1 in
    now_ended (pace_at start past) (stood_at start past) (next_standing (standing_at start past) (Ended code))
    (come_to (reached.Ended code) (orders_of (records_of start past)))
    (sent_since_taken past) [] (suc (kept_since past)) (idle_next (standing_at start past) code allowed) newest.0
    (omega arith)

after_opened : (pace : Pace) (first stands : Standing) (unit : ℕ) (waiter : Option Contents) (ended : Bool)
    (orders others : List (Contents × Progress)) (sent told : List Exchange) (kept : ℕ) (verdict : Verdict)
    → Allows stands (Opened unit) → Asks pace stands told (asks.Ended verdict) → EndsIn stands verdict (Opened unit)
    → HasCome pace first stands waiter ended orders sent told kept
    → HasCome pace first (next_standing stands (Opened unit)) waiter ended others sent [] (suc kept)
after_opened pace first standings.Idle unit waiter ended orders others sent told kept verdict allowed asked ends come =
    absurd allowed
after_opened pace first (standings.Opened order) unit waiter ended orders others sent told kept verdict allowed asked
    ends come =
    absurd allowed
after_opened pace first (standings.Left left) unit waiter ended orders others sent told kept verdict allowed asked
    ends come =
    absurd allowed
after_opened pace first (standings.Began order) unit waiter ended orders others sent told kept verdict allowed asked
    ends come =
    let few = come.3 in
    let is = opened_verdict order unit verdict ends in
    let wants : Wants order.unit (read_length pace order.updates) told (asks.Ended verdicts.MayOpen) =
    subst (λ (v : Verdict). Wants order.unit (read_length pace order.updates) told (asks.Ended v)) is asked in
    (sent, refl, checked first come.2 (told, come.0, come.1, wants, come.2), omega arith)
  where
    checked : (first : Standing) → ClosedBy first come.0 → CheckedBy pace first order sent
        → OpenedBy pace first order sent
    checked standings.Idle closed by = by
    checked (standings.Began begun) closed by = by
    checked (standings.Left left) closed by = by
    checked (standings.Opened opened) closed by = absurd closed

after_closed : (pace : Pace) (first stands : Standing) (unit : ℕ) (waiter : Option Contents) (ended : Bool)
    (orders : List (Contents × Progress)) (sent told : List Exchange) (kept : ℕ) (verdict : Verdict)
    → Allows stands (Closed unit) → IsSome waiter → Asks pace stands told (asks.Ended verdict)
    → EndsIn stands verdict (Closed unit)
    → HasCome pace first stands waiter ended orders sent told kept
    → HasCome pace first standings.Idle waiter ended orders sent [] (suc kept)
after_closed pace first standings.Idle unit waiter ended orders sent told kept verdict allowed some asked ends come =
    absurd allowed
after_closed pace first (standings.Began order) unit waiter ended orders sent told kept verdict allowed some asked
    ends come =
    absurd allowed
after_closed pace first (standings.Opened order) unit waiter ended orders sent told kept verdict allowed some asked
    ends come =
    absurd allowed
after_closed pace first (standings.Left left) unit None ended orders sent told kept verdict allowed some asked
    ends come = cc
after_closed pace first (standings.Left left) unit (Some order) ended orders sent told kept verdict allowed some asked
    ends come =
    let few = come.2 in
    let wants : Wants left (close verdicts.Closed verdicts.NotClosed) told (asks.Ended verdicts.Closed) =
    subst (λ (v : Verdict). Wants left (close verdicts.Closed verdicts.NotClosed) told (asks.Ended v))
    (closed_verdict left verdict (Closed unit) ends).0 asked in
    let closed : ClosedBy (standings.Left left) sent =
    subst (λ (t : List Exchange). Wants left (close verdicts.Closed verdicts.NotClosed) t (asks.Ended verdicts.Closed))
    (sym come.1) wants in
    (refl, subst (λ (s : Standing). ClosedBy s sent) (sym come.0) closed, omega arith)

after_began : (pace : Pace) (first stands : Standing) (order : Contents) (moment : ℕ) (waiter next : Option Contents)
    (ended : Bool)
    (orders others : List (Contents × Progress)) (sent told : List Exchange) (kept : ℕ)
    → Allows stands (Began order moment) → waiter ≡ Some order
    → HasCome pace first stands waiter ended orders sent told kept
    → HasCome pace first (standings.Began order) next false others sent [] (suc kept)
after_began pace first (standings.Began other) order moment waiter next ended orders others sent told kept allowed waits
    come =
    absurd allowed
after_began pace first (standings.Opened other) order moment waiter next ended orders others sent told kept allowed
    waits come =
    absurd allowed
after_began pace first (standings.Left left) order moment waiter next ended orders others sent told kept allowed waits
    come =
    absurd allowed
after_began pace first standings.Idle order moment None next ended orders others sent told kept allowed waits come = cc
after_began pace first standings.Idle order moment (Some other) next ended orders others sent told kept allowed waits
    come =
    let few = come.2 in (sent, refl, come.1, omega arith)

pub on_plan : (start : Start) (past : List Happening) → Legal start past → ByPlan start past → IsOnPlan start past
on_plan start [] legal planned = begins_anew start.pace (standing_of start.records) (orders_of start.records)
on_plan start (Answered id replies.Taken ∷ Asked order moment ∷ past) legal planned =
    let rest = neither (is_at_work (standing_at start past)) (is_unsaid past) legal.1.1.1 in
    begins_taken (pace_at start past) (standing_at start past) order false (orders_of (records_of start past)) rest.0
on_plan start (Answered id (replies.Kept code) ∷ Asked order moment ∷ past) legal planned =
    on_plan start past legal.0.0 planned.0.0
on_plan start (Answered id replies.IdReused ∷ Asked order moment ∷ past) legal planned =
    on_plan start past legal.0.0 planned.0.0
on_plan start (Answered id replies.Busy ∷ Asked order moment ∷ past) legal planned =
    on_plan start past legal.0.0 planned.0.0
on_plan start (Answered id replies.Full ∷ Asked order moment ∷ past) legal planned =
    on_plan start past legal.0.0 planned.0.0
on_plan start (Answered id (replies.Blocked unit) ∷ Asked order moment ∷ past) legal planned = absurd legal.1.1
on_plan start (Answered id (replies.Kept code) ∷ past) legal planned =
    after_saying (pace_at start past) (stood_at start past) (standing_at start past) (waiting past) (has_ended past)
    (orders_of (records_of start past)) (sent_since_taken past) (told_in past) (kept_since past)
    (on_plan start past legal.0 planned.0)
on_plan start (Answered id (replies.Blocked unit) ∷ past) legal planned =
    after_saying (pace_at start past) (stood_at start past) (standing_at start past) (waiting past) (has_ended past)
    (orders_of (records_of start past)) (sent_since_taken past) (told_in past) (kept_since past)
    (on_plan start past legal.0 planned.0)
on_plan start (Answered id reply ∷ past) legal planned = absurd legal.1
on_plan start (Sent frame answer ∷ past) legal planned =
    after_frame (pace_at start past) past (stood_at start past) (standing_at start past) (waiting past) (has_ended past)
    (orders_of (records_of start past)) (sent_since_taken past) (told_in past) (kept_since past)
    (record { frame = frame; answer = answer }) refl (may_send start past frame answer legal.1) planned.1
    (on_plan start past legal.0 planned.0)
on_plan start (Kept (Began order moment) ∷ past) legal planned =
    let may = may_keep start past (Began order moment) legal.1 in
    after_began (pace_at start past) (stood_at start past) (standing_at start past) order moment (waiting past) None
    (has_ended past)
    (orders_of (records_of start past)) (orders_of (Began order moment ∷ records_of start past))
    (sent_since_taken past) (told_in past) (kept_since past) may.whole.0.1 may.due.0
    (on_plan start past legal.0 planned.0)
on_plan start (Kept (Opened unit) ∷ past) legal planned =
    let may = may_keep start past (Opened unit) legal.1 in
    let next = planned.1 in
    after_opened (pace_at start past) (stood_at start past) (standing_at start past) unit (waiting past)
    (has_ended past)
    (orders_of (records_of start past)) (orders_of (Opened unit ∷ records_of start past))
    (sent_since_taken past) (told_in past) (kept_since past) next.0 may.whole.0.1 next.1 next.2
    (on_plan start past legal.0 planned.0)
on_plan start (Kept (Ended code) ∷ past) legal planned =
    let may = may_keep start past (Ended code) legal.1 in
    after_ended start past code may.whole.0.1 planned.1 (on_plan start past legal.0 planned.0)
on_plan start (Kept (Closed unit) ∷ past) legal planned =
    let may = may_keep start past (Closed unit) legal.1 in
    let next = planned.1 in
    after_closed (pace_at start past) (stood_at start past) (standing_at start past) unit (waiting past)
    (has_ended past)
    (orders_of (records_of start past))
    (sent_since_taken past) (told_in past) (kept_since past) next.0 may.whole.0.1 may.due.0 next.1 next.2
    (on_plan start past legal.0 planned.0)
on_plan start (Stopped pace ∷ past) legal planned =
    begins_anew pace (standing_at start past) (orders_of (records_of start past))
on_plan start (_ ∷ past) legal planned = on_plan start past legal.0 planned.0

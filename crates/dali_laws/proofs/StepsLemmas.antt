-- Steps lead to what is said of an order.
use Rattle.std.proofs.Common.{◌≡◌, ◌⊎◌, inl, inr, refl, sym, ap, ◌∙◌, subst, ℕ, suc, ◌+◌, ◌≤◌, Bool, true, false, ◌||◌}
use Rattle.std.proofs.Common.{List, [], ◌∷◌, ◌++◌, length, Option, Some, None, IfSome, IsSome, arith}
use Rattle.std.proofs.lemmas.List.{append_assoc}
use Rattle.dali_bank.specs.Order.{Contents}
use Rattle.dali_journal.specs.declared.record.Code.{Code}
use Rattle.dali_journal.specs.declared.record.Record.{Record}
use Rattle.dali_journal.specs.declared.record.Record.TheVariants.{Began, Opened, Ended, Closed}
use Rattle.dali_journal.specs.declared.standing.Standing.{Standing}
use Rattle.dali_journal.specs.declared.standing.Standing.TheVariants as standings
use Rattle.dali_journal.specs.declared.kept.Progress.{Progress}
use Rattle.dali_journal.specs.declared.kept.Progress.TheVariants as reached
use Rattle.dali_journal.specs.Sentence.{Allows, next_standing, standing_of}
use Rattle.dali_journal.specs.Orders.{orders_of, come_to}
use Rattle.dali_trace.specs.declared.happening.Event.{Event}
use Rattle.dali_trace.specs.declared.happening.Event.TheVariants.{Submit, Step, Stop, Power}
use Rattle.dali_trace.specs.declared.happening.Reply.{Reply}
use Rattle.dali_trace.specs.declared.happening.Reply.TheVariants as replies
use Rattle.dali_trace.specs.declared.happening.Happening.{Happening}
use Rattle.dali_trace.specs.declared.happening.Happening.TheVariants.{Asked, Answered, Sent, Kept, Stopped, Powered}
use Rattle.dali_trace.specs.Trace.{pace_at, Start, records_of, standing_at, sent_since_taken, waiting, has_ended, is_unsaid}
use Rattle.dali_trace.specs.Trace.{is_at_work, is_busy, outstanding_of}
use Rattle.dali_trace.specs.Legal.{Legal, MaySay, HasNumber, IsFinished}
use Rattle.dali_trace.specs.ByPlan.{ByPlan}
use Rattle.dali_trace.specs.Parts.{IsWork, Part, AreParts}
use Rattle.dali_trace.specs.Work.{stood_at, kept_since, work_limit, order_at, order_at_hand, IsWithinLimit}
use Rattle.dali_trace.specs.Steps.{steps_in, NoneStops, IsSaid, PartsSince, IsSaidInTime, SaysInTime, IsCut}
use Rattle.dali_trace.specs.Steps.{HasStepsEnough}
use Rattle.dali_laws.proofs.AgreeLemmas.{may_happen}
use Rattle.dali_laws.proofs.TakenLemmas.{ended_unsaid, waits_unsaid}
use Rattle.dali_laws.proofs.SafeLemmas.{may_keep}
use Rattle.dali_laws.proofs.StandingLemmas.{begun_order, open_order}
use Rattle.dali_laws.proofs.OnPlanLemmas.{idle_next}
use Rattle.dali_laws.proofs.WorkLemmas.{within_limit, said_end}

-- while an order is at hand the trace is busy
at_hand_busy : (now : Standing) (waiter : Option Contents) (ended unsaid : Bool) (orders : List (Contents × Progress))
    (order : Contents)
    → order_at now waiter ended orders ≡ Some order
    → ((o : Contents) → waiter ≡ Some o → unsaid ≡ true) → (ended ≡ true → unsaid ≡ true)
    → (is_at_work now || unsaid) ≡ true
at_hand_busy (standings.Began other) waiter ended unsaid orders order hand one two = refl
at_hand_busy (standings.Opened other) waiter ended unsaid orders order hand one two = refl
at_hand_busy standings.Idle (Some other) ended unsaid orders order hand one two = one other refl
at_hand_busy (standings.Left unit) (Some other) ended unsaid orders order hand one two = one other refl
at_hand_busy standings.Idle None true unsaid orders order hand one two = two refl
at_hand_busy (standings.Left unit) None true unsaid orders order hand one two = two refl
at_hand_busy standings.Idle None false unsaid orders order hand one two = cc
at_hand_busy (standings.Left unit) None false unsaid orders order hand one two = cc

busy : (start : Start) (past : List Happening) (order : Contents) → Legal start past
    → order_at_hand start past ≡ Some order → is_busy start past ≡ true
busy start past order legal hand =
    at_hand_busy (standing_at start past) (waiting past) (has_ended past) (is_unsaid past)
    (orders_of (records_of start past)) order hand
    (λ o waits_is. waits_unsaid (outstanding_of past) o waits_is) (ended_unsaid (outstanding_of past))

-- a record leaves the order at hand
still_opened : (now : Standing) (unit : ℕ) (waiter : Option Contents) (ended : Bool)
    (orders others : List (Contents × Progress)) (order : Contents)
    → Allows now (Opened unit)
    → order_at now waiter ended orders ≡ Some order
    → order_at (next_standing now (Opened unit)) waiter ended others ≡ Some order
still_opened (standings.Began other) unit waiter ended orders others order allowed hand = hand
still_opened standings.Idle unit waiter ended orders others order allowed hand = absurd allowed
still_opened (standings.Opened other) unit waiter ended orders others order allowed hand = absurd allowed
still_opened (standings.Left left) unit waiter ended orders others order allowed hand = absurd allowed

still_closed : (now : Standing) (unit : ℕ) (waiter : Option Contents) (ended : Bool)
    (orders : List (Contents × Progress))
    (order : Contents)
    → Allows now (Closed unit) → IsSome waiter
    → order_at now waiter ended orders ≡ Some order → order_at standings.Idle waiter ended orders ≡ Some order
still_closed (standings.Left left) unit (Some other) ended orders order allowed some hand = hand
still_closed (standings.Left left) unit None ended orders order allowed some hand = cc
still_closed standings.Idle unit waiter ended orders order allowed some hand = absurd allowed
still_closed (standings.Began other) unit waiter ended orders order allowed some hand = absurd allowed
still_closed (standings.Opened other) unit waiter ended orders order allowed some hand = absurd allowed

still_began : (now : Standing) (begun : Contents) (moment : ℕ) (waiter : Option Contents) (ended : Bool)
    (orders : List (Contents × Progress)) (order : Contents)
    → Allows now (Began begun moment) → waiter ≡ Some begun
    → order_at now waiter ended orders ≡ Some order → Some begun ≡ Some order
still_began standings.Idle begun moment (Some other) ended orders order allowed is hand = sym is ∙ hand
still_began standings.Idle begun moment None ended orders order allowed is hand = cc
still_began (standings.Began other) begun moment waiter ended orders order allowed is hand = absurd allowed
still_began (standings.Opened other) begun moment waiter ended orders order allowed is hand = absurd allowed
still_began (standings.Left left) begun moment waiter ended orders order allowed is hand = absurd allowed

newest_is : (next : Standing) (order : Contents) (progress : Progress) (older : List (Contents × Progress))
    → is_at_work next ≡ false → order_at next None true ((order, progress) ∷ older) ≡ Some order
newest_is standings.Idle order progress older idle = refl
newest_is (standings.Left unit) order progress older idle = refl
newest_is (standings.Began other) order progress older idle = cc
newest_is (standings.Opened other) order progress older idle = cc

still_ended : (now : Standing) (records : List Record) (code : Code) (waiter : Option Contents) (ended : Bool)
    (order : Contents)
    → standing_of records ≡ now → Allows now (Ended code)
    → order_at now waiter ended (orders_of records) ≡ Some order
    → order_at (next_standing now (Ended code)) None true (come_to (reached.Ended code) (orders_of records))
    ≡ Some order
still_ended standings.Idle records code waiter ended order at allowed hand = absurd allowed
still_ended (standings.Left unit) records code waiter ended order at allowed hand = absurd allowed
still_ended (standings.Began begun) records code waiter ended order at allowed hand =
    let newest = begun_order records begun at in
    rw newest.1 (newest_is (next_standing (standings.Began begun) (Ended code)) begun (reached.Ended code) newest.0
    (idle_next (standings.Began begun) code allowed)
    ∙ hand)
still_ended (standings.Opened opened) records code waiter ended order at allowed hand =
    let newest = open_order records opened at in
    rw newest.1 (newest_is (next_standing (standings.Opened opened) (Ended code)) opened (reached.Ended code) newest.0
    (idle_next (standings.Opened opened) code allowed)
    ∙ hand)

still_kept : (start : Start) (past : List Happening) (entry : Record) (order : Contents)
    → Legal start (Kept entry ∷ past) → order_at_hand start past ≡ Some order
    → order_at_hand start (Kept entry ∷ past) ≡ Some order
still_kept start past (Began begun moment) order legal hand =
    let may = may_keep start past (Began begun moment) legal.1 in
    still_began (standing_at start past) begun moment (waiting past) (has_ended past)
    (orders_of (records_of start past)) order
    may.whole.0.1 may.due.0 hand
still_kept start past (Opened unit) order legal hand =
    let may = may_keep start past (Opened unit) legal.1 in
    still_opened (standing_at start past) unit (waiting past) (has_ended past) (orders_of (records_of start past))
    (orders_of (Opened unit ∷ records_of start past)) order may.whole.0.1 hand
still_kept start past (Closed unit) order legal hand =
    let may = may_keep start past (Closed unit) legal.1 in
    still_closed (standing_at start past) unit (waiting past) (has_ended past) (orders_of (records_of start past)) order
    may.whole.0.1 may.due.0 hand
still_kept start past (Ended code) order legal hand =
    let may = may_keep start past (Ended code) legal.1 in
    still_ended (standing_at start past) (records_of start past) code (waiting past) (has_ended past) order refl
    may.whole.0.1 hand

-- a saying is of the order at hand
same_number : (one other : Contents) (id : ℕ) (hand : Option Contents) → hand ≡ Some one → hand ≡ Some other
    → one.id ≡ id → id ≡ other.id
same_number one other id hand is also number =
    let both : Some one ≡ Some other = sym is ∙ also in
    let same : one ≡ other = cc in sym number ∙ ap (λ (o : Contents). o.id) same

blocked_number : (now : Standing) (waiter : Option Contents) (ended : Bool) (orders : List (Contents × Progress))
    (unit id : ℕ) (order : Contents)
    → now ≡ standings.Left unit
    → HasNumber id waiter → order_at now waiter ended orders ≡ Some order → id ≡ order.id
blocked_number (standings.Left left) (Some other) ended orders unit id order at number hand =
    let same : other ≡ order = cc in sym number ∙ ap (λ (o : Contents). o.id) same
blocked_number (standings.Left left) None ended orders unit id order at number hand = absurd number
blocked_number standings.Idle waiter ended orders unit id order at number hand = cc
blocked_number (standings.Began other) waiter ended orders unit id order at number hand = cc
blocked_number (standings.Opened other) waiter ended orders unit id order at number hand = cc

said_number : (start : Start) (past : List Happening) (id : ℕ) (reply : Reply) (order : Contents) → Legal start past
    → ByPlan start past → MaySay start past id reply
    → order_at_hand start past ≡ Some order → id ≡ order.id
said_number start past id (replies.Kept code) order legal planned may hand =
    let said = said_end start past id code legal planned may in
    same_number said.0 order id (order_at_hand start past) said.2 hand said.1
said_number start past id (replies.Blocked unit) order legal planned may hand =
    blocked_number (standing_at start past) (waiting past) (has_ended past) (orders_of (records_of start past)) unit id
    order may.0 may.1 hand
said_number start past id _ order legal planned may hand = absurd may

-- the order was said since the trace before, or it is at hand still, and each step sent a frame or kept a record
record IsAtHand (start : Start) (before after : List Happening) (order : Contents) (steps : ℕ) : Type 0 where
  more : List Happening
  parts : after ≡ more ++ before
  finished : IsFinished after
  hand : order_at_hand start after ≡ Some order
  start_is : stood_at start after ≡ stood_at start before
  work : steps ≤ length (sent_since_taken after) + kept_since after

abbrev SaidOrAtHand : Start → List Happening → List Happening → Contents → ℕ → Type 0
SaidOrAtHand start before after order steps = IsSaid start order before after ⊎ IsAtHand start before after order steps

-- what was said stays said
said_more : (start : Start) (order : Contents) (before after : List Happening) (next : Happening)
    → IsSaid start order before after → IsSaid start order before (next ∷ after)
said_more start order before after next said =
    record {
      later = next ∷ said.later;
      reply = said.reply;
      since = said.since;
      parts = ap (λ (t : List Happening). next ∷ t) said.parts;
      finished = said.finished;
      hand = said.hand;
      start_is = said.start_is;
    }

one_step : (start : Start) (before mid : List Happening) (order : Contents) (steps : ℕ) (work : Happening) → IsWork work
    → Legal start (work ∷ mid) → ByPlan start (work ∷ mid)
    → IsAtHand start before mid order steps → SaidOrAtHand start before (work ∷ mid) order (suc steps)
one_step start before mid order steps (Sent frame answer) is legal planned at =
    let some = at.work in
    inr (record {
      more = Sent frame answer ∷ at.more;
      parts = ap (λ (t : List Happening). Sent frame answer ∷ t) at.parts;
      finished = tt;
      hand = at.hand;
      start_is = at.start_is;
      work = omega arith;
    })
one_step start before mid order steps (Kept entry) is legal planned at =
    let some = at.work in
    inr (record {
      more = Kept entry ∷ at.more;
      parts = ap (λ (t : List Happening). Kept entry ∷ t) at.parts;
      finished = tt;
      hand = still_kept start mid entry order legal at.hand;
      start_is = at.start_is;
      work = omega arith;
    })
one_step start before mid order steps (Answered id reply) is legal planned at =
    let number =
    said_number start mid id reply order legal.0 planned.0
    (may_happen start mid (Answered id reply) at.finished legal.1) at.hand in
    inl (record {
      later = [];
      reply = reply;
      since = at.more;
      parts =
          ap (λ (t : List Happening). Answered id reply ∷ t) at.parts
          ∙ ap (λ (n : ℕ). Answered n reply ∷ (at.more ++ before)) number;
      finished = subst IsFinished at.parts at.finished;
      hand = subst (λ (t : List Happening). order_at_hand start t ≡ Some order) at.parts at.hand;
      start_is = subst (λ (t : List Happening). stood_at start t ≡ stood_at start before) at.parts at.start_is;
    })
one_step start before mid order steps _ is legal planned at = absurd is

not_idle : {A : Type 0} (b : Bool) → b ≡ true → b ≡ false → A
not_idle b one two = let both : true ≡ false = sym one ∙ two in cc

after_step : (start : Start) (before mid after : List Happening) (order : Contents) (steps : ℕ)
    → Part start Step mid after → Legal start after → ByPlan start after
    → (Legal start mid → ByPlan start mid → SaidOrAtHand start before mid order steps)
    → SaidOrAtHand start before after order (suc steps)
after_step start before mid after order steps (inl (work_due, (work, is, same))) legal planned rest =
    let legal_now : Legal start (work ∷ mid) = subst (Legal start) same legal in
    let planned_now : ByPlan start (work ∷ mid) = subst (ByPlan start) same planned in
    subst (λ (t : List Happening). SaidOrAtHand start before t order (suc steps)) (sym same)
    (by legal_now planned_now (rest legal_now.0 planned_now.0))
  where
    by : Legal start (work ∷ mid) → ByPlan start (work ∷ mid) → SaidOrAtHand start before mid order steps
        → SaidOrAtHand start before (work ∷ mid) order (suc steps)
    by legal planned (inl said) = inl (said_more start order before mid work said)
    by legal planned (inr at) = one_step start before mid order steps work is legal planned at
after_step start before mid after order steps (inr (none_due, same)) legal planned rest =
    let legal_now : Legal start mid = subst (Legal start) same legal in
    subst (λ (t : List Happening). SaidOrAtHand start before t order (suc steps)) (sym same)
    (by legal_now (rest legal_now (subst (ByPlan start) same planned)))
  where
    by : Legal start mid → SaidOrAtHand start before mid order steps → SaidOrAtHand start before mid order (suc steps)
    by legal (inl said) = inl said
    by legal (inr at) = not_idle (is_busy start mid) (busy start mid order legal at.hand) none_due

reply_on : (start : Start) (before mid : List Happening) (order asked : Contents) (moment steps : ℕ) (reply : Reply)
    → Legal start (Answered asked.id reply ∷ Asked asked moment ∷ mid)
    → IsAtHand start before mid order steps
    → IsAtHand start before (Answered asked.id reply ∷ Asked asked moment ∷ mid) order steps
reply_on start before mid order asked moment steps replies.Taken legal at =
    not_idle (is_busy start mid) (busy start mid order legal.0.0 at.hand) legal.1.1.1
reply_on start before mid order asked moment steps reply legal at = record {
  more = Answered asked.id reply ∷ Asked asked moment ∷ at.more;
  parts = ap (λ (t : List Happening). Answered asked.id reply ∷ Asked asked moment ∷ t) at.parts;
  finished = tt;
  hand = at.hand;
  start_is = at.start_is;
  work = at.work;
}

after_submit : (start : Start) (before mid after : List Happening) (order asked : Contents) (moment steps : ℕ)
    → Part start (Submit asked moment) mid after → Legal start after → ByPlan start after
    → (Legal start mid → ByPlan start mid → SaidOrAtHand start before mid order steps)
    → SaidOrAtHand start before after order steps
after_submit start before mid after order asked moment steps (reply, same) legal planned rest =
    let legal_now : Legal start (Answered asked.id reply ∷ Asked asked moment ∷ mid) = subst (Legal start) same legal in
    let planned_now : ByPlan start (Answered asked.id reply ∷ Asked asked moment ∷ mid) = subst (ByPlan start) same
    planned in
    subst (λ (t : List Happening). SaidOrAtHand start before t order steps) (sym same)
    (by legal_now (rest legal_now.0.0 planned_now.0.0))
  where
    by : Legal start (Answered asked.id reply ∷ Asked asked moment ∷ mid) → SaidOrAtHand start before mid order steps
        → SaidOrAtHand start before (Answered asked.id reply ∷ Asked asked moment ∷ mid) order steps
    by legal (inl said) =
        inl (said_more start order before (Asked asked moment ∷ mid) (Answered asked.id reply)
        (said_more start order before mid (Asked asked moment) said))
    by legal (inr at) = inr (reply_on start before mid order asked moment steps reply legal at)

-- a loss of power changes nothing of what is at hand
after_loss : (start : Start) (before mid : List Happening) (order : Contents) (steps address : ℕ)
    → SaidOrAtHand start before mid order steps → SaidOrAtHand start before (Powered address ∷ mid) order steps
after_loss start before mid order steps address (inl said) =
    inl (said_more start order before mid (Powered address) said)
after_loss start before mid order steps address (inr at) =
    inr (record {
      more = Powered address ∷ at.more;
      parts = ap (λ (t : List Happening). Powered address ∷ t) at.parts;
      finished = tt;
      hand = at.hand;
      start_is = at.start_is;
      work = at.work;
    })

said_or_at_hand : (start : Start) (before : List Happening) (order : Contents) (events : List Event)
    (after : List Happening)
    → IsFinished before → order_at_hand start before ≡ Some order
    → PartsSince start events before after → NoneStops events → Legal start after → ByPlan start after
    → SaidOrAtHand start before after order (steps_in events)
said_or_at_hand start before order [] after finished hand same none legal planned =
    inr (record {
      more = [];
      parts = same;
      finished = subst IsFinished (sym same) finished;
      hand = subst (λ (t : List Happening). order_at_hand start t ≡ Some order) (sym same) hand;
      start_is = ap (stood_at start) same;
      work = omega arith;
    })
said_or_at_hand start before order (Step ∷ events) after finished hand (mid, part, rest) none legal planned =
    after_step start before mid after order (steps_in events) part legal planned
    (λ legal planned. said_or_at_hand start before order events mid finished hand rest none legal planned)
said_or_at_hand start before order (Submit asked moment ∷ events) after finished hand (mid, part, rest) none legal
    planned =
    after_submit start before mid after order asked moment (steps_in events) part legal planned
    (λ legal planned. said_or_at_hand start before order events mid finished hand rest none legal planned)
said_or_at_hand start before order (Stop bytes ∷ events) after finished hand parts none legal planned = absurd none
said_or_at_hand start before order (Power address ∷ events) after finished hand (mid, same, rest) none legal planned =
    let legal_now : Legal start (Powered address ∷ mid) = subst (Legal start) same legal in
    let planned_now : ByPlan start (Powered address ∷ mid) = subst (ByPlan start) same planned in
    subst (λ (t : List Happening). SaidOrAtHand start before t order (steps_in events)) (sym same)
    (after_loss start before mid order (steps_in events) address
    (said_or_at_hand start before order events mid finished hand rest none legal_now.0 planned_now.0))

within_at : (start : Start) (past : List Happening) (order : Contents) → IsWithinLimit start past
    → order_at_hand start past ≡ Some order
    → (length (sent_since_taken past) ≤ work_limit (length order.updates)) × (kept_since past ≤ 4)
within_at start past order within hand = by (order_at_hand start past) hand within
  where
    by : (found : Option Contents) → found ≡ Some order
        → IfSome found (λ o. (length (sent_since_taken past) ≤ work_limit (length o.updates)) × (kept_since past ≤ 4))
        → (length (sent_since_taken past) ≤ work_limit (length order.updates)) × (kept_since past ≤ 4)
    by None is within = cc
    by (Some o) is within =
        let same : o ≡ order = cc in
        subst
        (λ (x : Contents). (length (sent_since_taken past) ≤ work_limit (length x.updates)) × (kept_since past ≤ 4))
        same within

pub said_in_time : (start : Start) (before after : List Happening) → Legal start after → ByPlan start after
    → IsFinished before → IsSaidInTime start before after
said_in_time start before after legal planned finished = λ events order parts enough.
    by events order enough.2 (said_or_at_hand start before order events after finished enough.0 parts enough.1 legal
    planned)
  where
    by : (events : List Event) (order : Contents) → work_limit (length order.updates) + 5 ≤ steps_in events
        → SaidOrAtHand start before after order (steps_in events)
        → IsSaid start order before after
    by events order many (inl said) = said
    by events order many (inr at) =
        let within = within_at start after order (within_limit start after legal planned) at.hand in
        let some = at.work in
        let one = within.0 in
        let two = within.1 in
        absurd (omega arith)

-- parts of older events, and of newer ones

split_parts : (start : Start) (newer older : List Event) (trace : List Happening)
    → AreParts start (newer ++ older) trace
    → (before : List Happening) × AreParts start older before × PartsSince start newer before trace
split_parts start [] older trace parts = (trace, parts, refl)
split_parts start (event ∷ newer) older trace (mid, part, rest) =
    let split = split_parts start newer older mid rest in (split.0, split.1, (mid, part, split.2))

cut_parts : (start : Start) (newer middle older : List Event) (trace : List Happening)
    → AreParts start (newer ++ (middle ++ older)) trace → IsCut start newer middle older trace
cut_parts start newer middle older trace parts =
    let behind = split_parts start newer (middle ++ older) trace parts in
    let before = split_parts start middle older behind.0 behind.1 in
    record {
      before = before.0;
      behind = behind.0;
      older_parts = before.1;
      middle_parts = before.2;
      newer_parts = behind.2;
    }

-- the happenings that newer events added are in front of the trace before them
part_adds : (start : Start) (event : Event) (before after : List Happening) → Part start event before after
    → (more : List Happening) × (after ≡ more ++ before)
part_adds start (Submit order moment) before after (reply, same) =
    (Answered order.id reply ∷ Asked order moment ∷ [], same)
part_adds start Step before after (inl (due, (work, is, same))) = (work ∷ [], same)
part_adds start Step before after (inr (due, same)) = ([], same)
part_adds start (Stop bytes) before after (inl (same, none)) = (Stopped (pace_at start before) ∷ [], same)
part_adds start (Stop bytes) before after (inr (entry, next, few, same)) =
    (Stopped (pace_at start before) ∷ Kept entry ∷ [], same)
part_adds start (Power address) before after same = (Powered address ∷ [], same)

pub parts_add : (start : Start) (events : List Event) (before after : List Happening)
    → PartsSince start events before after → (more : List Happening) × (after ≡ more ++ before)
parts_add start [] before after same = ([], same)
parts_add start (event ∷ events) before after (mid, part, rest) =
    let newest = part_adds start event mid after part in
    let older = parts_add start events before mid rest in (
      newest.0 ++ older.0,
      newest.1 ∙ ap (λ (t : List Happening). newest.0 ++ t) older.1 ∙ sym (append_assoc newest.0 older.0 before),
    )

part_finished : (start : Start) (event : Event) (before after : List Happening) → Part start event before after
    → IsFinished before → IsFinished after
part_finished start (Submit order moment) before after (reply, same) finished = subst IsFinished (sym same) tt
part_finished start Step before after (inl (due, (work, is, same))) finished = subst IsFinished (sym same) (by work is)
  where
    by : (work : Happening) → IsWork work → IsFinished (work ∷ before)
    by (Asked other moment) is = absurd is
    by _ is = tt
part_finished start Step before after (inr (due, same)) finished = subst IsFinished (sym same) finished
part_finished start (Stop bytes) before after (inl (same, none)) finished = subst IsFinished (sym same) tt
part_finished start (Stop bytes) before after (inr (entry, next, few, same)) finished = subst IsFinished (sym same) tt
part_finished start _ before after same finished = subst IsFinished (sym same) tt

parts_finished : (start : Start) (events : List Event) (trace : List Happening) → AreParts start events trace
    → IsFinished trace
parts_finished start [] trace same = subst IsFinished (sym same) tt
parts_finished start (event ∷ events) trace (before, part, rest) =
    part_finished start event before trace part (parts_finished start events before rest)

pub cut_of : (start : Start) (events newer middle older : List Event) (trace : List Happening)
    → AreParts start events trace → events ≡ newer ++ (middle ++ older) → IsCut start newer middle older trace
cut_of start events newer middle older trace parts same =
    cut_parts start newer middle older trace (subst (λ (es : List Event). AreParts start es trace) same parts)

-- the trace after the middle ones is legal and by plan, as the whole is
pub older_rules : (start : Start) (more past : List Happening) → Legal start (more ++ past)
    → ByPlan start (more ++ past)
    → Legal start past × ByPlan start past
older_rules start [] past legal planned = (legal, planned)
older_rules start (next ∷ more) past legal planned = older_rules start more past legal.0 planned.0

pub says_in_cut : (start : Start) (newer middle older : List Event) (trace : List Happening) → Legal start trace
    → ByPlan start trace → (cut : IsCut start newer middle older trace)
    → (order : Contents) → HasStepsEnough start cut.before middle order
    → IsSaid start order cut.before cut.behind
says_in_cut start newer middle older trace legal planned cut order enough =
    let added = parts_add start newer cut.behind trace cut.newer_parts in
    let rules =
    older_rules start added.0 cut.behind (subst (Legal start) added.1 legal) (subst (ByPlan start) added.1 planned) in
    said_in_time start cut.before cut.behind rules.0 rules.1 (parts_finished start older cut.before cut.older_parts)
    middle order cut.middle_parts enough

pub says_in_time : (start : Start) (events newer middle older : List Event) (trace : List Happening)
    → Legal start trace → ByPlan start trace → AreParts start events trace → events ≡ newer ++ (middle ++ older)
    → SaysInTime start newer middle older trace
says_in_time start events newer middle older trace legal planned parts same =
    let cut = cut_of start events newer middle older trace parts same in
    (cut, says_in_cut start newer middle older trace legal planned cut)

-- The worked traces near the edges of the plans: which keep to them, and which are legal and don't.
use Rattle.std.proofs.Common.{◌≡◌, refl, sym, ap, subst, ℕ, List, [], ◌∷◌, ◌++◌, arith}
use Rattle.std.specs.Prelude.{⊤}
use Rattle.dali_frame.specs.declared.forward.Frame.TheVariants.{Dtr0, Dtr1, Enable, AskDtr1}
use Rattle.dali_journal.specs.declared.record.Code.TheVariants as codes
use Rattle.dali_journal.specs.declared.record.Record.TheVariants.{Ended}
use Rattle.dali_journal.specs.declared.standing.Standing.TheVariants as standings
use Rattle.dali_write.specs.Exchanges.{Exchange}
use Rattle.dali_write.specs.declared.ask.Ask.{Ask}
use Rattle.dali_write.specs.declared.ask.Ask.TheVariants as asks
use Rattle.dali_write.specs.declared.ask.Verdict.{Verdict}
use Rattle.dali_write.specs.declared.ask.Verdict.TheVariants as verdicts
use Rattle.dali_write.specs.Plans.{Plan, read_length, unlock, close}
use Rattle.dali_write.specs.Tries.{Wants}
use Rattle.dali_write.proofs.NextLemmas.{first_wanted, next_wanted}
use Rattle.dali_write.proofs.DeterminedLemmas.{plan_state_after, ask_from, ask_is}
use Rattle.dali_trace.specs.declared.happening.Happening.{Happening}
use Rattle.dali_trace.specs.declared.happening.Happening.TheVariants.{Sent}
use Rattle.dali_trace.specs.Trace.{pace_at, Start, records_of, standing_at}
use Rattle.dali_trace.specs.Legal.{Legal}
use Rattle.dali_trace.specs.Grounds.{EndsIn}
use Rattle.dali_trace.specs.ByPlan.{told_in, Asks, ByPlan}
use Rattle.dali_trace.specs.Worked.{read_at, read_try, eight_times, empty, left_open, first_order, begun, opened}
use Rattle.dali_trace.specs.Worked.{measured, short_ended, silent_ended, second_taken, unreached, blocked}
use Rattle.dali_trace.specs.WorkedPlans.{first_frame, another_first_frame, next_try, frame_past_a_miss, half_tried}
use Rattle.dali_trace.specs.WorkedPlans.{next_frame, try_without_a_miss, begun_anew, try_through_a_stop, enabled_first}
use Rattle.dali_trace.specs.WorkedPlans.{read_once_opened, seven_times, silent_after_eight, silent_after_seven}
use Rattle.dali_trace.specs.WorkedPlans.{silent_where_short, left_at_once, blocked_at_once, try_past_the_end}
use Rattle.dali_trace.specs.WorkedPlans.{closed_anew}
use Rattle.dali_trace.proofs.WorkedLemmas.{read_legal, begun_legal, opened_legal}
use Rattle.dali_trace.proofs.WorkedLeftLemmas.{second_taken_legal, blocked_legal}
use Rattle.dali_write.specs.declared.pace.Pace.TheVariants.{Checked}

-- each of the frames is the one that was wanted after those before it
abbrev pub Keeps : ℕ → Plan → List Exchange → Type 0
Keeps unit plan [] = ⊤
Keeps unit plan (x ∷ told) = Keeps unit plan told × (ask_from (plan_state_after unit plan told) ≡ asks.Send x.frame)

-- what was wanted before each of them, and what was sent, the newest first
abbrev pub all_wanted : ℕ → Plan → List Exchange → List Ask
all_wanted unit plan [] = []
all_wanted unit plan (x ∷ told) = ask_from (plan_state_after unit plan told) ∷ all_wanted unit plan told

abbrev pub all_sent : List Exchange → List Ask
all_sent [] = []
all_sent (x ∷ told) = asks.Send x.frame ∷ all_sent told

pub keeps_all : (unit : ℕ) (plan : Plan) (told : List Exchange) → all_wanted unit plan told ≡ all_sent told
    → Keeps unit plan told
keeps_all unit plan [] same = tt
keeps_all unit plan (x ∷ told) same =
    let both : ask_from (plan_state_after unit plan told) ∷ all_wanted unit plan told
    ≡ asks.Send x.frame ∷ all_sent told = same in
    let older : all_wanted unit plan told ≡ all_sent told = cc in
    let newest : ask_from (plan_state_after unit plan told) ≡ asks.Send x.frame = cc in
    (keeps_all unit plan told older, newest)

keeps_wants : (unit : ℕ) (plan : Plan) (told : List Exchange) → Keeps unit plan told
    → Wants unit plan told (ask_from (plan_state_after unit plan told))
keeps_wants unit plan [] keeps =
    let first = first_wanted unit plan in
    subst (λ (a : Ask). Wants unit plan [] a) (sym (ask_is unit plan [] first.0 first.1)) first.1
keeps_wants unit plan (x ∷ told) keeps =
    let before = subst (λ (a : Ask). Wants unit plan told a) keeps.1 (keeps_wants unit plan told keeps.0) in
    let next = next_wanted unit plan told x.frame x.answer before in
    subst (λ (a : Ask). Wants unit plan (x ∷ told) a) (sym (ask_is unit plan (x ∷ told) next.0 next.1)) next.1

pub wants_so : (unit : ℕ) (plan : Plan) (told : List Exchange) (ask : Ask) → Keeps unit plan told
    → ask_from (plan_state_after unit plan told) ≡ ask → Wants unit plan told ask
wants_so unit plan told ask keeps is = subst (λ (a : Ask). Wants unit plan told a) is (keeps_wants unit plan told keeps)

-- frames more, the newest first
abbrev pub sent : List Exchange → List Happening → List Happening
sent [] past = past
sent (x ∷ told) past = Sent x.frame x.answer ∷ sent told past

records_sent : (start : Start) (told : List Exchange) (past : List Happening)
    → records_of start (sent told past) ≡ records_of start past
records_sent start [] past = refl
records_sent start (x ∷ told) past = records_sent start told past

told_sent : (told : List Exchange) (past : List Happening) → told_in past ≡ [] → told_in (sent told past) ≡ told
told_sent [] past none = none
told_sent (x ∷ told) past none = ap (λ (t : List Exchange). x ∷ t) (told_sent told past none)

pace_sent : (start : Start) (told : List Exchange) (past : List Happening)
    → pace_at start (sent told past) ≡ pace_at start past
pace_sent start [] past = refl
pace_sent start (x ∷ told) past = pace_sent start told past

-- where a session of the plan is about to begin
pub record Onset (start : Start) (past : List Happening) (unit : ℕ) (plan : Plan) : Type 0 where
  pub planned : ByPlan start past
  pub untold : told_in past ≡ []
  pub asks : (told : List Exchange) (ask : Ask) → Wants unit plan told ask
      → Asks (pace_at start past) (standing_at start past) told ask

pub frames_planned : (start : Start) (past : List Happening) (unit : ℕ) (plan : Plan) → Onset start past unit plan
    → (told : List Exchange) → Keeps unit plan told → ByPlan start (sent told past)
frames_planned start past unit plan onset [] keeps = onset.planned
frames_planned start past unit plan onset (x ∷ told) keeps = (
  frames_planned start past unit plan onset told keeps.0,
  rw (pace_sent start told past, records_sent start told past, told_sent told past onset.untold)
      (onset.asks told (asks.Send x.frame) (wants_so unit plan told (asks.Send x.frame) keeps.0 keeps.1)),
)

-- and where one has sent frames already
told_on : (told before : List Exchange) (past : List Happening) → told_in past ≡ before
    → told_in (sent told past) ≡ told ++ before
told_on [] before past are = are
told_on (x ∷ told) before past are = ap (λ (t : List Exchange). x ∷ t) (told_on told before past are)

pub frames_go_on : (start : Start) (past : List Happening) (unit : ℕ) (plan : Plan) (before : List Exchange)
    → ByPlan start past → told_in past ≡ before
    → ((told : List Exchange) (ask : Ask) → Wants unit plan told ask
    → Asks (pace_at start past) (standing_at start past) told ask)
    → (told : List Exchange) → Keeps unit plan (told ++ before) → ByPlan start (sent told past)
frames_go_on start past unit plan before planned are asks_so [] keeps = planned
frames_go_on start past unit plan before planned are asks_so (x ∷ told) keeps = (
  frames_go_on start past unit plan before planned are asks_so told keeps.0,
  rw (pace_sent start told past, records_sent start told past, told_on told before past are)
      (asks_so (told ++ before) (asks.Send x.frame) (wants_so unit plan (told ++ before) (asks.Send x.frame) keeps.0
      keeps.1)),
)

-- the first order, once it is begun
looks : Onset empty begun 5 (read_length Checked first_order.updates)
looks = record { planned = (((tt, tt), tt), tt); untold = refl; asks = λ told ask wants. wants }

looks_on : (told : List Exchange) → Keeps 5 (read_length Checked first_order.updates) told
    → ByPlan empty (sent told begun)
looks_on told keeps = frames_planned empty begun 5 (read_length Checked first_order.updates) looks told keeps

pub first_planned : ByPlan empty first_frame
first_planned = looks_on (told_in first_frame) (tt, refl)

pub not_another_first : ByPlan empty another_first_frame → ⊥
not_another_first planned =
    let e = ask_is 5 (read_length Checked first_order.updates) (told_in begun) (asks.Send (Dtr0 0)) planned.1 in cc

pub another_first_legal : Legal empty another_first_frame
another_first_legal = (begun_legal, (5, refl))

pub next_try_planned : ByPlan empty next_try
next_try_planned = looks_on (told_in next_try) (((tt, refl), refl), refl)

pub not_past_a_miss : ByPlan empty frame_past_a_miss → ⊥
not_past_a_miss planned =
    let e = ask_is 5 (read_length Checked first_order.updates) (told_in (read_try begun)) (asks.Send (Dtr0 0)) planned.1
    in cc

read_try_legal : Legal empty (read_try begun)
read_try_legal = ((begun_legal, (5, refl)), refl)

pub past_a_miss_legal : Legal empty frame_past_a_miss
past_a_miss_legal = (read_try_legal, (5, refl))

pub next_frame_planned : ByPlan empty next_frame
next_frame_planned = looks_on (told_in next_frame) (((tt, refl), refl), refl)

pub not_without_a_miss : ByPlan empty try_without_a_miss → ⊥
not_without_a_miss planned =
    let e = ask_is 5 (read_length Checked first_order.updates) (told_in half_tried) (asks.Send (Dtr1 1)) planned.1 in cc

pub without_a_miss_legal : Legal empty try_without_a_miss
without_a_miss_legal = (((begun_legal, (5, refl)), refl), (5, refl))

-- after a stop
pub begun_anew_planned : ByPlan empty begun_anew
begun_anew_planned =
    ((first_planned, tt), wants_so 5 (read_length Checked first_order.updates) [] (asks.Send (Dtr1 1)) tt refl)

pub not_through_a_stop : ByPlan empty try_through_a_stop → ⊥
not_through_a_stop planned =
    let e = ask_is 5 (read_length Checked first_order.updates) [] (asks.Send (AskDtr1 5)) planned.1 in cc

pub through_a_stop_legal : Legal empty try_through_a_stop
through_a_stop_legal = (((begun_legal, (5, refl)), tt), refl)

-- once the unit is opened
opened_planned : ByPlan empty opened
opened_planned =
    let keeps : Keeps 5 (read_length Checked first_order.updates) (told_in measured) =
    (((((((tt, refl), refl), refl), refl), refl), refl), refl) in (
      looks_on (told_in measured) keeps,
      (
        verdicts.MayOpen,
        wants_so 5 (read_length Checked first_order.updates) (told_in measured) (asks.Ended verdicts.MayOpen) keeps
            refl,
        (refl, refl),
      ),
    )

pub enabled_first_planned : ByPlan empty enabled_first
enabled_first_planned =
    (opened_planned, wants_so 5 (unlock Checked first_order.updates) [] (asks.Send (Enable 5)) tt refl)

pub not_read_once_opened : ByPlan empty read_once_opened → ⊥
not_read_once_opened planned = let e = ask_is 5 (unlock Checked first_order.updates) [] (asks.Send (Dtr1 1)) planned.1
    in cc

pub read_once_opened_legal : Legal empty read_once_opened
read_once_opened_legal = (opened_legal, (5, refl))

-- how an order ends that was begun
pub short_planned : ByPlan empty short_ended
short_planned =
    let told = told_in (read_at 5 0x00 0x07 begun) in
    let keeps : Keeps 5 (read_length Checked first_order.updates) told =
    (((((((tt, refl), refl), refl), refl), refl), refl), refl) in (
      looks_on told keeps,
      (
        verdicts.Short,
        wants_so 5 (read_length Checked first_order.updates) told (asks.Ended verdicts.Short) keeps refl,
        (tt, refl),
      ),
    )

pub not_silent_where_short : ByPlan empty silent_where_short → ⊥
not_silent_where_short planned =
    by planned.1.0 planned.1.2 (ask_is 5 (read_length Checked first_order.updates) (told_in (read_at 5 0x00 0x07 begun))
    (asks.Ended planned.1.0) planned.1.1)
  where
    by : (verdict : Verdict) → EndsIn (standings.Began first_order) verdict (Ended codes.Silent)
        → asks.Ended verdicts.Short ≡ asks.Ended verdict → ⊥
    by verdict ends is = let told = ends.1 in let same : verdicts.Short ≡ verdict = cc in cc

pub silent_where_short_legal : Legal empty silent_where_short
silent_where_short_legal = (
  read_legal empty begun 5 0x00 0x07 begun_legal (5, refl) refl,
  record { whole = (((tt, tt, refl), tt, tt), omega arith); due = tt; grounds = tt },
)

pub silent_after_eight_planned : ByPlan empty silent_after_eight
silent_after_eight_planned =
    let told = told_in (eight_times read_try begun) in
    let keeps = keeps_all 5 (read_length Checked first_order.updates) told refl in (
      looks_on told keeps,
      (
        verdicts.Silent,
        wants_so 5 (read_length Checked first_order.updates) told (asks.Ended verdicts.Silent) keeps refl,
        (tt, refl),
      ),
    )

pub not_silent_after_seven : ByPlan empty silent_after_seven → ⊥
not_silent_after_seven planned =
    let e =
    ask_is 5 (read_length Checked first_order.updates) (told_in (seven_times read_try begun)) (asks.Ended planned.1.0)
    planned.1.1 in
    cc

pub not_silent_at_once : ByPlan empty silent_ended → ⊥
not_silent_at_once planned =
    let e = ask_is 5 (read_length Checked first_order.updates) (told_in begun) (asks.Ended planned.1.0) planned.1.1 in
    cc

pub silent_after_seven_legal : Legal empty silent_after_seven
silent_after_seven_legal =
    let two : Legal empty (read_try (read_try begun)) = ((((begun_legal, (5, refl)), refl), (5, refl)), refl) in
    let four : Legal empty (read_try (read_try (read_try (read_try begun))))
    = ((((two, (5, refl)), refl), (5, refl)), refl) in
    let six : Legal empty (read_try (read_try (read_try (read_try (read_try (read_try begun))))))
    = ((((four, (5, refl)), refl), (5, refl)), refl) in
    (((six, (5, refl)), refl), record { whole = (((tt, tt, refl), tt, tt), omega arith); due = tt; grounds = tt })

-- how one ends that was opened
pub not_left_at_once : ByPlan empty left_at_once → ⊥
not_left_at_once planned = let e = ask_is 5 (unlock Checked first_order.updates) [] (asks.Ended planned.1.0) planned.1.1
    in cc

pub left_at_once_legal : Legal empty left_at_once
left_at_once_legal =
    (opened_legal, record { whole = ((((tt, tt, refl), refl, tt), tt, tt), omega arith); due = tt; grounds = tt })

-- an order that a left unit blocks
closes : Onset left_open second_taken 5 (close verdicts.Closed verdicts.NotClosed)
closes = record { planned = ((tt, tt), tt); untold = refl; asks = λ told ask wants. wants }

pub blocked_planned : ByPlan left_open blocked
blocked_planned =
    let told = told_in unreached in
    let keeps = keeps_all 5 (close verdicts.Closed verdicts.NotClosed) told refl in (
      frames_planned left_open second_taken 5 (close verdicts.Closed verdicts.NotClosed) closes told keeps,
      wants_so 5 (close verdicts.Closed verdicts.NotClosed) told (asks.Ended verdicts.NotClosed) keeps refl,
    )

pub not_blocked_at_once : ByPlan left_open blocked_at_once → ⊥
not_blocked_at_once planned =
    let e = ask_is 5 (close verdicts.Closed verdicts.NotClosed) [] (asks.Ended verdicts.NotClosed) planned.1 in cc

pub blocked_at_once_legal : Legal left_open blocked_at_once
blocked_at_once_legal = (second_taken_legal, (refl, refl, λ read. read))

pub closed_anew_planned : ByPlan left_open closed_anew
closed_anew_planned = (
  ((blocked_planned, tt), tt),
  wants_so 5 (close verdicts.Closed verdicts.NotClosed) [] (asks.Send (Enable 5)) tt refl,
)

pub not_past_the_end : ByPlan left_open try_past_the_end → ⊥
not_past_the_end planned =
    let e = ask_is 5 (close verdicts.Closed verdicts.NotClosed) (told_in unreached) (asks.Send (Enable 5)) planned.1 in
    cc

pub past_the_end_legal : Legal left_open try_past_the_end
past_the_end_legal = (blocked_legal.0, ((refl, refl), refl))

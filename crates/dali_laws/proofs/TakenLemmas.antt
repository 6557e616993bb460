-- The orders of the records are the taken ones.
use Rattle.std.proofs.Common.{◌≡◌, refl, ap, ◌∙◌, Bool, true, false, ◌||◌, ℕ, List, [], ◌∷◌, ◌++◌, map, Option, Some}
use Rattle.std.proofs.Common.{None}
use Rattle.std.proofs.lemmas.List.{append-nil}
use Rattle.dali_bank.specs.Order.{Contents}
use Rattle.dali_journal.specs.declared.record.Code.{Code}
use Rattle.dali_journal.specs.declared.record.Record.TheVariants.{Began, Opened, Ended, Closed}
use Rattle.dali_journal.specs.declared.standing.Standing.{Standing}
use Rattle.dali_journal.specs.declared.standing.Standing.TheVariants as standings
use Rattle.dali_journal.specs.declared.kept.Progress.{Progress}
use Rattle.dali_journal.specs.declared.kept.Progress.TheVariants as reached
use Rattle.dali_journal.specs.Sentence.{Allows}
use Rattle.dali_journal.specs.Orders.{orders_of, come_to}
use Rattle.dali_trace.specs.declared.happening.Reply.TheVariants as replies
use Rattle.dali_trace.specs.declared.happening.Happening.{Happening}
use Rattle.dali_trace.specs.declared.happening.Happening.TheVariants.{Asked, Answered, Kept, Stopped}
use Rattle.dali_trace.specs.Trace.{Start, records_of, standing_at, waiting, is_unsaid, is_at_work, is_busy}
use Rattle.dali_trace.specs.Trace.{Outstanding, Quiet, Waiting, Working, JustEnded, outstanding_of, waits_in, unsaid_in, ended_in}
use Rattle.dali_trace.specs.Taken.{without, taken_or_waiting, taken_orders, begun_orders}
use Rattle.dali_trace.specs.Legal.{Legal}
use Rattle.dali_laws.proofs.SafeLemmas.{may_keep}

pub neither : (a b : Bool) → (a || b) ≡ false → (a ≡ false) × (b ≡ false)
neither true b e = cc
neither false b e = (refl, e)

-- if an order has ended, that is unsaid
pub ended_unsaid : (outstanding : Outstanding) → ended_in outstanding ≡ true → unsaid_in outstanding ≡ true
ended_unsaid Quiet e = cc
ended_unsaid (Waiting order moment) e = refl
ended_unsaid Working e = refl
ended_unsaid JustEnded e = refl

pub waits_unsaid : (outstanding : Outstanding) (order : Contents) → waits_in outstanding ≡ Some order
    → unsaid_in outstanding ≡ true
waits_unsaid Quiet order e = cc
waits_unsaid (Waiting other moment) order e = refl
waits_unsaid Working order e = cc
waits_unsaid JustEnded order e = cc

-- if all is said, no order waits
pub none_waits : (outstanding : Outstanding) → unsaid_in outstanding ≡ false → waits_in outstanding ≡ None
none_waits Quiet e = refl
none_waits (Waiting order moment) e = cc
none_waits Working e = cc
none_waits JustEnded e = cc

-- nor if an order has ended
pub none_waits_ended : (outstanding : Outstanding) → ended_in outstanding ≡ true → waits_in outstanding ≡ None
none_waits_ended Quiet e = cc
none_waits_ended (Waiting order moment) e = cc
none_waits_ended Working e = cc
none_waits_ended JustEnded e = refl

-- what is so while an order waits
pub record Waits (start : Start) (past : List Happening) (order : Contents) : Type 0 where
  pub older : List Contents
  pub taken : taken_or_waiting past ≡ order ∷ older
  pub idle : is_at_work (standing_at start past) ≡ false

newly : (start : Start) (past : List Happening) (id : ℕ) (order : Contents) (moment : ℕ) → is_busy start past ≡ false
    → Waits start (Answered id replies.Taken ∷ Asked order moment ∷ past) order
newly start past id order moment e =
    let both = neither (is_at_work (standing_at start past)) (is_unsaid past) e in record {
      older = taken_or_waiting past;
      taken = refl;
      idle = both.0;
    }

-- if no order is at work, none is opened and none ends
pub no_opened : {A : Type 0} (stands : Standing) (unit : ℕ) → is_at_work stands ≡ false → Allows stands (Opened unit)
    → A
no_opened standings.Idle unit idle allowed = absurd allowed
no_opened (standings.Began order) unit idle allowed = cc
no_opened (standings.Opened order) unit idle allowed = cc
no_opened (standings.Left left) unit idle allowed = absurd allowed

pub no_ended : {A : Type 0} (stands : Standing) (code : Code) → is_at_work stands ≡ false → Allows stands (Ended code)
    → A
no_ended standings.Idle code idle allowed = absurd allowed
no_ended (standings.Began order) code idle allowed = cc
no_ended (standings.Opened order) code idle allowed = cc
no_ended (standings.Left left) code idle allowed = absurd allowed

pub waits : (start : Start) (past : List Happening) (order : Contents) → Legal start past → waiting past ≡ Some order
    → Waits start past order
waits start [] order legal e = cc
waits start (Answered id replies.Taken ∷ Asked other moment ∷ past) order legal e =
    let same : other ≡ order = cc in rw (← same) (newly start past id other moment legal.1.1.1)
waits start (Answered id (replies.Blocked unit) ∷ Asked other moment ∷ past) order legal e = absurd legal.1.1
waits start (Answered id reply ∷ Asked other moment ∷ past) order legal e =
    let w = waits start past order legal.0.0 e in record { older = w.older; taken = w.taken; idle = w.idle }
waits start (Answered id reply ∷ past) order legal e = cc
waits start (Kept (Began other moment) ∷ past) order legal e = cc
waits start (Kept (Opened unit) ∷ past) order legal e =
    no_opened (standing_at start past) unit (waits start past order legal.0 e).idle
    (may_keep start past (Opened unit) legal.1).whole.0.1
waits start (Kept (Ended code) ∷ past) order legal e = cc
waits start (Kept (Closed unit) ∷ past) order legal e =
    let w = waits start past order legal.0 e in record { older = w.older; taken = w.taken; idle = refl }
waits start (Stopped pace ∷ past) order legal e = cc
waits start (_ ∷ past) order legal e =
    let w = waits start past order legal.0 e in record { older = w.older; taken = w.taken; idle = w.idle }

-- nor if one ends
pub none_waits_at_work : (start : Start) (past : List Happening) (code : Code) → Legal start past
    → Allows (standing_at start past) (Ended code)
    → waiting past ≡ None
none_waits_at_work start past code legal allowed = by (waiting past) refl where
  by : (found : Option Contents) → waiting past ≡ found → waiting past ≡ None
  by None e = e
  by (Some order) e = no_ended (standing_at start past) code (waits start past order legal e).idle allowed

-- no order more by a record that begins none
come_same : (progress : Progress) (orders : List (Contents × Progress))
    → map (λ (order : Contents × Progress). order.0) (come_to progress orders)
    ≡ map (λ (order : Contents × Progress). order.0) orders
come_same progress [] = refl
come_same progress (newest ∷ older) = refl

begins : (order : Contents) (waiter : Option Contents) (taken older begun first : List Contents) → waiter ≡ Some order
    → taken ≡ order ∷ older
    → begun ≡ without waiter taken ++ first → (order ∷ begun) ≡ taken ++ first
begins order waiter taken older begun first due is e =
    let more : begun ≡ older ++ first = rw (due, is) at e in rw is (ap (λ orders. order ∷ orders) more)

stays : (waiter : Option Contents) (taken begun first : List Contents) → waiter ≡ None
    → begun ≡ without waiter taken ++ first
    → begun ≡ taken ++ first
stays waiter taken begun first none e = rw none at e

pub kept_are_taken : (start : Start) (past : List Happening) → Legal start past
    → begun_orders (records_of start past) ≡ taken_orders past ++ begun_orders start.records
kept_are_taken start [] legal = refl
kept_are_taken start (Answered id replies.Taken ∷ Asked order moment ∷ past) legal =
    let both = neither (is_at_work (standing_at start past)) (is_unsaid past) legal.1.1.1 in
    let none = none_waits (outstanding_of past) both.1 in
    stays (waiting past) (taken_or_waiting past) (begun_orders (records_of start past))
    (begun_orders start.records) none
    (kept_are_taken start past legal.0.0)
kept_are_taken start (Answered id (replies.Blocked unit) ∷ Asked order moment ∷ past) legal = absurd legal.1.1
kept_are_taken start (Answered id reply ∷ Asked order moment ∷ past) legal = kept_are_taken start past legal.0.0
kept_are_taken start (Answered id (replies.Kept code) ∷ past) legal =
    stays (waiting past) (taken_or_waiting past) (begun_orders (records_of start past)) (begun_orders start.records)
    (none_waits_ended (outstanding_of past) legal.1.0) (kept_are_taken start past legal.0)
kept_are_taken start (Answered id (replies.Blocked unit) ∷ past) legal = kept_are_taken start past legal.0
kept_are_taken start (Answered id reply ∷ past) legal = absurd legal.1
kept_are_taken start (Kept (Began order moment) ∷ past) legal =
    let due = (may_keep start past (Began order moment) legal.1).due.0 in
    let w = waits start past order legal.0 due in
    begins order (waiting past) (taken_or_waiting past) w.older (begun_orders (records_of start past))
    (begun_orders start.records) due w.taken
    (kept_are_taken start past legal.0)
kept_are_taken start (Kept (Opened unit) ∷ past) legal =
    come_same reached.Open (orders_of (records_of start past)) ∙ kept_are_taken start past legal.0
kept_are_taken start (Kept (Ended code) ∷ past) legal =
    let none = none_waits_at_work start past code legal.0 (may_keep start past (Ended code) legal.1).whole.0.1 in
    come_same (reached.Ended code) (orders_of (records_of start past))
    ∙ stays (waiting past) (taken_or_waiting past) (begun_orders (records_of start past))
    (begun_orders start.records) none
    (kept_are_taken start past legal.0)
kept_are_taken start (_ ∷ past) legal = kept_are_taken start past legal.0

pub taken_from_none : (start : Start) (past : List Happening) → start.records ≡ [] → Legal start past
    → begun_orders (records_of start past) ≡ taken_orders past
taken_from_none start past none legal =
    kept_are_taken start past legal ∙ ap (λ records. taken_orders past ++ begun_orders records) none
    ∙ append-nil (taken_orders past)

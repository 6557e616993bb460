-- The order at hand holds what an order may hold.
use Rattle.std.proofs.Common.{◌≡◌, refl, sym, subst, inl, inr, ℕ, ◌≤◌, ◌<◌, max, nat_lt, if◌then◌else◌, length, arith}
use Rattle.std.proofs.Common.{Bool, true, false, List, [], ◌∷◌, Option, Some, None}
use Rattle.std.specs.Prelude.{slice_index, ⊤}
use Rattle.std.specs.List.{AllByRecursion}
use Rattle.std.proofs.lemmas.Bool.{ltb-false}
use Rattle.dali_bank.specs.Order.{Contents, IsWritable, AreUpdates}
use Rattle.dali_gear.specs.UnitState.{BankState}
use Rattle.dali_gear.specs.Faults.{IsBank}
use Rattle.dali_journal.specs.declared.record.Code.TheVariants as codes
use Rattle.dali_write.specs.Plans.{greatest}
use Rattle.dali_write.specs.Successes.{TakesAll, has_format}
use Rattle.dali_trace.specs.Spared.{NoneFixed, due_code}
use Rattle.dali_journal.specs.declared.record.Record.{Record}
use Rattle.dali_journal.specs.declared.record.Record.TheVariants.{Began, Opened, Ended}
use Rattle.dali_journal.specs.declared.standing.Standing.{Standing}
use Rattle.dali_journal.specs.declared.standing.Standing.TheVariants as standings
use Rattle.dali_journal.specs.declared.kept.Progress.{Progress}
use Rattle.dali_journal.specs.declared.kept.Progress.TheVariants as reached
use Rattle.dali_journal.specs.Sentence.{standing_of}
use Rattle.dali_journal.specs.Orders.{orders_of, come_to}
use Rattle.dali_trace.specs.declared.happening.Reply.TheVariants as replies
use Rattle.dali_trace.specs.declared.happening.Happening.{Happening}
use Rattle.dali_trace.specs.declared.happening.Happening.TheVariants.{Asked, Answered, Kept, Stopped}
use Rattle.dali_trace.specs.Trace.{Start, records_of, standing_at, waiting, has_ended}
use Rattle.dali_trace.specs.Legal.{Legal}
use Rattle.dali_trace.specs.Runs.{AsksAllProper}
use Rattle.dali_trace.specs.Work.{order_at, order_at_hand}
use Rattle.dali_laws.proofs.SafeLemmas.{may_keep}
use Rattle.dali_laws.proofs.StandingLemmas.{begun_order, open_order}

abbrev AllValid : List (Contents × Progress) → Type 0
AllValid [] = ⊤
AllValid (newest ∷ older) = AreUpdates newest.0.updates × AllValid older

come_valid : (progress : Progress) (orders : List (Contents × Progress)) → AllValid orders
    → AllValid (come_to progress orders)
come_valid progress [] valid = tt
come_valid progress (newest ∷ older) valid = valid

waiting_valid : (past : List Happening) (order : Contents) → AsksAllProper past → waiting past ≡ Some order
    → AreUpdates order.updates
waiting_valid [] order asks e = cc
waiting_valid (Answered id replies.Taken ∷ Asked other moment ∷ past) order asks e =
    let same : other ≡ order = cc in subst (λ (o : Contents). AreUpdates o.updates) same asks.1.0
waiting_valid (Answered id reply ∷ Asked other moment ∷ past) order asks e = waiting_valid past order asks.1.1 e
waiting_valid (Answered id reply ∷ past) order asks e = cc
waiting_valid (Kept (Began other moment) ∷ past) order asks e = cc
waiting_valid (Kept (Ended code) ∷ past) order asks e = cc
waiting_valid (Stopped pace ∷ past) order asks e = cc
waiting_valid (_ ∷ past) order asks e = waiting_valid past order asks.1 e

orders_valid : (start : Start) (past : List Happening) → start.records ≡ [] → Legal start past → AsksAllProper past
    → AllValid (orders_of (records_of start past))
orders_valid start [] none legal asks = subst (λ (r : List Record). AllValid (orders_of r)) (sym none) tt
orders_valid start (Kept (Began order moment) ∷ past) none legal asks = (
  waiting_valid past order asks.1 (may_keep start past (Began order moment) legal.1).due.0,
  orders_valid start past none legal.0 asks.1,
)
orders_valid start (Kept (Opened unit) ∷ past) none legal asks =
    come_valid reached.Open (orders_of (records_of start past)) (orders_valid start past none legal.0 asks.1)
orders_valid start (Kept (Ended code) ∷ past) none legal asks =
    come_valid (reached.Ended code) (orders_of (records_of start past)) (orders_valid start past none legal.0 asks.1)
orders_valid start (_ ∷ past) none legal asks = orders_valid start past none legal.0 asks.1

newest_valid : (order : Contents) (progress : Progress) (orders : List (Contents × Progress))
    → (older : List (Contents × Progress)) × (orders ≡ (order, progress) ∷ older) → AllValid orders
    → AreUpdates order.updates
newest_valid order progress orders newest valid =
    let all : AllValid ((order, progress) ∷ newest.0) = rw newest.1 at valid in all.0

hand_by : (records : List Record) (now : Standing) (waiter : Option Contents) (ended : Bool) (order : Contents)
    → standing_of records ≡ now → AllValid (orders_of records)
    → ((o : Contents) → waiter ≡ Some o → AreUpdates o.updates)
    → order_at now waiter ended (orders_of records) ≡ Some order → AreUpdates order.updates
hand_by records (standings.Began other) waiter ended order at valid waits hand =
    let same : other ≡ order = cc in
    subst (λ (o : Contents). AreUpdates o.updates) same
    (newest_valid other reached.Begun (orders_of records) (begun_order records other at) valid)
hand_by records (standings.Opened other) waiter ended order at valid waits hand =
    let same : other ≡ order = cc in
    subst (λ (o : Contents). AreUpdates o.updates) same
    (newest_valid other reached.Open (orders_of records) (open_order records other at) valid)
hand_by records standings.Idle (Some other) ended order at valid waits hand = waits order hand
hand_by records (standings.Left unit) (Some other) ended order at valid waits hand = waits order hand
hand_by records standings.Idle None ended order at valid waits hand = by (orders_of records) ended valid hand
  where
    by : (orders : List (Contents × Progress)) (ended : Bool) → AllValid orders
        → order_at standings.Idle None ended orders ≡ Some order → AreUpdates order.updates
    by [] true valid hand = cc
    by (newest ∷ older) true valid hand =
        let same : newest.0 ≡ order = cc in subst (λ (o : Contents). AreUpdates o.updates) same valid.0
    by orders false valid hand = cc
hand_by records (standings.Left unit) None ended order at valid waits hand = by (orders_of records) ended valid hand
  where
    by : (orders : List (Contents × Progress)) (ended : Bool) → AllValid orders
        → order_at (standings.Left unit) None ended orders ≡ Some order → AreUpdates order.updates
    by [] true valid hand = cc
    by (newest ∷ older) true valid hand =
        let same : newest.0 ≡ order = cc in subst (λ (o : Contents). AreUpdates o.updates) same valid.0
    by orders false valid hand = cc

pub hand_valid : (start : Start) (past : List Happening) (order : Contents) → start.records ≡ [] → Legal start past
    → AsksAllProper past → order_at_hand start past ≡ Some order → AreUpdates order.updates
hand_valid start past order none legal asks hand =
    hand_by (records_of start past) (standing_at start past) (waiting past) (has_ended past) order refl
    (orders_valid start past none legal asks) (λ o waits. waiting_valid past o asks waits) hand

-- if an order is to be done, its locations are there

rest_below : (bytes : List ℕ) (bank : BankState) (updates : List (ℕ × ℕ))
    → AllByRecursion (λ (update : ℕ × ℕ). IsWritable update.0) updates → greatest updates < length bank.bytes
    → NoneFixed bank updates
    → TakesAll bank updates
rest_below bytes bank [] places below free = tt
rest_below bytes bank (update ∷ updates) places below free = (
  (past places.0, (let up = max_left update.0 (greatest updates) in omega arith), free.0),
  rest_below bytes bank updates places.1 (let up = max_right update.0 (greatest updates) in omega arith) free.1,
)
  where
    past : IsWritable update.0 → 3 ≤ update.0
    past (inl low) = low.0
    past (inr high) = let up = high.0 in omega arith

    max_left : (a b : ℕ) → a ≤ max a b
    max_left a b = omega arith

    max_right : (a b : ℕ) → b ≤ max a b
    max_right a b = omega arith

pub takes_all : (bank : BankState) (updates : List (ℕ × ℕ)) → IsBank bank.bytes → AreUpdates updates
    → NoneFixed bank updates → due_code bank.bytes updates ≡ codes.Done → TakesAll bank updates
takes_all bank updates is valid free due = by (nat_lt (slice_index bank.bytes 0) (greatest updates)) refl due
  where
    by : (short : Bool) → nat_lt (slice_index bank.bytes 0) (greatest updates) ≡ short
        → (if short
        then codes.Short
        else (if nat_lt (greatest updates) 0x13
        then codes.Done
        else (if has_format bank.bytes then codes.Done else codes.Format)))
        ≡ codes.Done
        → TakesAll bank updates
    by true e due = cc
    by false e due =
        let reaches = ltb-false (slice_index bank.bytes 0) (greatest updates) e in
        let last = is.last in
        rest_below bank.bytes bank updates valid.writable (omega arith) free

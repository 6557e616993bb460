-- Near the number of steps that lead to what is said, and what says nothing of an order.
use Rattle.std.proofs.Common.{◌≡◌, ◌⊎◌, inl, inr, refl, sym, ap, subst, ℕ, zero, suc, ◌+◌, ◌≤◌, List, [], ◌∷◌, ◌++◌}
use Rattle.std.proofs.Common.{length, Some, None, arith}
use Rattle.std.specs.Prelude.{replicate}
use Rattle.dali_bank.specs.Order.{Contents}
use Rattle.dali_journal.specs.declared.record.Code.TheVariants as codes
use Rattle.dali_journal.specs.declared.standing.Standing.TheVariants as standings
use Rattle.dali_trace.specs.declared.happening.Reply.TheVariants as replies
use Rattle.dali_trace.specs.declared.happening.Event.{Event}
use Rattle.dali_trace.specs.declared.happening.Event.TheVariants.{Submit, Step, Stop, Power}
use Rattle.dali_trace.specs.declared.happening.Happening.{Happening}
use Rattle.dali_trace.specs.declared.happening.Happening.TheVariants.{Asked, Answered, Stopped}
use Rattle.dali_trace.specs.Trace.{Start}
use Rattle.dali_trace.specs.Legal.{IsFinished}
use Rattle.dali_trace.specs.Parts.{AreParts}
use Rattle.dali_trace.specs.Work.{stood_at, order_at_hand}
use Rattle.dali_trace.specs.Steps.{steps_in, NoneStops, IsSaid, PartsSince, IsSaidInTime, SaysInTime}
use Rattle.dali_trace.specs.Worked.{empty, first_order, second_order, taken, begun, said}
use Rattle.dali_trace.specs.WorkedPlans.{at_work, repeated, another_said, said_behind_a_stop, said_again}
use Rattle.dali_write.specs.declared.pace.Pace.TheVariants.{Checked}

-- a count of steps
count_steps : (n : ℕ) → steps_in (replicate n Step) ≡ n
count_steps zero = refl
count_steps (suc n) = ap suc (count_steps n)

none_stops : (n : ℕ) → NoneStops (replicate n Step)
none_stops zero = tt
none_stops (suc n) = none_stops n

pub steps_counted : steps_in (Step ∷ Submit second_order 9 ∷ Stop 0 ∷ Step ∷ []) ≡ 2
steps_counted = refl

pub submits_are_none : NoneStops (Step ∷ Submit second_order 9 ∷ Step ∷ [])
submits_are_none = tt

pub a_stop_is_one : NoneStops (Step ∷ Stop 0 ∷ Step ∷ []) → ⊥
a_stop_is_one none = none

-- a loss of power is none either
pub losses_of_power_are_none : NoneStops (Step ∷ Power 5 ∷ Step ∷ [])
losses_of_power_are_none = tt

-- it is said by then, a loss of power among the steps, whatever comes after them: a stop too
pub says_by_then : (n : ℕ) (newer : List Event) (trace : List Happening) → 1237 ≤ n
    → SaysInTime at_work newer (Power 5 ∷ replicate n Step) [] trace
    → (behind : List Happening) × PartsSince at_work newer behind trace × IsSaid at_work first_order [] behind
says_by_then n newer trace many (cut, says) =
    let count = count_steps n in
    let at : order_at_hand at_work cut.before ≡ Some first_order =
    subst (λ (t : List Happening). order_at_hand at_work t ≡ Some first_order) (sym cut.older_parts) refl in (
      cut.behind,
      cut.newer_parts,
      subst (λ (t : List Happening). IsSaid at_work first_order t cut.behind) cut.older_parts
          (says first_order (at, none_stops n, omega arith)),
    )

pub said_by_then : (n : ℕ) (trace : List Happening) → 1237 ≤ n → IsSaidInTime empty taken trace
    → PartsSince empty (replicate n Step) taken trace → IsSaid empty first_order taken trace
said_by_then n trace many in_time parts =
    let count = count_steps n in in_time (replicate n Step) first_order parts (refl, none_stops n, omega arith)

-- the parts of newer events after those of older ones are the parts of all of them
parts_join : (start : Start) (newer older : List Event) (before trace : List Happening) → AreParts start older before
    → PartsSince start newer before trace → AreParts start (newer ++ older) trace
parts_join start [] older before trace parts same =
    subst (λ (t : List Happening). AreParts start older t) (sym same) parts
parts_join start (event ∷ newer) older before trace parts (mid, part, rest) =
    (mid, part, parts_join start newer older before mid parts rest)

pub says_parts : (start : Start) (newer middle older : List Event) (trace : List Happening)
    → SaysInTime start newer middle older trace → AreParts start (newer ++ (middle ++ older)) trace
says_parts start newer middle older trace (cut, says) =
    parts_join start newer (middle ++ older) cut.behind trace
    (parts_join start middle older cut.before cut.behind cut.older_parts cut.middle_parts) cut.newer_parts

-- if one happening was added, it is the saying; if two were, one of them is
length_append : (xs ys : List Happening) → length (xs ++ ys) ≡ length xs + length ys
length_append [] ys = omega arith
length_append (x ∷ xs) ys = let rest = length_append xs ys in omega arith

added : (later since before all : List Happening) (x : Happening) → all ≡ later ++ x ∷ (since ++ before)
    → length all ≡ length later + (1 + (length since + length before))
added later since before all x parts =
    let whole : length all ≡ length (later ++ x ∷ (since ++ before)) = ap (λ (t : List Happening). length t) parts in
    let one = length_append later (x ∷ (since ++ before)) in
    let two = length_append since before in
    omega arith

not_added : (before : List Happening) (start : Start) → IsSaid start first_order before before → ⊥
not_added before start is_said =
    let long = added is_said.later is_said.since before before _ is_said.parts in omega arith

one_added : (later since before : List Happening) (x next : Happening) → next ∷ before ≡ later ++ x ∷ (since ++ before)
    → (since ≡ []) × (next ≡ x)
one_added [] [] before x next parts = (refl, cc)
one_added [] (a ∷ since) before x next parts =
    let long = added [] (a ∷ since) before (next ∷ before) x parts in absurd (omega arith)
one_added (a ∷ later) since before x next parts =
    let long = added (a ∷ later) since before (next ∷ before) x parts in absurd (omega arith)

two_added : (later since before : List Happening) (x mid next : Happening)
    → next ∷ mid ∷ before ≡ later ++ x ∷ (since ++ before) → ((since ≡ mid ∷ []) × (next ≡ x)) ⊎ (mid ≡ x)
two_added [] [] before x mid next parts =
    let long = added [] [] before (next ∷ mid ∷ before) x parts in absurd (omega arith)
two_added [] (a ∷ []) before x mid next parts = inl (cc, cc)
two_added [] (a ∷ b ∷ since) before x mid next parts =
    let long = added [] (a ∷ b ∷ since) before (next ∷ mid ∷ before) x parts in absurd (omega arith)
two_added (a ∷ []) [] before x mid next parts = inr cc
two_added (a ∷ []) (b ∷ since) before x mid next parts =
    let long = added (a ∷ []) (b ∷ since) before (next ∷ mid ∷ before) x parts in absurd (omega arith)
two_added (a ∷ b ∷ later) since before x mid next parts =
    let long = added (a ∷ b ∷ later) since before (next ∷ mid ∷ before) x parts in absurd (omega arith)

pub not_said_yet : IsSaid empty first_order begun begun → ⊥
not_said_yet is_said = not_added begun empty is_said

-- no reply is due when it is said
no_reply : (start : Start) (since before : List Happening) (order : Contents) (moment : ℕ)
    → since ≡ Asked order moment ∷ []
    → IsFinished (since ++ before) → ⊥
no_reply start since before order moment is finished =
    subst (λ (t : List Happening). IsFinished (t ++ before)) is finished

pub not_by_a_reply : IsSaid empty first_order begun repeated → ⊥
not_by_a_reply is_said =
    by (two_added is_said.later is_said.since begun (Answered 1 is_said.reply) (Asked first_order 7)
    (Answered 1 replies.Busy) is_said.parts)
  where
    by : ((is_said.since ≡ Asked first_order 7 ∷ []) × (Answered 1 replies.Busy ≡ Answered 1 is_said.reply))
        ⊎ (Asked first_order 7 ≡ Answered 1 is_said.reply)
        → ⊥
    by (inl at) = no_reply empty is_said.since begun first_order 7 at.0 is_said.finished
    by (inr never) = cc

pub not_by_another : IsSaid empty first_order begun another_said → ⊥
not_by_another is_said =
    let is =
    (one_added is_said.later is_said.since begun (Answered 1 is_said.reply) (Answered 2 (replies.Kept codes.Done))
    is_said.parts).1 in
    let same : ◌≡◌ {A = ℕ} 2 1 = cc in
    omega (arith, same)

pub not_behind_a_stop : IsSaid empty first_order begun said_behind_a_stop → ⊥
not_behind_a_stop is_said =
    by (two_added is_said.later is_said.since begun (Answered 1 is_said.reply) (Stopped Checked)
    (Answered 1 (replies.Kept codes.Done)) is_said.parts)
  where
    by : ((is_said.since ≡ Stopped Checked ∷ []) × (Answered 1 (replies.Kept codes.Done) ≡ Answered 1 is_said.reply))
        ⊎ (Stopped Checked ≡ Answered 1 is_said.reply)
        → ⊥
    by (inl at) =
        let another : standings.Began first_order ≡ standings.Idle =
        subst (λ (t : List Happening). stood_at empty (t ++ begun) ≡ stood_at empty begun) at.0 is_said.start_is in
        cc
    by (inr never) = cc

pub not_again : IsSaid empty first_order said said_again → ⊥
not_again again =
    let none =
    (one_added again.later again.since said (Answered 1 again.reply) (Answered 1 (replies.Kept codes.Done))
    again.parts).0 in
    let never : None ≡ Some first_order =
    subst (λ (t : List Happening). order_at_hand empty (t ++ said) ≡ Some first_order) none again.hand in
    cc

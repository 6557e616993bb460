-- Small buses and banks near the edges of what is promised if little is lost.
use Rattle.std.proofs.Common.{◌≡◌, refl, ℕ, true, false, List, [], ◌∷◌, ◌++◌, Some}
use Rattle.std.proofs.Common.{None, arith}
use Rattle.dali_frame.specs.declared.forward.Frame.TheVariants.{Dtr1}
use Rattle.dali_gear.specs.SimState.{SimState, SimStep}
use Rattle.dali_gear.specs.SimState.{world_of}
use Rattle.dali_bus.specs.Chain.{IsChain, AtEachState}
use Rattle.dali_bus.specs.Unenabled.{NoneEnabled}
use Rattle.dali_journal.specs.declared.record.Code.TheVariants as codes
use Rattle.dali_trace.specs.declared.happening.Event.{Event}
use Rattle.dali_trace.specs.declared.happening.Happening.{Happening}
use Rattle.dali_trace.specs.declared.happening.Happening.TheVariants.{Sent, Stopped, Powered}
use Rattle.dali_trace.specs.Trace.{Start}
use Rattle.dali_trace.specs.Moves.{MovesBy}
use Rattle.dali_trace.specs.Runs.{fresh}
use Rattle.dali_trace.specs.Spared.{state_at_start, losses_since, UnrefusedSince, due_code, NoneFixed, IsSpared}
use Rattle.dali_trace.specs.Spared.{KeepsPowerSince, LosesLittle, IsSaidAsDue, LeadsSpared}
use Rattle.dali_trace.specs.Steps.{IsCut, HasStepsEnough}
use Rattle.dali_trace.specs.declared.happening.Reply.TheVariants as replies
use Rattle.dali_bank.specs.Order.{Contents}
use Rattle.dali_gear.specs.UnitState.{BankState}
use Rattle.std.specs.Prelude.{reverse}
use Rattle.dali_trace.specs.WorkedLosses.{losing, refusing, clear, one_since, start_taken, of_format, fixed_beside}
use Rattle.dali_trace.specs.WorkedLosses.{fixed_there, SparesSeven}
use Rattle.dali_write.specs.declared.pace.Pace.TheVariants.{Checked}
use Rattle.dali_write.specs.declared.pace.Pace.{Pace}

-- A frame that is lost to the order's unit, to the left one, or to both of them, is one loss; one that is lost to
-- another is none. Losses before the start aren't counted.
pub lost_to_both : losses_since 5 (Some 7) (one_since start_taken) (losing 0xA0 ∷ clear ∷ losing 0xA0 ∷ []) ≡ 1
lost_to_both = refl

pub lost_to_the_left : losses_since 5 (Some 7) (one_since start_taken) (losing 0x80 ∷ clear ∷ losing 0xA0 ∷ []) ≡ 1
lost_to_the_left = refl

pub lost_to_its_unit : losses_since 5 (Some 7) (one_since (Stopped Checked)) (losing 0x20 ∷ clear ∷ losing 0xA0 ∷ []) ≡
    1
lost_to_its_unit = refl

pub lost_to_another : losses_since 5 (Some 7) (one_since (Stopped Checked)) (losing 0x40 ∷ clear ∷ losing 0xA0 ∷ []) ≡ 0
lost_to_another = refl

-- nor is what was refused before it
pub unrefused_since : UnrefusedSince (one_since start_taken) (clear ∷ clear ∷ refusing ∷ [])
unrefused_since = (refl, tt)

pub unrefused_since_a_stop : UnrefusedSince (one_since (Stopped Checked)) (clear ∷ clear ∷ refusing ∷ [])
unrefused_since_a_stop = (refl, tt)

pub refused_since : UnrefusedSince (one_since (Stopped Checked)) (refusing ∷ clear ∷ clear ∷ []) → ⊥
refused_since kind = let never : true ≡ false = kind.0 in cc

-- no loss of power before it counts; since then one of its unit or of the left one does, and one of another doesn't
pub keeps_power_since : KeepsPowerSince 5 (Some 6) (one_since start_taken ++ Powered 5 ∷ Powered 6 ∷ [])
keeps_power_since = tt

pub keeps_power_since_a_stop : KeepsPowerSince 5 (Some 6) (one_since (Stopped Checked) ++ Powered 5 ∷ Powered 6 ∷ [])
keeps_power_since_a_stop = tt

pub its_unit_powered : KeepsPowerSince 5 None (Sent (Dtr1 1) None ∷ Powered 5 ∷ one_since (Stopped Checked)) → ⊥
its_unit_powered kept = kept.0.0 refl

pub left_powered : KeepsPowerSince 5 (Some 6) (Sent (Dtr1 1) None ∷ Powered 6 ∷ one_since (Stopped Checked)) → ⊥
left_powered kept = kept.0.1 refl

pub another_powered : KeepsPowerSince 5 (Some 6) (Sent (Dtr1 1) None ∷ Powered 7 ∷ one_since (Stopped Checked))
another_powered = ((λ same. cc, λ same. cc), tt)

-- the state at the start
pub state_then : state_at_start (one_since start_taken) clear (losing 1 ∷ losing 2 ∷ losing 3 ∷ []) ≡ losing 1
state_then = refl

-- how an order is to end
pub long_enough : due_code (0x08 ∷ []) ((0x08, 0) ∷ []) ≡ codes.Done
long_enough = refl

pub too_short : due_code (0x08 ∷ []) ((0x08, 0) ∷ (0x09, 0) ∷ []) ≡ codes.Short
too_short = refl

pub below_the_formats : due_code (of_format 0x00 0x04) ((0x12, 0) ∷ []) ≡ codes.Done
below_the_formats = refl

pub another_low : due_code (of_format 0x00 0x04) ((0x13, 0) ∷ []) ≡ codes.Format
another_low = refl

pub another_high : due_code (of_format 0x01 0x03) ((0x13, 0) ∷ []) ≡ codes.Format
another_high = refl

pub of_the_format : due_code (of_format 0x00 0x03) ((0x13, 0) ∷ []) ≡ codes.Done
of_the_format = refl

-- another location is fixed, or an update's
pub another_fixed : NoneFixed fixed_beside ((0x08, 0) ∷ (0x09, 0) ∷ [])
another_fixed = (refl, (refl, tt))

pub one_fixed : NoneFixed fixed_there ((0x08, 0) ∷ (0x09, 0) ∷ []) → ⊥
one_fixed none = let never : true ≡ false = none.1.0 in cc

-- seven losses are few
pub seven_spared : SparesSeven
seven_spared start id reply frame answer older last state states order bank spared hand idle has kind powered
    seven free =
    let so =
    spared order bank hand
    (record { taken = idle; there = has; unrefused = kind; powered = powered; few = omega arith; free = free }) in
    let few = so.few_misses in
    (so.reply_is, omega arith)

-- what is promised at each state of a chain, is so at those before
pub spared_before : (start : Start) (next : Happening) (past : List Happening) (last state : SimState)
    (states : List SimState)
    → AtEachState (IsSpared start) (next ∷ past) last (state ∷ states)
    → IsSpared start (next ∷ past) last (state ∷ states) × AtEachState (IsSpared start) past state states
spared_before start next past last state states each = each

pub leads_spared : (limit : ℕ) (pace : Pace) (all : List Event) (first : SimState) (past : List Happening)
    (last : SimState) (leads : LeadsSpared limit pace all first past last)
    → NoneEnabled (world_of first.units)
    → IsChain (MovesBy SimStep) first past last leads.states
    × AtEachState (IsSpared (fresh limit pace)) past last leads.states
leads_spared limit pace all first past last leads none = (leads.chain, leads.spared none)

-- an order that is given steps enough is said as it is to end, if little befalls it
pub leads_said : (limit : ℕ) (pace : Pace) (all newer middle older : List Event) (first : SimState)
    (past : List Happening)
    (last : SimState) (leads : LeadsSpared limit pace all first past last)
    → NoneEnabled (world_of first.units)
    → reverse all ≡ newer ++ (middle ++ older)
    → (cut : IsCut (fresh limit pace) newer middle older past)
    × ((order : Contents) (bank : BankState) → HasStepsEnough (fresh limit pace) cut.before middle order
    → (so : IsSaidAsDue (fresh limit pace) order cut.before cut.behind leads.states)
    × (LosesLittle (fresh limit pace) order bank (so.said.since ++ cut.before) so.state so.older
    → so.said.reply ≡ replies.Kept (due_code bank.bytes order.updates)))
leads_said limit pace all newer middle older first past last leads none same =
    let says = leads.said none newer middle older same in (
      says.0,
      λ order bank enough. let so = says.1 order enough in (so, λ little. (so.due bank little).reply_is),
    )

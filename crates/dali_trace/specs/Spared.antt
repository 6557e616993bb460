-- Over the simulated bus: what is lost of an order's frames since its start, and how an order ends that loses little.
use Rattle.std.specs.Prelude.{◌≡◌, ◌≢◌, ◌<◌, ◌≤◌, ℕ, Bool, false, ◌||◌, List, [], ◌∷◌, ◌++◌, Option, Some, None, ⊤}
use Rattle.std.specs.Prelude.{length, reverse}
use Rattle.std.specs.List.{filter, AllByRecursion}
use Rattle.dali_frame.specs.declared.forward.Frame.{Frame}
use Rattle.dali_bank.specs.Order.{Contents}
use Rattle.dali_bus.specs.Chain.{IsChain, AtEachState}
use Rattle.dali_gear.specs.Fate.{next_fate}
use Rattle.dali_gear.specs.UnitState.{BankState}
use Rattle.dali_gear.specs.SimState.{SimState, SimStep, world_of}
use Rattle.dali_bus.specs.Unenabled.{NoneEnabled}
use Rattle.dali_journal.specs.declared.record.Code.{Code}
use Rattle.dali_journal.specs.declared.record.Code.TheVariants as codes
use Rattle.dali_write.specs.Tries.{most_tries}
use Rattle.dali_write.specs.Losses.{is_loss}
use Rattle.dali_write.specs.Successes.{HasBank, IsFree, by_bank}
use Rattle.dali_write.specs.Misses.{misses_in}
use Rattle.dali_trace.specs.declared.happening.Reply.{Reply}
use Rattle.dali_trace.specs.declared.happening.Reply.TheVariants as replies
use Rattle.dali_trace.specs.declared.happening.Event.{Event}
use Rattle.dali_trace.specs.declared.happening.Happening.{Happening}
use Rattle.dali_trace.specs.declared.happening.Happening.TheVariants.{Asked, Answered, Sent}
use Rattle.dali_journal.specs.Sentence.{named_unit}
use Rattle.dali_trace.specs.Cut.{since, is_start}
use Rattle.dali_trace.specs.Trace.{Start, sent_since_taken, powered_of, is_at_work}
use Rattle.dali_trace.specs.Moves.{MovesBy}
use Rattle.dali_trace.specs.Runs.{fresh, IsRun}
use Rattle.dali_trace.specs.Work.{stood_at, order_at_hand}
use Rattle.dali_trace.specs.Steps.{IsSaid, IsCut, HasStepsEnough}
use Rattle.dali_write.specs.declared.pace.Pace.{Pace}

-- the frame is a loss to the unit, or to the one that was left
abbrev pub is_lost_to : ℕ → Option ℕ → SimState → Frame → Bool
is_lost_to unit None state frame = is_loss unit state frame
is_lost_to unit (Some left) state frame = is_loss unit state frame || is_loss left state frame

-- The states of the bus along a trace are listed newest first, each the one before its happening.

-- the state from which these happenings led to the last one
abbrev pub led_from : List Happening → SimState → List SimState → SimState
led_from (next ∷ past) last (state ∷ states) = led_from past state states
led_from past last states = last

-- the frames among them, each with the state that it was sent in
abbrev pub sent_among : List Happening → List SimState → List (Frame × SimState)
sent_among (Sent frame answer ∷ past) (state ∷ states) = (frame, state) ∷ sent_among past states
sent_among (other ∷ past) (state ∷ states) = sent_among past states
sent_among past states = []

-- the state at the last start: when an order was taken, or the program stopped
abbrev pub state_at_start : List Happening → SimState → List SimState → SimState
state_at_start past last states = led_from (since is_start past) last states

-- how many of the frames since then were losses
abbrev pub losses_since : ℕ → Option ℕ → List Happening → List SimState → ℕ
losses_since unit left past states =
    length (filter (λ sent. is_lost_to unit left sent.1 sent.0) (sent_among (since is_start past) states))

-- no fate since then refuses
abbrev pub UnrefusedSince : List Happening → List SimState → Type 0
UnrefusedSince past states =
    AllByRecursion (λ sent. (next_fate sent.1.fates).refuse ≡ false) (sent_among (since is_start past) states)

-- neither the unit nor the left one has lost its power since then
abbrev pub KeepsPowerSince : ℕ → Option ℕ → List Happening → Type 0
KeepsPowerSince unit left past =
    AllByRecursion (λ address. (address ≢ unit) × (left ≢ Some address)) (powered_of [] (since is_start past))

-- how an order of these updates is to end if bank 1 has these bytes
abbrev pub due_code : List ℕ → List (ℕ × ℕ) → Code
due_code bytes updates = by_bank codes.Short codes.Format codes.Done bytes updates

-- none of the updates is at a fixed location
abbrev pub NoneFixed : BankState → List (ℕ × ℕ) → Type 0
NoneFixed bank updates = AllByRecursion (λ update. IsFree bank update.0) updates

-- Little befell an order since its start: none was at work then, so it was taken and no stop came since. Its unit had
-- this bank 1 then, no fate refused since, its unit and a left one kept their power, at most seven frames were losses
-- to one of them, and none of its locations is fixed where they are to be written.
pub record LosesLittle (start : Start) (order : Contents) (bank : BankState) (past : List Happening) (last : SimState)
    (states : List SimState) : Type 0 where
  pub taken : is_at_work (stood_at start past) ≡ false
  pub there : HasBank order.unit bank (state_at_start past last states).units
  pub unrefused : UnrefusedSince past states
  pub powered : KeepsPowerSince order.unit (named_unit (stood_at start past)) past
  pub few : losses_since order.unit (named_unit (stood_at start past)) past states < most_tries
  pub free : due_code bank.bytes order.updates ≡ codes.Done → NoneFixed bank order.updates

-- such an order ends as it is to end, and the misses are no more than the losses
pub record EndsAsDue (start : Start) (order : Contents) (bank : BankState) (past : List Happening)
    (states : List SimState) (reply : Reply) : Type 0 where
  pub reply_is : reply ≡ replies.Kept (due_code bank.bytes order.updates)
  pub few_misses : misses_in (sent_since_taken past)
      ≤ losses_since order.unit (named_unit (stood_at start past)) past states

-- what is said of an order that little befell is how it is to end
abbrev pub IsSpared : Start → List Happening → SimState → List SimState → Type 0
IsSpared start (Answered id reply ∷ Asked order moment ∷ past) last states = ⊤
IsSpared start (Answered id reply ∷ past) last (state ∷ states) =
    (order : Contents) (bank : BankState) → order_at_hand start past ≡ Some order
    → LosesLittle start order bank past state states → EndsAsDue start order bank past states reply
IsSpared start other last states = ⊤

-- The order is said in the part that was added to the trace since `before`; and if little befell it up to then, it is
-- said as it is to end. The states along the whole of it are the later ones, the one when it was said, and those
-- before.
pub record IsSaidAsDue (start : Start) (order : Contents) (before behind : List Happening) (states : List SimState) :
    Type 0 where
  pub said : IsSaid start order before behind
  pub later : List SimState
  pub state : SimState
  pub older : List SimState
  pub states_are : states ≡ later ++ state ∷ older
  pub as_many : length older ≡ length (said.since ++ before)
  pub due : (bank : BankState) → LosesLittle start order bank (said.since ++ before) state older
      → EndsAsDue start order bank (said.since ++ before) older said.reply

-- an order that has steps enough in the middle ones of these events is said so in what they add
abbrev pub SaysAsDue : Start → List Event → List Event → List Event → List Happening → List SimState → Type 0
SaysAsDue start newer middle older trace states =
    (cut : IsCut start newer middle older trace)
    × ((order : Contents) → HasStepsEnough start cut.before middle order
    → IsSaidAsDue start order cut.before cut.behind states)

-- A chain of the simulated bus leads along the trace. If no unit was enabled at first, what is said along it is so, and
-- each order that is given steps enough is said as it is due.
pub record LeadsSpared (limit : ℕ) (pace : Pace) (all : List Event) (first : SimState) (past : List Happening)
    (last : SimState) : Type 0 where
  pub states : List SimState
  pub chain : IsChain (MovesBy SimStep) first past last states
  pub spared : NoneEnabled (world_of first.units)
      → AtEachState (IsSpared (fresh limit pace)) past last states
  pub said : NoneEnabled (world_of first.units)
      → (newer middle older : List Event) → reverse all ≡ newer ++ (middle ++ older)
      → SaysAsDue (fresh limit pace) newer middle older past states

-- A run of these events over the simulated bus: all that a run over any bus is, and the sayings along it of orders that
-- little befalls.
pub record IsSimRun (limit : ℕ) (pace : Pace) (all : List Event) (first : SimState) (trace : List Happening)
    (journal : List ℕ)
    (last : SimState) : Type 0 where
  pub run : IsRun (λ state. world_of state.units) SimStep limit pace all first trace journal last
  pub spared : LeadsSpared limit pace all first (reverse trace) last

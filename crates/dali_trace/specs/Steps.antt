-- How many steps lead to what is said of an order.
use Rattle.std.specs.Prelude.{◌≡◌, ◌≤◌, ℕ, suc, ◌+◌, List, [], ◌∷◌, ◌++◌, length, Some, ⊤}
use Rattle.dali_bank.specs.Order.{Contents}
use Rattle.dali_trace.specs.declared.happening.Event.{Event}
use Rattle.dali_trace.specs.declared.happening.Event.TheVariants.{Step, Stop}
use Rattle.dali_trace.specs.declared.happening.Happening.{Happening}
use Rattle.dali_trace.specs.declared.happening.Happening.TheVariants.{Answered}
use Rattle.dali_trace.specs.Trace.{Start}
use Rattle.dali_trace.specs.Parts.{Part, AreParts}
use Rattle.dali_trace.specs.declared.happening.Reply.{Reply}
use Rattle.dali_trace.specs.Legal.{IsFinished}
use Rattle.dali_trace.specs.Work.{stood_at, work_limit, order_at_hand}

-- how many of the events are steps
abbrev pub steps_in : List Event → ℕ
steps_in [] = 0
steps_in (Step ∷ events) = suc (steps_in events)
steps_in (other ∷ events) = steps_in events

-- none of the events is a stop
abbrev pub NoneStops : List Event → Type 0
NoneStops [] = ⊤
NoneStops (Stop bytes ∷ events) = ⊥
NoneStops (other ∷ events) = NoneStops events

-- The order is said in the part that was added to the trace since `before`: it was at hand still, since the same start,
-- and no reply was due.
pub record IsSaid (start : Start) (order : Contents) (before trace : List Happening) : Type 0 where
  pub later : List Happening
  pub reply : Reply
  pub since : List Happening
  pub parts : trace ≡ later ++ Answered order.id reply ∷ (since ++ before)
  pub finished : IsFinished (since ++ before)
  pub hand : order_at_hand start (since ++ before) ≡ Some order
  pub start_is : stood_at start (since ++ before) ≡ stood_at start before

-- the parts of these events lead from the one trace to the other
abbrev pub PartsSince : Start → List Event → List Happening → List Happening → Type 0
PartsSince start [] before trace = trace ≡ before
PartsSince start (event ∷ events) before trace =
    (mid : List Happening) × Part start event mid trace × PartsSince start events before mid

-- the order is at hand before these events, none of them is a stop, and five more than its limit are steps
abbrev pub HasStepsEnough : Start → List Happening → List Event → Contents → Type 0
HasStepsEnough start before events order =
    (order_at_hand start before ≡ Some order) × NoneStops events
    × (work_limit (length order.updates) + 5 ≤ steps_in events)

-- such an order is said in what they add to the trace
abbrev pub IsSaidInTime : Start → List Happening → List Happening → Type 0
IsSaidInTime start before trace =
    (events : List Event) (order : Contents) → PartsSince start events before trace
    → HasStepsEnough start before events order → IsSaid start order before trace

-- the trace is cut before the happenings that the middle ones of these events added, and after them
pub record IsCut (start : Start) (newer middle older : List Event) (trace : List Happening) : Type 0 where
  pub before : List Happening
  pub behind : List Happening
  pub older_parts : AreParts start older before
  pub middle_parts : PartsSince start middle before behind
  pub newer_parts : PartsSince start newer behind trace

-- an order that has steps enough in the middle ones is said in the part that these add, whatever comes after them
abbrev pub SaysInTime : Start → List Event → List Event → List Event → List Happening → Type 0
SaysInTime start newer middle older trace =
    (cut : IsCut start newer middle older trace)
    × ((order : Contents) → HasStepsEnough start cut.before middle order → IsSaid start order cut.before cut.behind)

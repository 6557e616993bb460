-- The promises of a run over a bus.
use Rattle.std.specs.Prelude.{◌≡◌, ℕ, List, [], ◌++◌, reverse, take, ⊤}
use Rattle.std.specs.List.{AllByRecursion}
use Rattle.dali_frame.specs.Frame.{IsProper}
use Rattle.dali_bus.specs.World.{World}
use Rattle.dali_bus.specs.Carry.{BusEvent}
use Rattle.dali_bus.specs.Chain.{IsChain, AtEachMoment}
use Rattle.dali_bus.specs.Unenabled.{NoneEnabled}
use Rattle.dali_journal.specs.declared.version.Version.TheVariants.{Two}
use Rattle.dali_journal.specs.Spelling.{journal_spelling}
use Rattle.dali_trace.specs.declared.happening.Event.{Event}
use Rattle.dali_trace.specs.declared.happening.Happening.{Happening}
use Rattle.dali_trace.specs.declared.happening.Happening.TheVariants.{Asked, Sent}
use Rattle.dali_bank.specs.Order.{AreUpdates}
use Rattle.dali_trace.specs.Trace.{Start, records_of}
use Rattle.dali_trace.specs.Legal.{Legal, IsFinished}
use Rattle.dali_trace.specs.ByPlan.{ByPlan}
use Rattle.dali_trace.specs.Work.{IsWorked}
use Rattle.dali_trace.specs.Steps.{SaysInTime}
use Rattle.dali_trace.specs.Parts.{AreParts}
use Rattle.dali_trace.specs.Taken.{begun_orders, taken_orders}
use Rattle.dali_trace.specs.Moves.{MovesBy}
use Rattle.dali_trace.specs.WhenKept.{WhenKept}
use Rattle.dali_trace.specs.Moments.{IsRight}
use Rattle.dali_write.specs.declared.pace.Pace.{Pace}

-- an empty journal of at most this many orders
abbrev pub fresh : ℕ → Pace → Start
fresh limit pace = record { records = []; limit = limit; pace = pace }

-- a chain of the bus's states leads along the trace from the first to the last, and each record is true when it is
-- kept; and if no unit was enabled at first, every moment of it is right, from the world that the bus showed then
pub record LeadsRight {S : Type 0} (world : S → World) (step : S → BusEvent → S → Type 0) (limit : ℕ) (pace : Pace)
    (first : S) (past : List Happening) (last : S) : Type 0 where
  pub states : List S
  pub chain : IsChain (MovesBy step) first past last states
  pub kept : AtEachMoment (λ moment now. WhenKept (fresh limit pace) moment (world now)) past last states
  pub right : NoneEnabled (world first)
      → AtEachMoment (λ moment now. IsRight (world first) [] (fresh limit pace) moment (world now)) past last states

-- a frame that was sent is one that some word spells
abbrev pub SendsProper : Happening → Type 0
SendsProper (Sent frame answer) = IsProper frame
SendsProper other = ⊤

-- and so is each of a trace
abbrev pub SendsAllProper : List Happening → Type 0
SendsAllProper past = AllByRecursion SendsProper past

-- an order that was asked for holds what an order may hold
abbrev pub AsksProper : Happening → Type 0
AsksProper (Asked order moment) = AreUpdates order.updates
AsksProper other = ⊤

-- and so does each of a trace
abbrev pub AsksAllProper : List Happening → Type 0
AsksAllProper past = AllByRecursion AsksProper past

-- A run of these events, from the first state of a bus to the last: its trace, the oldest happening first, and the
-- journal's bytes.
pub record IsRun {S : Type 0} (world : S → World) (step : S → BusEvent → S → Type 0) (limit : ℕ) (pace : Pace)
    (all : List Event)
    (first : S) (trace : List Happening) (journal : List ℕ) (last : S) : Type 0 where
  -- each happening was one that might follow those before it, and the last one too is no order without its reply
  pub legal : Legal (fresh limit pace) (reverse trace)
  pub finished : IsFinished (reverse trace)
  pub proper : SendsAllProper (reverse trace)
  pub asked : AsksAllProper (reverse trace)
  -- each frame, record and saying is what the plan of the session at hand asks for, and so an order takes no more
  -- work than its limit, and is said in time
  pub planned : ByPlan (fresh limit pace) (reverse trace)
  pub worked : IsWorked (fresh limit pace) (reverse trace)
  pub said : (newer middle older : List Event) → reverse all ≡ newer ++ (middle ++ older)
      → SaysInTime (fresh limit pace) newer middle older (reverse trace)
  -- the trace is the joined parts of the events
  pub parts : AreParts (fresh limit pace) (reverse all) (reverse trace)
  -- the journal's bytes are those of the records that were kept, and its orders are the taken ones (which follows from
  -- the trace being legal, by the law the_taken_orders_are_kept; it is repeated here for readers of a run alone)
  pub journal_is : journal ≡ journal_spelling Two (records_of (fresh limit pace) (reverse trace))
  pub taken : begun_orders (records_of (fresh limit pace) (reverse trace)) ≡ taken_orders (reverse trace)
  pub leads : LeadsRight world step limit pace first (reverse trace) last

-- A run of these events that ended for want of memory, from the first state of the bus to the last: `served` events
-- were served, as in any run.
pub record IsCutShort {S : Type 0} (world : S → World) (step : S → BusEvent → S → Type 0) (limit : ℕ) (pace : Pace)
    (all : List Event)
    (first last : S) : Type 0 where
  pub past : List Happening
  pub served : ℕ
  pub parts : AreParts (fresh limit pace) (reverse (take served all)) past
  pub legal : Legal (fresh limit pace) past
  pub planned : ByPlan (fresh limit pace) past
  pub leads : LeadsRight world step limit pace first past last

-- The parts that a scenario sets up: units, fates and events, and why one is refused.
use Rattle.std.specs.Prelude.{◌≡◌, ◌≢◌, ◌+◌, ◌≤◌, ℕ, List, [], ◌∷◌, ◌++◌, length, map, replicate, ⊤}
use Rattle.std.specs.List.{AllByRecursion, flat_map}
use Rattle.dali_bank.specs.Order.{Contents}
use Rattle.dali_gear.specs.declared.fate.Fate.{Fate}
use Rattle.dali_gear.specs.declared.fault.GearFault.{GearFault}
use Rattle.dali_gear.specs.declared.fault.GearFault.TheVariants.{NoMemory}
use Rattle.dali_gear.specs.Faults.{IsBank, AreFixed, IsUnitFault}
use Rattle.dali_gear.specs.SimState.{AreApart}
use Rattle.dali_gear.specs.UnitState.{UnitState, new_unit}
use Rattle.dali_trace.specs.declared.happening.Event.{Event}
use Rattle.dali_trace.specs.declared.happening.Event.TheVariants as events
use Rattle.serde_json.specs.Data.{Data}
use Rattle.dali_input.specs.declared.fault.InputFault.TheVariants.{TooBig, Memory}
use Rattle.dali_input.specs.declared.item.ItemFault.{ItemFault}
use Rattle.dali_input.specs.declared.scenario.FatePlan.{FatePlan}
use Rattle.dali_input.specs.declared.command_fault.Fault.{Fault}
use Rattle.dali_input.specs.declared.command_fault.Fault.TheVariants as faults
use Rattle.dali_input.specs.Items.{IsOrderOf, IsFaultOf}
use Rattle.dali_input.specs.Scenario.{PlannedUnit, PlannedEvent, submit, steps, stop, power, Planned, IsSmall}

-- ---- units

-- the unit can be made
pub record IsMakeable (unit : PlannedUnit) : Type 0 where
  pub short : unit.address ≤ 63
  pub bank : IsBank unit.bank
  pub fixed : AreFixed unit.bank unit.fixed

-- a new unit with these registers
abbrev pub made_unit : PlannedUnit → UnitState
made_unit unit =
    record (new_unit unit.address unit.bank unit.fixed) { dtr0 = unit.dtrs.0; dtr1 = unit.dtrs.1; dtr2 = unit.dtrs.2 }

-- each unit is made, in their order
pub record AreUnits (planned : List PlannedUnit) (units : List UnitState) : Type 0 where
  pub makeable : AllByRecursion IsMakeable planned
  pub made : units ≡ map made_unit planned

-- the first unit that can't be made, counted from 1, and why
pub record IsFirstUnitFault (planned : List PlannedUnit) (number : ℕ) (fault : GearFault) : Type 0 where
  pub front : List PlannedUnit
  pub unit : PlannedUnit
  pub behind : List PlannedUnit
  pub split : planned ≡ front ++ unit ∷ behind
  pub counted : number ≡ length front + 1
  pub makeable : AllByRecursion IsMakeable front
  pub refused : IsUnitFault unit.address unit.bank unit.fixed fault
  pub not_memory : fault ≢ NoMemory

-- each unit can be made, and two of them are at one address
pub record AreTogether (planned : List PlannedUnit) : Type 0 where
  pub units : List UnitState
  pub made : AreUnits planned units
  pub together : ¬ AreApart units

-- why the units aren't made; want of memory may come at any
abbrev pub IsUnitRefusal : List PlannedUnit → Fault → Type 0
IsUnitRefusal planned (faults.Input Memory) = ⊤
IsUnitRefusal planned (faults.Unit number fault) = IsFirstUnitFault planned number fault
IsUnitRefusal planned faults.SameAddress = AreTogether planned
IsUnitRefusal planned other = ⊥

-- ---- fates

-- the fates of the frames: each as often as it stands for
abbrev pub fates_of : List FatePlan → List Fate
fates_of plans = flat_map (λ plan. replicate plan.times plan.fate) plans

-- ---- events

-- the events: a submission at its moment for an order, as many steps as are made, a stop for a stop, a loss of power
-- for one
abbrev pub AreEvents : List PlannedEvent → List Event → Type 0
AreEvents [] all = all ≡ []
AreEvents (submit source moment ∷ planned) all = (order : Contents) × (rest : List Event)
    × IsOrderOf source order × AreEvents planned rest × (all ≡ events.Submit order moment ∷ rest)
AreEvents (steps count ∷ planned) all =
    (rest : List Event) × AreEvents planned rest × (all ≡ replicate count events.Step ++ rest)
AreEvents (stop bytes ∷ planned) all = (rest : List Event) × AreEvents planned rest × (all ≡ events.Stop bytes ∷ rest)
AreEvents (power address ∷ planned) all =
    (rest : List Event) × AreEvents planned rest × (all ≡ events.Power address ∷ rest)

-- the first event with an order that is refused, counted from 1, and why
pub record IsFirstOrderFault (planned : List PlannedEvent) (number : ℕ) (fault : ItemFault) : Type 0 where
  pub front : List PlannedEvent
  pub source : Data
  pub moment : ℕ
  pub behind : List PlannedEvent
  pub split : planned ≡ front ++ submit source moment ∷ behind
  pub counted : number ≡ length front + 1
  pub accepted : (all : List Event) × AreEvents front all
  pub refused : IsFaultOf source fault

-- why the events aren't made; want of memory may come at any
abbrev pub IsOrderRefusal : List PlannedEvent → Fault → Type 0
IsOrderRefusal planned (faults.Input Memory) = ⊤
IsOrderRefusal planned (faults.Order number fault) = IsFirstOrderFault planned number fault
IsOrderRefusal planned other = ⊥

-- ---- the whole

-- each unit has an address of its own
pub record IsBus (planned : Planned) (units : List UnitState) : Type 0 where
  pub small : IsSmall planned
  pub made : AreUnits planned.units units
  pub apart : AreApart units

-- what is set up: the units, the fates of their frames, and the events
pub record IsSetUp (planned : Planned) (units : List UnitState) (fates : List Fate) (all : List Event) : Type 0 where
  pub bus : IsBus planned units
  pub fates_are : fates ≡ fates_of planned.fates
  pub events : AreEvents planned.events all

-- there is a bus of the units
pub record HasBus (planned : Planned) : Type 0 where
  pub units : List UnitState
  pub bus : IsBus planned units

-- why a scenario can't be set up: the first of these that applies, in this order; want of memory may come at any
abbrev pub IsSetupRefused : Planned → Fault → Type 0
IsSetupRefused planned (faults.Input TooBig) = ¬ IsSmall planned
IsSetupRefused planned (faults.Input Memory) = ⊤
IsSetupRefused planned (faults.Input fault) = ⊥
IsSetupRefused planned (faults.Unit number fault) = IsSmall planned × IsFirstUnitFault planned.units number fault
IsSetupRefused planned faults.SameAddress = IsSmall planned × AreTogether planned.units
IsSetupRefused planned (faults.Order number fault) = HasBus planned × IsFirstOrderFault planned.events number fault
IsSetupRefused planned other = ⊥

-- Lemmas on what a scenario sets up.
use Rattle.std.proofs.Common.{◌≡◌, ◌≢◌, ◌<◌, ◌+◌, ℕ, suc, Bool, true, false, Option, Some, None, List, [], ◌∷◌, ◌++◌}
use Rattle.std.proofs.Common.{length, get_or, map, take, drop, replicate, append_assoc, arith, refl, sym, subst, ap, ◌∙◌}
use Rattle.std.specs.Prelude.{◌==◌, if◌then◌else◌}
use Rattle.std.specs.List.{AllByRecursion}
use Rattle.std.proofs.lemmas.Bool.{eqb-false, ne_eqb}
use Rattle.std.proofs.Math.Seq.{split_at}
use Rattle.std.proofs.lemmas.List.{take_more, map-append, length-map, length-take-le}
use Rattle.dali_gear.specs.declared.fault.GearFault.{GearFault}
use Rattle.dali_gear.specs.declared.fault.GearFault.TheVariants.{NoMemory}
use Rattle.dali_gear.specs.Faults.{IsUnitFault}
use Rattle.dali_gear.specs.SimState.{world_of, AreApart}
use Rattle.dali_bus.specs.Unenabled.{NoneEnabled}
use Rattle.dali_gear.specs.UnitState.{UnitState, gear_of}
use Rattle.dali_bus.specs.World.{Gear}
use Rattle.dali_bus.proofs.OpenLemmas.{is_open}
use Rattle.dali_trace.specs.declared.happening.Event.{Event}
use Rattle.dali_trace.specs.declared.happening.Event.TheVariants as events
use Rattle.serde_json.specs.Data.{Data}
use Rattle.dali_input.specs.declared.item.ItemFault.{ItemFault}
use Rattle.dali_input.specs.declared.scenario.UnitPlan.{UnitPlan}
use Rattle.dali_input.specs.declared.scenario.EventPlan.{EventPlan}
use Rattle.dali_input.specs.Items.{IsFaultOf}
use Rattle.dali_input.specs.Scenario.{PlannedUnit, PlannedEvent, submit, steps, stop, power}
use Rattle.dali_input.specs.Scenario.{unit_planned}
use Rattle.dali_input.specs.Scenario.{event_of}
use Rattle.dali_input.specs.Setup.{IsMakeable, made_unit, AreUnits, IsFirstUnitFault, AreEvents}
use Rattle.dali_input.specs.Setup.{IsFirstOrderFault, AreTogether}
use Rattle.dali_bank.proofs.ListLemmas.{all_one_more}

-- the plans up to one more
one_more : {X Y : Type 0} (f : X → Y) (xs : List X) (i : ℕ) (x : X) → i < length xs → x ≡ get_or xs i x
    → map f (take (i + 1) xs) ≡ map f (take i xs) ++ f x ∷ []
one_more f xs i x within is =
    ap (map f) (take_more xs i x within ∙ ap (λ y. take i xs ++ y ∷ []) (sym is)) ∙ map-append f (take i xs) (x ∷ [])

-- and all of them, around one
around : {X Y : Type 0} (f : X → Y) (xs : List X) (i : ℕ) (x : X) → i < length xs → x ≡ get_or xs i x
    → map f xs ≡ map f (take i xs) ++ f x ∷ map f (drop (suc i) xs)
around f xs i x within is =
    ap (map f) (split_at xs i x within ∙ ap (λ y. take i xs ++ y ∷ drop (suc i) xs) (sym is))
    ∙ map-append f (take i xs) (x ∷ drop (suc i) xs)

counted_at : {X Y : Type 0} (f : X → Y) (xs : List X) (i number : ℕ) → i < length xs → number ≡ i
    → number + 1 ≡ length (map f (take i xs)) + 1
counted_at f xs i number within counted = rw (length-map, length-take-le i xs (omega (arith, within)), counted) refl

-- one unit more is made
pub units_more : (plans : List UnitPlan) (i : ℕ) (plan : UnitPlan) (units : List UnitState) → i < length plans
    → plan ≡ get_or plans i plan
    → AreUnits (map unit_planned (take i plans)) units → IsMakeable (unit_planned plan)
    → AreUnits (map unit_planned (take (i + 1) plans)) (units ++ made_unit (unit_planned plan) ∷ [])
units_more plans i plan units within is made makeable = rw (one_more unit_planned plans i plan within is) (record {
  makeable = all_one_more IsMakeable (map unit_planned (take i plans)) (unit_planned plan) made.makeable makeable;
  made =
      ap (λ us. us ++ made_unit (unit_planned plan) ∷ []) made.made
      ∙ sym (map-append made_unit (map unit_planned (take i plans)) (unit_planned plan ∷ []));
})

-- units of which the last has an address that none before it has
free_before : (units : List UnitState) (last : UnitState) (address : ℕ) → world_of (units ++ last ∷ []) address ≡ None
    → (world_of units address ≡ None) × ((address == last.address) ≡ false)
free_before [] last address free = (refl, elsewhere (address == last.address) free)
  where
    elsewhere : (here : Bool) → (if here then Some (gear_of last) else None) ≡ None → here ≡ false
    elsewhere true free = cc
    elsewhere false free = refl
free_before (unit ∷ units) last address free =
    at_first (address == unit.address) (free_before units last address) free
  where
    Tells : Option Gear → Type 0
    Tells there = (there ≡ None) × ((address == last.address) ≡ false)

    at_first : (here : Bool) → (world_of (units ++ last ∷ []) address ≡ None → Tells (world_of units address))
        → (if here then Some (gear_of unit) else world_of (units ++ last ∷ []) address) ≡ None
        → Tells (if here then Some (gear_of unit) else world_of units address)
    at_first true rest free = cc
    at_first false rest free = rest free

apart_before : (units : List UnitState) (last : UnitState) → AreApart (units ++ last ∷ [])
    → AreApart units × (world_of units last.address ≡ None)
apart_before [] last apart = (tt, refl)
apart_before (unit ∷ units) last apart =
    let (before, free) = apart_before units last apart.1 in
    let (alone, other) = free_before units last unit.address apart.0 in
    let elsewhere : (last.address == unit.address) ≡ false =
    ne_eqb last.address unit.address (λ e. eqb-false unit.address last.address other (sym e)) in
    ((alone, before), rw elsewhere free)

-- the units so far: each can be made, and they are held as long as they are apart
abbrev pub SoFar : List PlannedUnit → Bool → List UnitState → Type 0
SoFar planned true units = AreUnits planned units
SoFar planned false units = AreTogether planned

pub all_makeable : (planned : List PlannedUnit) (are_apart : Bool) (units : List UnitState)
    → SoFar planned are_apart units → AllByRecursion IsMakeable planned
all_makeable planned true units so_far = so_far.makeable
all_makeable planned false units so_far = so_far.made.makeable

-- one unit more, held only if all are apart
pub one_held : (plans : List UnitPlan) (i : ℕ) (plan : UnitPlan) (are_apart held : Bool) (units after : List UnitState)
    (unit : UnitState)
    → i < length plans → plan ≡ get_or plans i plan
    → SoFar (map unit_planned (take i plans)) are_apart units → IsMakeable (unit_planned plan)
    → unit ≡ made_unit (unit_planned plan)
    → (held ≡ true → (are_apart ≡ true) × (after ≡ units ++ unit ∷ []))
    → (held ≡ false → are_apart ≡ true → world_of units unit.address ≢ None)
    → SoFar (map unit_planned (take (i + 1) plans)) held after
one_held plans i plan true true units after unit within is so_far makeable made apart together =
    rw ((apart refl).1, made) (units_more plans i plan units within is so_far makeable)
one_held plans i plan false true units after unit within is so_far makeable made apart together =
    let clash : false ≡ true = (apart refl).0 in cc
one_held plans i plan true false units after unit within is so_far makeable made apart together = record {
  units = units ++ made_unit (unit_planned plan) ∷ [];
  made = units_more plans i plan units within is so_far makeable;
  together = λ all. subst (λ (u : UnitState). world_of units u.address ≢ None) made (together refl refl)
      (apart_before units (made_unit (unit_planned plan)) all).1;
}
one_held plans i plan false false units after unit within is so_far makeable made apart together = record {
  units = so_far.units ++ made_unit (unit_planned plan) ∷ [];
  made = units_more plans i plan so_far.units within is so_far.made makeable;
  together = λ all. so_far.together (apart_before so_far.units (made_unit (unit_planned plan)) all).0;
}

-- a unit can't be made, and those before it can
pub first_unit_fault : (plans : List UnitPlan) (i number : ℕ) (plan : UnitPlan) (fault : GearFault)
    → i < length plans → plan ≡ get_or plans i plan → number ≡ i
    → AllByRecursion IsMakeable (map unit_planned (take i plans))
    → IsUnitFault plan.address plan.bank.items plan.fixed.items fault
    → fault ≢ NoMemory → IsFirstUnitFault (map unit_planned plans) (number + 1) fault
first_unit_fault plans i number plan fault within is counted makeable refused not_memory = record {
  front = map unit_planned (take i plans);
  unit = unit_planned plan;
  behind = map unit_planned (drop (suc i) plans);
  split = around unit_planned plans i plan within is;
  counted = counted_at unit_planned plans i number within counted;
  makeable = makeable;
  refused = refused;
  not_memory = not_memory;
}

-- ---- events

events_more : (front : List PlannedEvent) (last : PlannedEvent) (all more : List Event) → AreEvents front all
    → AreEvents (last ∷ []) more → AreEvents (front ++ last ∷ []) (all ++ more)
events_more [] last all more are is = rw are is
events_more (submit source moment ∷ front) last all more are is =
    (are.0, are.1 ++ more, are.2, events_more front last are.1 more are.3 is, ap (λ es. es ++ more) are.4)
events_more (steps count ∷ front) last all more are is = (
  are.0 ++ more,
  events_more front last are.0 more are.1 is,
  ap (λ es. es ++ more) are.2 ∙ append_assoc (replicate count events.Step) are.0 more,
)
events_more (stop bytes ∷ front) last all more are is =
    (are.0 ++ more, events_more front last are.0 more are.1 is, ap (λ es. es ++ more) are.2)
events_more (power address ∷ front) last all more are is =
    (are.0 ++ more, events_more front last are.0 more are.1 is, ap (λ es. es ++ more) are.2)

-- what one plan more adds
pub more_events : (plans : List EventPlan) (i : ℕ) (plan : EventPlan) (all more : List Event) (last : PlannedEvent)
    → i < length plans → plan ≡ get_or plans i plan → event_of plan ≡ last
    → AreEvents (map event_of (take i plans)) all → AreEvents (last ∷ []) more
    → AreEvents (map event_of (take (i + 1) plans)) (all ++ more)
more_events plans i plan all more last within is plans_it are adds =
    rw (one_more event_of plans i plan within is, plans_it)
    (events_more (map event_of (take i plans)) last all more are adds)

-- an order is refused, and those before it aren't
pub first_order_fault : (plans : List EventPlan) (i number : ℕ) (plan : EventPlan) (all : List Event) (source : Data)
    (moment : ℕ) (fault : ItemFault)
    → i < length plans → plan ≡ get_or plans i plan → number ≡ i
    → event_of plan ≡ submit source moment → AreEvents (map event_of (take i plans)) all → IsFaultOf source fault
    → IsFirstOrderFault (map event_of plans) (number + 1) fault
first_order_fault plans i number plan all source moment fault within is counted submits are refused = record {
  front = map event_of (take i plans);
  source = source;
  moment = moment;
  behind = map event_of (drop (suc i) plans);
  split =
      subst (λ e. map event_of plans ≡ map event_of (take i plans) ++ e ∷ map event_of (drop (suc i) plans)) submits
      (around event_of plans i plan within is);
  counted = counted_at event_of plans i number within counted;
  accepted = (all, are);
  refused = refused;
}

-- ---- why nothing is set up

-- ---- units at first

none_at : (unit : PlannedUnit) (here : Bool) (rest : Option Gear) → is_open rest ≡ false
    → is_open (if here then Some (gear_of (made_unit unit)) else rest) ≡ false
none_at unit true rest none = refl
none_at unit false rest none = none

none_in : (units : List PlannedUnit) (address : ℕ) → is_open (world_of (map made_unit units) address) ≡ false
none_in [] address = refl
none_in (unit ∷ units) address =
    none_at unit (address == unit.address) (world_of (map made_unit units) address) (none_in units address)

-- no new unit is write-enabled
pub none_enabled : (planned : List PlannedUnit) (units : List UnitState) → AreUnits planned units
    → NoneEnabled (world_of units)
none_enabled planned units are = λ address. rw are.made (none_in planned address)

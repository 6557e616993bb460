-- Which fault of a scenario comes first if there are two: one of its units before one of its orders.
use Rattle.std.proofs.Common.{ℕ, List, [], ◌∷◌, refl, sym, subst, ◌∙◌, arith}
use Rattle.dali_write.specs.declared.pace.Pace.TheVariants.{Checked}
use Rattle.dali_gear.specs.SimState.{AreApart}
use Rattle.dali_gear.specs.UnitState.{UnitState}
use Rattle.dali_gear.specs.declared.fault.GearFault.TheVariants.{Address}
use Rattle.dali_input.specs.declared.item.ItemFault.{ItemFault}
use Rattle.dali_input.specs.declared.command_fault.Fault.TheVariants as faults
use Rattle.dali_input.specs.Scenario.{PlannedUnit, PlannedEvent, Planned}
use Rattle.dali_input.specs.Setup.{AreTogether, IsFirstUnitFault, HasBus, IsSetupRefused}

-- a unit at short address 64, which there isn't
abbrev far_unit : PlannedUnit
far_unit = record { address = 64; bank = []; fixed = []; dtrs = (0, 0, 0) }

-- with it alone, and whatever events
abbrev one_far : List PlannedEvent → Planned
one_far events = record { limit = 1; pace = Checked; units = far_unit ∷ []; fates = []; events = events }

pub told_as_its_fault : (events : List PlannedEvent) → IsFirstUnitFault (one_far events).units 1 Address
told_as_its_fault events = record {
  front = [];
  unit = far_unit;
  behind = [];
  split = refl;
  counted = refl;
  makeable = tt;
  refused = omega arith;
  not_memory = λ is. cc;
}

pub not_as_an_order : (events : List PlannedEvent) (number : ℕ) (fault : ItemFault)
    → IsSetupRefused (one_far events) (faults.Order number fault) → ⊥
not_as_an_order events number fault refused = no_bus refused.0 where
  no_bus : HasBus (one_far events) → ⊥
  no_bus has = omega (arith, has.bus.made.makeable.0.short)

-- nor where two units are at one address
pub not_as_an_order_where_two_are_together : (planned : Planned) (number : ℕ) (fault : ItemFault)
    → AreTogether planned.units → IsSetupRefused planned (faults.Order number fault) → ⊥
not_as_an_order_where_two_are_together planned number fault two refused = no_bus refused.0 where
  no_bus : HasBus planned → ⊥
  no_bus has =
      let made = has.bus.made.made ∙ sym two.made.made in
      two.together (subst (λ (units : List UnitState). AreApart units) made has.bus.apart)

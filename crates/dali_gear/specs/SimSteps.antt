-- Each step of the simulated bus is one that its units may make: lemmas, of which the last says it.
--
-- They are in specs/ since the bus's law cites it.
use Rattle.std.proofs.Common.{◌≡◌, ℕ, Bool, true, false, List, [], ◌∷◌, map, Option, Some, None, inl, inr, refl, sym}
use Rattle.std.proofs.Common.{subst, ◌∙◌, ◌≢◌}
use Rattle.std.specs.Prelude.{◌==◌, slice_get, if◌then◌else◌}
use Rattle.std.specs.List.{filter_map, cons_option}
use Rattle.std.proofs.lemmas.Bool.{eqb-true, eqb-false, eq-eqb, ne_eqb}
use Rattle.std.specs.Prelude.{IfSome}
use Rattle.dali_frame.specs.declared.forward.Frame.{Frame}
use Rattle.dali_frame.specs.declared.forward.Frame.TheVariants.{Dtr0, Dtr1, Dtr2, Write, WriteSilent, Enable, AskDtr0}
use Rattle.dali_frame.specs.declared.forward.Frame.TheVariants.{AskDtr1, AskDtr2, Read, Other}
use Rattle.dali_gear.specs.declared.fate.Fate.{Fate}
use Rattle.dali_gear.specs.Fate.{is_lost, next_fate}
use Rattle.dali_gear.specs.UnitState.{UnitState, with_byte, has_bank, carries_out, stores, after_frame, answer_to}
use Rattle.dali_gear.specs.UnitState.{gear_of, powered_up}
use Rattle.dali_bus.specs.Hears.{Hears, up}
use Rattle.dali_gear.specs.SimState.{SimState, SimCarry, SimStep, world_of, AreApart, unit_after, unit_answer}
use Rattle.dali_gear.specs.SimState.{bus_answer, unit_powered}
use Rattle.dali_bus.specs.World.{Gear, IfThere}
use Rattle.dali_bus.specs.Power.{LosesPower, PowersUp}
use Rattle.dali_bus.specs.Carry.{BusEvent, Carried, Powered, WorldStep, Carry, MayHear, Answered}
use Rattle.dali_gear.specs.UnitHears.{unit_hears, unit_powers_up}

-- a write keeps the address
write_keeps : (unit : UnitState) (byte : ℕ) (carried done first : Bool)
    → (if carried
    then record (if done
    then (if first
    then record unit { bank1 = with_byte unit.bank1 unit.dtr0 byte }
    else record unit { bank2 = with_byte unit.bank2 unit.dtr0 byte })
    else unit) { dtr0 = up unit.dtr0 }
    else unit).address
    ≡ unit.address
write_keeps unit byte true true true = refl
write_keeps unit byte true true false = refl
write_keeps unit byte true false first = refl
write_keeps unit byte false done first = refl

read_keeps : (unit : UnitState) (mine has : Bool)
    → (if mine
    then (if has then record unit { enabled = false; dtr0 = up unit.dtr0 } else record unit { enabled = false })
    else unit).address
    ≡ unit.address
read_keeps unit true true = refl
read_keeps unit true false = refl
read_keeps unit false has = refl

enable_keeps : (unit : UnitState) (mine half : Bool)
    → (if mine
    then (if half then record unit { enabled = true; half_pair = false } else record unit { half_pair = true })
    else record unit { half_pair = false }).address
    ≡ unit.address
enable_keeps unit true true = refl
enable_keeps unit true false = refl
enable_keeps unit false half_pair = refl

-- a frame keeps the address
pub frame_keeps : (refuses : Bool) (unit : UnitState) (frame : Frame)
    → (after_frame refuses unit frame).address ≡ unit.address
frame_keeps refuses unit (Dtr0 byte) = refl
frame_keeps refuses unit (Dtr1 byte) = refl
frame_keeps refuses unit (Dtr2 byte) = refl
frame_keeps refuses unit (Write byte) =
    write_keeps (record unit { half_pair = false }) byte (carries_out unit) (stores refuses unit) (unit.dtr1 == 1)
frame_keeps refuses unit (WriteSilent byte) =
    write_keeps (record unit { half_pair = false }) byte (carries_out unit) (stores refuses unit) (unit.dtr1 == 1)
frame_keeps refuses unit (Enable to) = enable_keeps unit (to == unit.address) unit.half_pair
frame_keeps refuses unit (AskDtr0 to) = refl
frame_keeps refuses unit (AskDtr1 to) = refl
frame_keeps refuses unit (AskDtr2 to) = refl
frame_keeps refuses unit (Read to) =
    read_keeps (record unit { half_pair = false }) (to == unit.address) (has_bank unit.dtr1)
frame_keeps refuses unit (Other word) = refl

-- and so it does under any fate
pub fate_keeps : (fate : Fate) (frame : Frame) (unit : UnitState) → (unit_after fate frame unit).address ≡ unit.address
fate_keeps fate frame unit =
    elim (is_lost fate unit.address)
    as (λ b. (if b then unit else after_frame fate.refuse unit frame).address ≡ unit.address) [
      | true ↦ refl
      | false ↦ frame_keeps fate.refuse unit frame
    ]

-- a unit of the bus, after the frame or without it
unit_may : (fate : Fate) (frame : Frame) (unit : UnitState)
    → MayHear unit.address (Some (gear_of unit)) frame (Some (gear_of (unit_after fate frame unit)))
unit_may fate frame unit =
    elim (is_lost fate unit.address) as (λ b. MayHear unit.address (Some (gear_of unit)) frame
    (Some (gear_of (if b then unit else after_frame fate.refuse unit frame)))) [
      | true ↦ inl refl
      | false ↦ inr (answer_to fate.refuse unit frame, unit_hears fate.refuse unit frame)
    ]

-- a unit and the rest of them, at an address
first_may : (fate : Fate) (frame : Frame) (unit : UnitState) (old new : Option Gear) (address : ℕ) (mine : Bool)
    → (address == unit.address) ≡ mine
    → MayHear address old frame new
    → MayHear address (if mine then Some (gear_of unit) else old) frame
    (if mine then Some (gear_of (unit_after fate frame unit)) else new)
first_may fate frame unit old new address true e rest = rw (eqb-true address unit.address e) (unit_may fate frame unit)
first_may fate frame unit old new address false e rest = rest

-- the units, address by address
units_may : (fate : Fate) (frame : Frame) (units : List UnitState) (address : ℕ)
    → MayHear address (world_of units address) frame (world_of (map (unit_after fate frame) units) address)
units_may fate frame [] address = tt
units_may fate frame (unit ∷ units) address =
    rw (fate_keeps fate frame unit)
    (first_may fate frame unit _ _ address (address == unit.address) refl (units_may fate frame units address))

-- a unit that answered this byte
record Answerer (fate : Fate) (frame : Frame) (units : List UnitState) (byte : ℕ) : Type 0 where
  unit : UnitState
  was : world_of units unit.address ≡ Some (gear_of unit)
  is : world_of (map (unit_after fate frame) units) unit.address ≡ Some (gear_of (unit_after fate frame unit))
  answers : unit_answer fate frame unit ≡ Some byte

-- the unit at the head
at_head : (fate : Fate) (frame : Frame) (unit : UnitState) (units : List UnitState) (byte : ℕ)
    → unit_answer fate frame unit ≡ Some byte
    → Answerer fate frame (unit ∷ units) byte
at_head fate frame unit units byte e =
    record {
      unit = unit;
      was = rw (eq-eqb unit.address unit.address refl) refl;
      is = rw (fate_keeps fate frame unit, eq-eqb unit.address unit.address refl) refl;
      answers = e;
    }

-- a unit further on
further : (fate : Fate) (frame : Frame) (unit : UnitState) (units : List UnitState) (byte : ℕ)
    → world_of units unit.address ≡ None
    → Answerer fate frame units byte → Answerer fate frame (unit ∷ units) byte
further fate frame unit units byte free found =
    let other : (found.unit.address == unit.address) ≡ false
    = ne_eqb found.unit.address unit.address
    (λ e.
    let P : ℕ → Type 0 = λ a. world_of units a ≡ Some (gear_of found.unit) in
    let h : world_of units unit.address ≡ Some (gear_of found.unit) = subst P e found.was in cc) in
    record {
      unit = found.unit;
      was = rw other found.was;
      is = rw (fate_keeps fate frame unit, other) found.is;
      answers = found.answers;
    }

-- the first of the answers is that of a unit, at its first or further on
found_in : (fate : Fate) (frame : Frame) (unit : UnitState) (units : List UnitState) (byte : ℕ)
    → world_of units unit.address ≡ None
    → (answer : Option ℕ) → unit_answer fate frame unit ≡ answer
    → (slice_get (filter_map (unit_answer fate frame) units) 0 ≡ Some byte → Answerer fate frame units byte)
    → slice_get (cons_option answer (filter_map (unit_answer fate frame) units)) 0 ≡ Some byte
    → Answerer fate frame (unit ∷ units) byte
found_in fate frame unit units byte free (Some other) e rest h = at_head fate frame unit units byte (e ∙ h)
found_in fate frame unit units byte free None e rest h = further fate frame unit units byte free (rest h)

-- the first of the answers is that of a unit
found_first : (fate : Fate) (frame : Frame) (units : List UnitState) (byte : ℕ) → AreApart units
    → slice_get (filter_map (unit_answer fate frame) units) 0 ≡ Some byte → Answerer fate frame units byte
found_first fate frame [] byte apart h = cc
found_first fate frame (unit ∷ units) byte apart h =
    found_in fate frame unit units byte apart.0 (unit_answer fate frame unit) refl
    (found_first fate frame units byte apart.1) h

came_back : (lost one : Bool) (first : Option ℕ) (byte : ℕ)
    → Some byte ≡ (if lost then None else (if one then first else None)) → first ≡ Some byte
came_back true one first byte h = cc
came_back false true first byte h = sym h
came_back false false first byte h = cc

heard : (fate : Fate) (frame : Frame) (unit : UnitState) (byte : ℕ) (lost : Bool)
    → (if lost then None else answer_to fate.refuse unit frame) ≡ Some byte
    → Hears unit.address (gear_of unit) frame (Some byte)
    (gear_of (if lost then unit else after_frame fate.refuse unit frame))
heard fate frame unit byte true h = cc
heard fate frame unit byte false h =
    let P : Option ℕ → Type 0 =
    λ o. Hears unit.address (gear_of unit) frame o (gear_of (after_frame fate.refuse unit frame)) in
    subst P h (unit_hears fate.refuse unit frame)

answerer_answered : (fate : Fate) (frame : Frame) (units : List UnitState) (byte : ℕ) → Answerer fate frame units byte
    → Answered (world_of units) frame byte (world_of (map (unit_after fate frame) units))
answerer_answered fate frame units byte found =
    record {
      address = found.unit.address;
      before = gear_of found.unit;
      after = gear_of (unit_after fate frame found.unit);
      was = found.was;
      is = found.is;
      hears = heard fate frame found.unit byte (is_lost fate found.unit.address) found.answers;
    }

may_answer : (fate : Fate) (frame : Frame) (units : List UnitState) (answer : Option ℕ) → AreApart units
    → answer ≡ bus_answer fate (filter_map (unit_answer fate frame) units)
    → IfSome answer (λ byte. Answered (world_of units) frame byte (world_of (map (unit_after fate frame) units)))
may_answer fate frame units None apart h = tt
may_answer fate frame units (Some byte) apart h =
    answerer_answered fate frame units byte
    (found_first fate frame units byte apart (came_back fate.answer_lost _ _ byte h))

-- a frame on the simulated bus
sim_carry-allowed : (old : SimState) (frame : Frame) (answer : Option ℕ) (new : SimState)
    → SimCarry old frame answer new
    → Carry (world_of old.units) frame answer (world_of new.units)
sim_carry-allowed old frame answer new step =
    rw step.units
    record {
      units = units_may (next_fate old.fates) frame old.units;
      answers = may_answer (next_fate old.fates) frame old.units answer step.apart step.answers;
    }

-- a loss of power keeps the address
pub power_keeps : (address : ℕ) (unit : UnitState) → (unit_powered address unit).address ≡ unit.address
power_keeps address unit =
    elim (unit.address == address) as (λ b. (if b then powered_up unit else unit).address ≡ unit.address) [
      | true ↦ refl
      | false ↦ refl
    ]

-- the unit at the address, if it is among these
powered_there : (address : ℕ) (units : List UnitState)
    → IfThere PowersUp (world_of units address) (world_of (map (unit_powered address) units) address)
powered_there address [] = tt
powered_there address (unit ∷ units) =
    rw (power_keeps address unit)
    (by (unit.address == address) (address == unit.address) refl refl (powered_there address units))
  where
    by : (mine same : Bool) → (unit.address == address) ≡ mine → (address == unit.address) ≡ same
        → IfThere PowersUp (world_of units address) (world_of (map (unit_powered address) units) address)
        → IfThere PowersUp (if same then Some (gear_of unit) else world_of units address)
        (if same
        then Some (gear_of (if mine then powered_up unit else unit))
        else world_of (map (unit_powered address) units) address)
    by true true e f rest = unit_powers_up unit
    by false true e f rest = absurd (eqb-false unit.address address e (sym (eqb-true address unit.address f)))
    by mine false e f rest = rest

-- and any other
powered_elsewhere : (address : ℕ) (units : List UnitState) (other : ℕ) → other ≢ address
    → world_of (map (unit_powered address) units) other ≡ world_of units other
powered_elsewhere address [] other apart = refl
powered_elsewhere address (unit ∷ units) other apart =
    rw (power_keeps address unit)
    (by (unit.address == address) (other == unit.address) refl refl (powered_elsewhere address units other apart))
  where
    by : (mine same : Bool) → (unit.address == address) ≡ mine → (other == unit.address) ≡ same
        → world_of (map (unit_powered address) units) other ≡ world_of units other
        → (if same
        then Some (gear_of (if mine then powered_up unit else unit))
        else world_of (map (unit_powered address) units) other)
        ≡ (if same then Some (gear_of unit) else world_of units other)
    by true true e f rest = absurd (apart (eqb-true other unit.address f ∙ eqb-true unit.address address e))
    by false true e f rest = refl
    by mine false e f rest = rest

-- if those at an address lose their power, that is what the world may do
pub lose_power : (address : ℕ) (units : List UnitState)
    → LosesPower (world_of units) address (world_of (map (unit_powered address) units))
lose_power address units =
    record { there = powered_there address units; others = λ other apart. powered_elsewhere address units other apart }

-- each step of the simulated bus is one that its units may make
pub sim_step-allowed : (old : SimState) (event : BusEvent) (new : SimState) → SimStep old event new
    → WorldStep (world_of old.units) event (world_of new.units)
sim_step-allowed old (Carried frame answer) new step = sim_carry-allowed old frame answer new step
sim_step-allowed old (Powered address) new step = rw step.units (lose_power address old.units)

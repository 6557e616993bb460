-- The state of the simulated bus, and the effect on it of each frame and of a loss of power.
use Rattle.std.specs.Prelude.{◌≡◌, ℕ, ◌==◌, List, [], ◌∷◌, map, length, slice_get, Option, Some, None, ⊤, if◌then◌else◌}
use Rattle.std.specs.List.{filter_map, AllByRecursion}
use Rattle.std.specs.Prelude.{drop}
use Rattle.dali_frame.specs.declared.forward.Frame.{Frame}
use Rattle.dali_gear.specs.declared.fate.Fate.{Fate}
use Rattle.dali_gear.specs.Fate.{is_lost, next_fate}
use Rattle.dali_gear.specs.UnitState.{UnitState, after_frame, answer_to, gear_of, powered_up}
use Rattle.dali_gear.specs.Faults.{IsBank}
use Rattle.dali_bus.specs.World.{World}
use Rattle.dali_bus.specs.Carry.{BusEvent, Carried, Powered}

-- its units, and the fates that are left
pub record SimState : Type 0 where
  pub units : List UnitState
  pub fates : List Fate

-- the world of these units: at each address the first one there
abbrev pub world_of : List UnitState → World
world_of [] address = None
world_of (unit ∷ units) address = if address == unit.address then Some (gear_of unit) else world_of units address

-- no two of the units are at one address
abbrev pub AreApart : List UnitState → Type 0
AreApart [] = ⊤
AreApart (unit ∷ units) = (world_of units unit.address ≡ None) × AreApart units

-- bank 1 of each of the units has bytes that it may have
abbrev pub AreBanks : List UnitState → Type 0
AreBanks units = AllByRecursion (λ unit. IsBank unit.bank1.bytes) units

-- a unit after a frame of this fate
abbrev pub unit_after : Fate → Frame → UnitState → UnitState
unit_after fate frame unit = if is_lost fate unit.address then unit else after_frame fate.refuse unit frame

-- what it answers to a frame of this fate
abbrev pub unit_answer : Fate → Frame → UnitState → Option ℕ
unit_answer fate frame unit = if is_lost fate unit.address then None else answer_to fate.refuse unit frame

-- the answer, if exactly one unit answered
abbrev pub only_answer : List ℕ → Option ℕ
only_answer answers = if length answers == 1 then slice_get answers 0 else None

-- what comes back of the units' answers
abbrev pub bus_answer : Fate → List ℕ → Option ℕ
bus_answer fate answers = if fate.answer_lost then None else only_answer answers

-- the frame goes to each unit under the next fate, which is then used up, and this comes back
pub record SimCarry (old : SimState) (frame : Frame) (answer : Option ℕ) (new : SimState) : Type 0 where
  pub apart : AreApart old.units
  pub banks : AreBanks old.units
  pub units : new.units ≡ map (unit_after (next_fate old.fates) frame) old.units
  pub fates : new.fates ≡ drop 1 old.fates
  pub answers : answer
      ≡ bus_answer (next_fate old.fates) (filter_map (unit_answer (next_fate old.fates) frame) old.units)

-- a unit after the one at this address lost its power
abbrev pub unit_powered : ℕ → UnitState → UnitState
unit_powered address unit = if unit.address == address then powered_up unit else unit

-- the unit at this address loses its power, if there is one, and no fate is used
pub record SimPower (old : SimState) (address : ℕ) (new : SimState) : Type 0 where
  pub apart : AreApart old.units
  pub banks : AreBanks old.units
  pub units : new.units ≡ map (unit_powered address) old.units
  pub fates : new.fates ≡ old.fates

-- what the simulated bus does when this happens
abbrev pub SimStep : SimState → BusEvent → SimState → Type 0
SimStep old (Carried frame answer) new = SimCarry old frame answer new
SimStep old (Powered address) new = SimPower old address new

-- The effects that a bus may have on the units that it reaches, and other events of the units.
use Rattle.std.specs.Prelude.{◌≡◌, ℕ, ◌⊎◌, List, [], ◌∷◌, Option, Some}
use Rattle.std.specs.Prelude.{IfSome}
use Rattle.dali_frame.specs.declared.forward.Frame.{Frame}
use Rattle.dali_bus.specs.World.{Gear, World, IfThere}
use Rattle.dali_bus.specs.Hears.{Hears}
use Rattle.dali_bus.specs.Power.{LosesPower}

-- the unit at this address heard the frame, and gave some answer or none
abbrev pub Heard : ℕ → Gear → Frame → Gear → Type 0
Heard at old frame new = (answer : Option ℕ) × Hears at old frame answer new

-- a unit didn't hear the frame and is as it was, or it heard the frame. No unit comes or goes
abbrev pub MayHear : ℕ → Option Gear → Frame → Option Gear → Type 0
MayHear at old frame new = IfThere (λ before after. (after ≡ before) ⊎ Heard at before frame after) old new

-- the byte is the answer of a unit that heard the frame
pub record Answered (old : World) (frame : Frame) (byte : ℕ) (new : World) : Type 0 where
  pub address : ℕ
  pub before : Gear
  pub after : Gear
  pub was : old address ≡ Some before
  pub is : new address ≡ Some after
  pub hears : Hears address before frame (Some byte) after

-- the frame is carried from one world to the next, and this comes back: nothing, or the answer of a unit that heard it
pub record Carry (old : World) (frame : Frame) (answer : Option ℕ) (new : World) : Type 0 where
  pub units : (address : ℕ) → MayHear address (old address) frame (new address)
  pub answers : IfSome answer (λ byte. Answered old frame byte new)

-- what happens on a bus: a frame is carried, and this came back; or the unit at an address loses its power and gets
-- it back
pub data BusEvent : Type 0 where
  Carried : (frame : Frame) (answer : Option ℕ) → BusEvent
  Powered : (address : ℕ) → BusEvent

-- from the old world this may happen and lead to the new one
abbrev pub WorldStep : World → BusEvent → World → Type 0
WorldStep old (Carried frame answer) new = Carry old frame answer new
WorldStep old (Powered address) new = LosesPower old address new

-- the unit at this address has lost its power
abbrev pub HasLostPower : ℕ → List BusEvent → Type 0
HasLostPower at [] = ⊥
HasLostPower at (Carried frame answer ∷ past) = HasLostPower at past
HasLostPower at (Powered address ∷ past) = (address ≡ at) ⊎ HasLostPower at past

-- A bus that alters answers, too.
use Rattle.std.specs.Prelude.{◌≡◌, ⊤, ℕ, Bool, true, false, Option, is_some}
use Rattle.dali_frame.specs.declared.forward.Frame.{Frame}
use Rattle.dali_frame.specs.declared.forward.Frame.TheVariants.{Dtr0, Dtr1, AskDtr1, Read, Write}
use Rattle.dali_bus.specs.World.{World, IfThere}
use Rattle.dali_bus.specs.Power.{LosesPower}
use Rattle.dali_bus.specs.Carry.{BusEvent, Carried, Powered, Carry, Heard}

-- A world, and whether the unit at hand may not have heard the last frame that sets DTR0 or DTR1, while nothing came
-- since but questions about DTR1.
pub record Noisy : Type 0 where
  pub world : World
  pub unset : Bool

-- the unit at this address heard the frame
abbrev pub HeardHere : ℕ → World → Frame → World → Type 0
HeardHere unit old frame new = IfThere (λ before after. Heard unit before frame after) (old unit) (new unit)

-- what has to be so if nothing is unset after the frame
abbrev pub MaySettle : ℕ → Noisy → Frame → Noisy → Type 0
MaySettle unit old (Dtr0 byte) new = HeardHere unit old.world (Dtr0 byte) new.world
MaySettle unit old (Dtr1 byte) new = HeardHere unit old.world (Dtr1 byte) new.world
MaySettle unit old (AskDtr1 to) new = old.unset ≡ false
MaySettle unit old other new = ⊤

-- the frame reads or writes memory
abbrev pub Accesses : Frame → Type 0
Accesses (Read to) = ⊤
Accesses (Write byte) = ⊤
Accesses other = ⊥

-- The frame is carried as over any bus, but another byte may come back than was given, or a byte if none was: not while
-- a register is unset; and, unless bytes may be made up there, none to a read or a write if none was given.
pub record NoisyCarry (made : Bool) (unit : ℕ) (old : Noisy) (frame : Frame) (answer : Option ℕ) (new : Noisy)
    : Type 0 where
  pub given : Option ℕ
  pub carries : Carry old.world frame given new.world
  pub altered : made ≡ false → Accesses frame → is_some answer ≡ is_some given
  pub unaltered : old.unset ≡ true → answer ≡ given
  pub settled : new.unset ≡ false → MaySettle unit old frame new

-- this may happen over such a bus
abbrev pub NoisyStep : Bool → ℕ → Noisy → BusEvent → Noisy → Type 0
NoisyStep made unit old (Carried frame answer) new = NoisyCarry made unit old frame answer new
NoisyStep made unit old (Powered address) new = LosesPower old.world address new.world × (new.unset ≡ old.unset)

-- a world in which a register may be unset
abbrev pub as_noisy : World → Noisy
as_noisy world = record { world = world; unset = true }

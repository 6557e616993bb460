-- The states along a trace: one before the first happening, and one after each.
use Rattle.std.specs.Prelude.{◌≡◌}
use Rattle.dali_bus.specs.World.{World}
use Rattle.dali_bus.specs.Carry.{BusEvent, Carried, Powered, WorldStep}
use Rattle.dali_trace.specs.declared.happening.Happening.{Happening}
use Rattle.dali_trace.specs.declared.happening.Happening.TheVariants.{Sent}
use Rattle.dali_trace.specs.declared.happening.Happening.TheVariants as happenings

-- a frame that was sent is carried, and a unit loses its power, by a step of these states; nothing else changes them
abbrev pub MovesBy : {S : Type 0} → (S → BusEvent → S → Type 0) → S → Happening → S → Type 0
MovesBy step old (Sent frame answer) new = step old (Carried frame answer) new
MovesBy step old (happenings.Powered address) new = step old (Powered address) new
MovesBy step old other new = new ≡ old

-- the same of worlds: as units and buses may
abbrev pub Moves : World → Happening → World → Type 0
Moves old next new = MovesBy WorldStep old next new

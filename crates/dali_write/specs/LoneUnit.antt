-- A small worked world: one unit, at address 9, that has a bank 0 and a bank 1, each with location 00h alone, and is
-- never write-enabled. Bank 0 names 02h as its last location, and bank 1 77h.
use Rattle.std.specs.Prelude.{ℕ, false, List, [], ◌∷◌, Some, None, ◌==◌, if◌then◌else◌}
use Rattle.dali_frame.specs.declared.forward.Frame.TheVariants.{Dtr0, Dtr1, AskDtr0, AskDtr1, Read}
use Rattle.dali_bus.specs.World.{World, Gear, Memory}
use Rattle.dali_write.specs.Exchanges.{Exchange}
use Rattle.dali_write.specs.WorkedAccesses.{sent}

abbrev pub two_bytes : Memory
two_bytes bank location =
    if location == 0 then (if bank == 0 then Some 0x02 else (if bank == 1 then Some 0x77 else None)) else None

-- the unit with these registers
abbrev pub small_gear : ℕ → ℕ → Gear
small_gear dtr1 dtr0 = record { dtr0 = dtr0; dtr1 = dtr1; dtr2 = 0; enabled = false; memory = two_bytes }

abbrev pub lone_unit : ℕ → ℕ → World
lone_unit dtr1 dtr0 address = if address == 9 then Some (small_gear dtr1 dtr0) else None

-- The first six frames of a checked read of 00h, each answered as it wants, the newest first. The unit lost its power
-- before the read, so that the byte is that of bank 0.
abbrev pub six_frames : List Exchange
six_frames =
    sent (AskDtr0 9) (Some 1) ∷ sent (Read 9) (Some 0x02) ∷ sent (AskDtr0 9) (Some 0) ∷ sent (Dtr0 0) None
    ∷ sent (AskDtr1 9) (Some 1) ∷ sent (Dtr1 1) None ∷ []

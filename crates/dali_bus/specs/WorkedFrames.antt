-- A small unit and two of them, near the edges of what units and buses may do.
use Rattle.std.specs.Prelude.{ℕ, Bool, true, false, Some, None, ◌==◌, ◌&&◌, if◌then◌else◌}
use Rattle.dali_bus.specs.World.{Memory, Gear, World, stored}

-- bank 1 with an open lock byte and one place after it
abbrev pub two_places : Memory
two_places bank location =
    if (bank == 1) && (location == 2) then Some 0x55 else (if (bank == 1) && (location == 3) then Some 7 else None)

-- a unit with these places, whose registers name the second one
abbrev pub small : Bool → Gear
small enabled = record { dtr0 = 3; dtr1 = 1; dtr2 = 0; enabled = enabled; memory = two_places }

-- the same with DTR0 one higher
abbrev pub moved : Bool → Gear
moved enabled = record (small enabled) { dtr0 = 4 }

-- and with 09h stored at this location of bank 1
abbrev pub written : Bool → ℕ → Gear
written enabled location = record (small enabled) { dtr0 = 4; memory = stored two_places 1 location 9 }

-- the same, whose registers name a counter in bank 205, which its memory leaves out
abbrev pub by_a_counter : Bool → Gear
by_a_counter enabled = record (small enabled) { dtr0 = 4; dtr1 = 205 }

-- the small unit with this indicator byte, enabled, and with 09h stored at 03h
abbrev pub indicating : ℕ → Gear
indicating byte = record (small true) { memory = stored two_places 1 1 byte }

abbrev pub indicated : ℕ → Gear
indicated byte = record (moved true) { memory = stored (stored two_places 1 3 9) 1 1 byte }

-- the same at the last location that there may be
abbrev pub at_the_end : Gear
at_the_end = record (small true) { dtr0 = 0xFF }

-- the same after power-up
abbrev pub started : Gear
started = record { dtr0 = 0; dtr1 = 0; dtr2 = 0; enabled = false; memory = stored two_places 1 2 0xFF }

-- a unit with the lock bytes of a bank 0 and a bank 2 alone
abbrev pub with_locks : ℕ → ℕ → Gear
with_locks zero_lock two_lock =
    record {
      dtr0 = 0;
      dtr1 = 0;
      dtr2 = 0;
      enabled = false;
      memory = λ bank location. if location == 2
          then (if bank == 0 then Some zero_lock else (if bank == 2 then Some two_lock else None))
          else None;
    }

-- units at addresses 5 and 6
abbrev pub pair : Gear → Gear → World
pair five six address = if address == 5 then Some five else (if address == 6 then Some six else None)

-- The control gear that a bus reaches, as memory access sees it.
use Rattle.std.specs.Prelude.{◌≡◌, ⊤, ℕ, Bool, false, is_some, Option, Some, None, ◌&&◌, ◌==◌, if◌then◌else◌}
use Rattle.std.specs.Option.{option_and_then, option_map_or}

-- The byte at a location of a memory bank, by bank and location: none if the place doesn't exist. Of the banks from 2
-- up a memory also leaves out each place that changes by itself, such as a counter: nothing is promised of it, and it
-- may hold and answer anything.
abbrev pub Memory : Type 0
Memory = ℕ → ℕ → Option ℕ

-- a unit: its data transfer registers, whether it is write-enabled, and its memory banks
pub record Gear : Type 0 where
  pub dtr0 : ℕ
  pub dtr1 : ℕ
  pub dtr2 : ℕ
  pub enabled : Bool
  pub memory : Memory

-- the units by short address, at most one at each
abbrev pub World : Type 0
World = ℕ → Option Gear

-- the memory with this byte at that place, and all else as it was
abbrev pub stored : Memory → ℕ → ℕ → ℕ → Memory
stored memory bank location byte b l = if (b == bank) && (l == location) then Some byte else memory b l

-- no unit comes or goes at an address, and of one that is there this is so, before and after
abbrev pub IfThere : (Gear → Gear → Type 0) → Option Gear → Option Gear → Type 0
IfThere so None None = ⊤
IfThere so (Some old) (Some new) = so old new
IfThere so old new = ⊥

-- the byte at a place of the unit, if there is a unit and it has the place
abbrev pub byte_in : Option Gear → ℕ → ℕ → Option ℕ
byte_in unit bank location = option_and_then (λ gear. gear.memory bank location) unit

-- the byte at a place, if the place exists
abbrev pub byte_at : World → ℕ → ℕ → ℕ → Option ℕ
byte_at world address bank location = byte_in (world address) bank location

-- there is a unit at this address, and it is write-enabled
abbrev pub is_enabled : World → ℕ → Bool
is_enabled world address = option_map_or (λ gear. gear.enabled) (world address) false

-- the worlds have units at the same addresses
abbrev pub SameAddresses : World → World → Type 0
SameAddresses old new = (address : ℕ) → is_some (new address) ≡ is_some (old address)

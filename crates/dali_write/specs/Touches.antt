-- The changes that a session may have made.
use Rattle.std.specs.Prelude.{◌≡◌, ◌≢◌, ◌⊎◌, ℕ, List, [], ◌∷◌, Option, Some, IsSome, is_some}
use Rattle.dali_bus.specs.World.{World, Gear, byte_in}
use Rattle.dali_write.specs.Worlds.{KeepsAt}
use Rattle.dali_bus.specs.Hears.{IsIndicator}
use Rattle.dali_bus.specs.Power.{MayRelock}

-- one of the writes puts this byte at this location
abbrev pub Has : List (ℕ × ℕ) → ℕ → ℕ → Type 0
Has [] location byte = ⊥
Has (write ∷ writes) location byte = ((write.0 ≡ location) × (write.1 ≡ byte)) ⊎ Has writes location byte

-- each place of the unit holds what it held, or is a lock byte that is FFh since the unit lost its power; or it was
-- there before, in bank 1, and holds the byte of one of the writes there; or it is the indicator byte, which the unit
-- may set by itself at a write
abbrev pub OldOrNew : Type 0 → List (ℕ × ℕ) → Option Gear → Option Gear → Type 0
OldOrNew lost writes first last =
    (bank location : ℕ) → MayRelock lost bank location (byte_in first bank location) (byte_in last bank location)
    ⊎ ((byte : ℕ) × (bank ≡ 1) × Has writes location byte × IsSome (byte_in first bank location)
    × (byte_in last bank location ≡ Some byte))
    ⊎ (IsIndicator bank location
    × (is_some (byte_in last bank location) ≡ is_some (byte_in first bank location)))

-- every other unit keeps its memory and isn't newly enabled, and in this one each place is old or new
pub record Touches (loses : ℕ → Type 0) (writes : List (ℕ × ℕ)) (unit : ℕ) (first last : World) : Type 0 where
  pub others : (address : ℕ) → address ≢ unit → KeepsAt loses first last address
  pub here : OldOrNew (loses unit) writes (first unit) (last unit)

-- the writes of an opened session: it unlocks bank 1, locks it, and writes the updates
abbrev pub writes_of : List (ℕ × ℕ) → List (ℕ × ℕ)
writes_of updates = (2, 0x55) ∷ (2, 0xFF) ∷ updates

-- The effect of a loss of power on a unit that gets it back, and on a world.
use Rattle.std.specs.Prelude.{◌≡◌, ◌≢◌, ℕ, ◌≤◌, false, ◌⊎◌, Option}
use Rattle.std.specs.Option.{option_map}
use Rattle.dali_bus.specs.World.{Gear, World, IfThere}

-- a lock byte after power-up: FFh, if the place exists
abbrev pub relocked : Option ℕ → Option ℕ
relocked old = option_map (λ byte. 0xFF) old

-- the byte is as it was; or its place is a lock byte, the unit has lost its power, and the byte is FFh since then
abbrev pub MayRelock : Type 0 → ℕ → ℕ → Option ℕ → Option ℕ → Type 0
MayRelock lost bank location old new =
    (new ≡ old) ⊎ (lost × (1 ≤ bank) × (location ≡ 2) × (new ≡ relocked old))

-- A unit after power-up: its registers are 0, it isn't write-enabled, and the lock byte of bank 1 is FFh. That of a
-- bank from 2 up is FFh or as before. All else in its memory is as before, a bank 0 too.
pub record PowersUp (old new : Gear) : Type 0 where
  pub dtr0 : new.dtr0 ≡ 0
  pub dtr1 : new.dtr1 ≡ 0
  pub dtr2 : new.dtr2 ≡ 0
  pub off : new.enabled ≡ false
  pub lock : new.memory 1 2 ≡ relocked (old.memory 1 2)
  pub other_locks : (bank : ℕ) → 2 ≤ bank
      → (new.memory bank 2 ≡ relocked (old.memory bank 2)) ⊎ (new.memory bank 2 ≡ old.memory bank 2)
  pub rest : (bank location : ℕ) → (bank ≡ 0) ⊎ (location ≢ 2) → new.memory bank location ≡ old.memory bank location

-- The unit at the address loses its power and gets it back. If there is none, nothing changes.
pub record LosesPower (old : World) (address : ℕ) (new : World) : Type 0 where
  pub there : IfThere PowersUp (old address) (new address)
  pub others : (other : ℕ) → other ≢ address → new other ≡ old other

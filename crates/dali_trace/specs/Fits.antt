-- A journal's promises of a world. The start world is called zero.
use Rattle.std.specs.Prelude.{◌≡◌, ◌≤◌, ◌⊎◌, ℕ, true, List, [], ◌∷◌, Some, is_some}
use Rattle.dali_bus.specs.World.{World, byte_at, is_enabled}
use Rattle.dali_journal.specs.declared.record.Record.{Record}
use Rattle.dali_journal.specs.declared.record.Record.TheVariants.{Opened}
use Rattle.dali_journal.specs.Sentence.{standing_of, named_unit}
use Rattle.dali_journal.specs.Orders.{orders_of}
use Rattle.dali_write.specs.Worlds.{IsAmong}
use Rattle.dali_bus.specs.Hears.{IsIndicator}
use Rattle.dali_bus.specs.Power.{MayRelock}
use Rattle.dali_trace.specs.Possible.{IsPossible, IsCertain, applied}

-- a unit was opened
abbrev pub HasBeenOpened : ℕ → List Record → Type 0
HasBeenOpened address [] = ⊥
HasBeenOpened address (Opened unit ∷ older) = (unit ≡ address) ⊎ HasBeenOpened address older
HasBeenOpened address (other ∷ older) = HasBeenOpened address older

-- the place is the lock byte of a bank
abbrev pub IsLockByte : ℕ → ℕ → Type 0
IsLockByte bank location = (1 ≤ bank) × (location ≡ 2)

-- the place is one that a unit may set by itself: a lock byte, or the indicator byte of bank 1
abbrev pub IsApart : ℕ → ℕ → Type 0
IsApart bank location = IsLockByte bank location ⊎ IsIndicator bank location

-- a world fits a start world and the records, if these units have lost their power
pub record Fits (zero : World) (records : List Record) (lost : List ℕ) (now : World) : Type 0 where
  -- it has the same places
  pub places : (address bank location : ℕ)
      → is_some (byte_at now address bank location) ≡ is_some (byte_at zero address bank location)
  -- every place but the lock bytes and the indicator byte holds a possible byte
  pub bytes : (address bank location first byte : ℕ) → (IsApart bank location → ⊥)
      → byte_at zero address bank location ≡ Some first
      → byte_at now address bank location ≡ Some byte → IsPossible first address bank location (orders_of records) byte
  -- a lock byte is as it was, or FFh if the unit has lost its power; that of bank 1 if it was never opened
  pub locks : (address bank : ℕ) → 1 ≤ bank → (bank ≡ 1 → HasBeenOpened address records → ⊥)
      → MayRelock (IsAmong lost address) bank 2 (byte_at zero address bank 2) (byte_at now address bank 2)
  -- the indicator byte of a unit that was never opened is as it was
  pub indicators : (address : ℕ) → (HasBeenOpened address records → ⊥)
      → byte_at now address 1 1 ≡ byte_at zero address 1 1

-- no unit is enabled but the one that the records name
abbrev pub OnlyNamed : List Record → World → Type 0
OnlyNamed records now = (address : ℕ) → is_enabled now address ≡ true → named_unit (standing_of records) ≡ Some address

-- every place but the lock bytes and the indicator byte that no order leaves in doubt holds its byte of the start
-- world, with the done orders applied once each in journal order
abbrev pub IsApplied : World → List Record → World → Type 0
IsApplied zero records now =
    (address bank location first : ℕ) → (IsApart bank location → ⊥) → byte_at zero address bank location ≡ Some first
    → IsCertain address bank location (orders_of records)
    → byte_at now address bank location ≡ Some (applied first address bank location (orders_of records))

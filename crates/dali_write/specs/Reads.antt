-- The bytes that reads of blocks among exchanges show. The newest exchange comes first.
use Rattle.std.specs.Prelude.{◌≡◌, ◌⊎◌, ℕ, suc, ◌<◌, min, List, [], ◌∷◌, ◌++◌, length, slice_get, Some, ⊤}
use Rattle.dali_frame.specs.declared.forward.Frame.{Frame}
use Rattle.dali_frame.specs.declared.forward.Frame.TheVariants.{Write, WriteSilent, Enable, Other}
use Rattle.dali_write.specs.Exchanges.{Exchange}
use Rattle.dali_write.specs.Blocks.{Tells}

-- the frame enables no unit and writes nothing
abbrev pub IsPassive : Frame → Type 0
IsPassive (Write byte) = ⊥
IsPassive (WriteSilent byte) = ⊥
IsPassive (Enable unit) = ⊥
IsPassive (Other word) = ⊥
IsPassive other = ⊤

-- the newest exchanges are a read of a block, which told the byte of the location
abbrev pub EndsInRead : ℕ → ℕ → ℕ → List Exchange → Type 0
EndsInRead unit location byte told =
    (newer : List Exchange) × (older : List Exchange) × (told ≡ newer ++ older) × Tells unit location byte newer

-- a read told the byte of the location, and no frame since then enables a unit or writes
abbrev pub StillRead : List Exchange → ℕ → ℕ → ℕ → Type 0
StillRead [] unit location byte = ⊥
StillRead (x ∷ told) unit location byte =
    EndsInRead unit location byte (x ∷ told) ⊎ (IsPassive x.frame × StillRead told unit location byte)

-- some read of a block of the unit told a byte
abbrev pub HasRead : ℕ → List Exchange → Type 0
HasRead unit [] = ⊥
HasRead unit (x ∷ told) = ((location : ℕ) × (byte : ℕ) × EndsInRead unit location byte (x ∷ told)) ⊎ HasRead unit told

-- Reads gave these bytes, and each of them is still read: that of 00h, and those of each location up to the one that it
-- names, at most to FEh.
pub record ReadsBank (told : List Exchange) (unit : ℕ) (bytes : List ℕ) : Type 0 where
  pub last : ℕ
  pub names : StillRead told unit 0 last
  pub count : length bytes ≡ suc (min last 0xFE)
  pub bytes_are : (location : ℕ) → location < length bytes
      → (byte : ℕ) × (slice_get bytes location ≡ Some byte) × StillRead told unit location byte

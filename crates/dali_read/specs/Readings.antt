-- Readings of a unit, block by block: each block is the one that is next after the bytes that those before it told.
use Rattle.std.specs.Prelude.{◌≡◌, ℕ, List, [], ◌∷◌, ◌++◌, Option, Some, None, ⊤}
use Rattle.dali_frame.specs.declared.forward.Frame.{Frame}
use Rattle.dali_write.specs.Exchanges.{Exchange}
use Rattle.dali_write.specs.declared.block.Block.{Block}
use Rattle.dali_write.specs.Requests.{block_requests, each_try}
use Rattle.dali_write.specs.Blocks.{Fits, IsAmid}
use Rattle.dali_write.specs.Tries.{most_tries, Misses, Succeeds}

-- which block is next after these bytes, if any
abbrev pub Course : Type 0
Course = List ℕ → Option Block

-- a block that was read, its bytes, and the exchanges that its tries took
pub record Done : Type 0 where
  pub block : Block
  pub bytes : List ℕ
  pub told : List Exchange

-- the bytes of blocks that were read, and their exchanges; the newest block comes first
abbrev pub bytes_in : List Done → List ℕ
bytes_in [] = []
bytes_in (newest ∷ done) = bytes_in done ++ newest.bytes

abbrev pub told_in : List Done → List Exchange
told_in [] = []
told_in (newest ∷ done) = newest.told ++ told_in done

-- each of these blocks fits, was next, and was read
abbrev pub InTurn : ℕ → Course → List Done → Type 0
InTurn unit course [] = ⊤
InTurn unit course (newest ∷ done) =
    InTurn unit course done × Fits newest.block × (course (bytes_in done) ≡ Some newest.block)
    × Succeeds (each_try (block_requests unit newest.block)) (Some newest.bytes) newest.told

-- these bytes were read, and no block is next
pub record IsRead (unit : ℕ) (course : Course) (bytes : List ℕ) (told : List Exchange) : Type 0 where
  pub done : List Done
  pub in_turn : InTurn unit course done
  pub bytes_are : bytes_in done ≡ bytes
  pub told_are : told_in done ≡ told
  pub over : course bytes ≡ None

-- all tries of the block that was next missed
pub record IsSilent (unit : ℕ) (course : Course) (told : List Exchange) : Type 0 where
  pub done : List Done
  pub in_turn : InTurn unit course done
  pub block : Block
  pub fits : Fits block
  pub next : course (bytes_in done) ≡ Some block
  pub missed : List Exchange
  pub fails : Misses (each_try (block_requests unit block)) most_tries missed
  pub told_are : missed ++ told_in done ≡ told

-- what a reading ends with: its bytes, or none if the unit was silent
abbrev pub Ends : ℕ → Course → Option (List ℕ) → List Exchange → Type 0
Ends unit course (Some bytes) told = IsRead unit course bytes told
Ends unit course None told = IsSilent unit course told

-- after these exchanges this frame is next
pub record IsReading (unit : ℕ) (course : Course) (told : List Exchange) (frame : Frame) : Type 0 where
  pub done : List Done
  pub in_turn : InTurn unit course done
  pub block : Block
  pub fits : Fits block
  pub next : course (bytes_in done) ≡ Some block
  pub tried : List Exchange
  pub amid : IsAmid unit block tried frame
  pub told_are : tried ++ told_in done ≡ told

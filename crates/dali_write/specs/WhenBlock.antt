-- When the bytes of a block read were there, and how long its unit kept its power. Exchanges have the newest first.
use Rattle.std.specs.Prelude.{◌≡◌, ◌≢◌, ℕ, List, ◌++◌, length, slice_get, Some}
use Rattle.dali_bus.specs.World.{World, byte_at}
use Rattle.dali_bus.specs.Carry.{WorldStep}
use Rattle.dali_write.specs.Exchanges.{Exchange}
use Rattle.dali_write.specs.Worlds.{Run}
use Rattle.dali_write.specs.declared.block.Block.{Block}
use Rattle.dali_write.specs.Requests.{moved_on}
use Rattle.dali_write.specs.Tries.{bytes_of}
use Rattle.dali_write.specs.Blocks.{IsBlockRead}

-- the address is one of these, and another than the unit's
abbrev pub AllBut : ℕ → (ℕ → Type 0) → ℕ → Type 0
AllBut unit loses address = loses address × (address ≢ unit)

-- Among the reads of a block, which lead from the first world to the last, `index` came before this one. The unit held
-- the byte at the location in the world in which the read reached it.
pub record HeldAt (loses : ℕ → Type 0) (each : List Exchange) (first last : World) (unit location index byte : ℕ)
    : Type 0 where
  pub newer : List Exchange
  pub older : List Exchange
  pub parts : each ≡ newer ++ older
  pub index_is : length older ≡ index
  pub reached : World
  pub before : Run WorldStep loses older first reached
  pub behind : Run WorldStep loses newer reached last
  pub held : byte_at reached unit 1 location ≡ Some byte

-- Among these exchanges, which lead from the first world to the last, is a read of the block, answered by the bytes.
-- The unit held each of them at its place when its read reached it; from the answer to the second frame to that to the
-- last one it kept its power, while others may have lost theirs; and when that last answer came, all of them were
-- there.
pub record WhenBlock (loses : ℕ → Type 0) (told : List Exchange) (first last : World) (unit : ℕ) (block : Block)
    (bytes : List ℕ) : Type 0 where
  -- the exchanges after it; its last two frames, its reads, the two before them and its first two; and the exchanges
  -- before it
  pub newer : List Exchange
  pub back : List Exchange
  pub each : List Exchange
  pub middle : List Exchange
  pub two : List Exchange
  pub older : List Exchange
  pub parts : told ≡ newer ++ ((back ++ (each ++ (middle ++ two))) ++ older)
  pub read : IsBlockRead unit block bytes (back ++ (each ++ (middle ++ two)))
  pub counts : (length back ≡ 2) × (length each ≡ block.count) × (length middle ≡ 2) × (length two ≡ 2)
  pub bytes_are : bytes_of each ≡ bytes
  -- the worlds before it, after its second frame, before its first read, after its last read and after its last frame
  pub begun : World
  pub asked : World
  pub selected : World
  pub moved : World
  pub answered : World
  pub before : Run WorldStep loses older first begun
  pub asking : Run WorldStep loses two begun asked
  pub selecting : Run WorldStep (AllBut unit loses) middle asked selected
  pub reading : Run WorldStep (AllBut unit loses) each selected moved
  pub asking_back : Run WorldStep (AllBut unit loses) back moved answered
  pub behind : Run WorldStep loses newer answered last
  pub held : (index byte : ℕ) → slice_get bytes index ≡ Some byte
      → HeldAt (AllBut unit loses) each selected moved unit (moved_on block.location index) index byte
  pub together : (index byte : ℕ) → slice_get bytes index ≡ Some byte
      → byte_at answered unit 1 (moved_on block.location index) ≡ Some byte

-- a read of a block that told this byte of this location, and when the block's bytes were there
pub record WhenTold (loses : ℕ → Type 0) (told : List Exchange) (first last : World) (unit location byte : ℕ)
    : Type 0 where
  pub block : Block
  pub bytes : List ℕ
  pub index : ℕ
  pub place : location ≡ moved_on block.location index
  pub there : slice_get bytes index ≡ Some byte
  pub when : WhenBlock loses told first last unit block bytes

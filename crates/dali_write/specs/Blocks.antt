-- Reads of blocks of locations of bank 1: which blocks there may be, and what their tries tell. Exchanges have the
-- newest first.
use Rattle.std.specs.Prelude.{◌≡◌, ℕ, ◌+◌, ◌<◌, ◌≤◌, List, [], ◌∷◌, ◌++◌, slice_get, Some}
use Rattle.dali_frame.specs.declared.forward.Frame.{Frame}
use Rattle.dali_write.specs.Exchanges.{Exchange}
use Rattle.dali_write.specs.declared.block.Block.{Block}
use Rattle.dali_write.specs.declared.request.Request.{Request}
use Rattle.dali_write.specs.Requests.{moved_on, block_requests, each_try}
use Rattle.dali_write.specs.Tries.{most_tries, Trying, Misses, bytes_of}

-- no block has more locations
abbrev pub most_locations : ℕ
most_locations = 16

-- one location or more, and the last one is FEh at most
pub record Fits (block : Block) : Type 0 where
  pub some : 1 ≤ block.count
  pub few : block.count ≤ most_locations
  pub within : block.location + block.count ≤ 0xFF

-- one try, which came to its end and told these bytes
abbrev pub IsBlockRead : ℕ → Block → List ℕ → List Exchange → Type 0
IsBlockRead unit block bytes tried = Trying (block_requests unit block) tried [] × (bytes_of tried ≡ bytes)

-- fewer than the most tries missed, and of the try at hand this frame is next
pub record IsAmid (unit : ℕ) (block : Block) (told : List Exchange) (frame : Frame) : Type 0 where
  pub tried : List Exchange
  pub missed : List Exchange
  pub misses : ℕ
  pub next : Request
  pub left : List Request
  pub parts : told ≡ tried ++ missed
  pub few : misses < most_tries
  pub misses_are : Misses (each_try (block_requests unit block)) misses missed
  pub try : Trying (block_requests unit block) tried (next ∷ left)
  pub frame_is : next.frame ≡ frame

-- one try of a block, which came to its end and told this byte of this location
pub record Tells (unit location byte : ℕ) (tried : List Exchange) : Type 0 where
  pub block : Block
  pub bytes : List ℕ
  pub read : IsBlockRead unit block bytes tried
  pub index : ℕ
  pub place : location ≡ moved_on block.location index
  pub there : slice_get bytes index ≡ Some byte

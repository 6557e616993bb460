-- The bytes that readings show. Exchanges have the newest first.
use Rattle.std.specs.Prelude.{◌≡◌, ◌≢◌, ◌⊎◌, ◌<◌, ◌≤◌, ℕ, suc, ◌+◌, min, List, [], ◌∷◌, ◌++◌, length, slice_get}
use Rattle.std.specs.Prelude.{Some}
use Rattle.std.specs.List.{AllByRecursion}
use Rattle.dali_bus.specs.World.{World}
use Rattle.dali_write.specs.Exchanges.{Exchange}
use Rattle.dali_write.specs.Findings.{Suits, IsTooShort, HasOtherFormat}
use Rattle.dali_write.specs.declared.block.Block.{Block}
use Rattle.dali_read.specs.Findings.{told_bytes}
use Rattle.dali_read.specs.declared.finding.Finding.{Finding}
use Rattle.dali_read.specs.declared.finding.Finding.TheVariants.{Same, Other, Short, Format}
use Rattle.dali_write.specs.Blocks.{Fits, IsBlockRead}
use Rattle.dali_write.specs.WhenBlock.{WhenTold as ToldThen}

-- among these exchanges is a whole read of a block with this location, and it told this byte of it
pub record InBlock (told : List Exchange) (unit location byte : ℕ) : Type 0 where
  pub newer : List Exchange
  pub tried : List Exchange
  pub older : List Exchange
  pub parts : told ≡ newer ++ (tried ++ older)
  pub block : Block
  pub fits : Fits block
  pub bytes : List ℕ
  pub read : IsBlockRead unit block bytes tried
  pub index : ℕ
  pub place : location ≡ block.location + index
  pub there : slice_get bytes index ≡ Some byte

-- a read of a block that fits told this byte of this location, and when the block's bytes were there
pub record WhenTold (loses : ℕ → Type 0) (told : List Exchange) (first last : World) (unit location byte : ℕ)
    : Type 0 where
  pub then : ToldThen loses told first last unit location byte
  pub fits : Fits then.block

-- These bytes are those of a bank, told by block reads: that of 00h, and that of each location up to the one that it
-- names, at most to FEh.
pub record ShowsBank (shows : ℕ → ℕ → Type 0) (bytes : List ℕ) : Type 0 where
  pub last : ℕ
  pub names : slice_get bytes 0 ≡ Some last
  pub count : length bytes ≡ suc (min last 0xFE)
  pub bytes_are : (location byte : ℕ) → slice_get bytes location ≡ Some byte → shows location byte

-- These bytes are that of 00h, and if it names 10h or a location after it, those from 03h to 10h, told by block reads.
pub record ShowsIdentity (shows : ℕ → ℕ → Type 0) (bytes : List ℕ) : Type 0 where
  pub last : ℕ
  pub more : List ℕ
  pub bytes_are : bytes ≡ last ∷ more
  pub named : shows 0x00 last
  pub reach : ((last < 0x10) × (more ≡ [])) ⊎ ((0x10 ≤ last) × (length more ≡ 14))
  pub more_are : (index byte : ℕ) → slice_get more index ≡ Some byte → shows (0x03 + index) byte

-- This is found of an order of these updates, where 'shows location byte' says that the location shows the byte. The
-- other byte is that of the first location that doesn't show its own.
abbrev pub Finds : (ℕ → ℕ → Type 0) → List (ℕ × ℕ) → Finding → Type 0
Finds shows updates Same = Suits shows updates × AllByRecursion (λ update. shows update.0 update.1) updates
Finds shows updates (Other location byte) =
    Suits shows updates × ((before : List (ℕ × ℕ)) × (own : ℕ) × (behind : List (ℕ × ℕ))
    × (updates ≡ before ++ (location, own) ∷ behind) × AllByRecursion (λ update. shows update.0 update.1) before
    × shows location byte × (byte ≢ own))
Finds shows updates Short = IsTooShort shows updates
Finds shows updates Format = HasOtherFormat shows updates

-- each byte that was read of the updates' own locations is shown by its location
abbrev pub ShowsTold : (ℕ → ℕ → Type 0) → List (ℕ × ℕ) → List ℕ → Type 0
ShowsTold shows updates bytes =
    (index byte : ℕ) (update : ℕ × ℕ) → slice_get (told_bytes updates bytes) index ≡ Some byte
    → slice_get updates index ≡ Some update → shows update.0 byte

-- the bank has the byte at the location
abbrev pub Holds : List ℕ → ℕ → ℕ → Type 0
Holds bank location byte = slice_get bank location ≡ Some byte

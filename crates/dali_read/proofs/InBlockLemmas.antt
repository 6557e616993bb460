-- Each byte that a reading has found came back in a whole read of a block, at the location at which its course reads
-- it.
use Rattle.std.proofs.Common.{◌≡◌, ◌⊎◌, inl, inr, sym, ap, subst, ◌∙◌, ℕ, zero, suc, ◌+◌, ◌<◌, List, [], ◌∷◌, ◌++◌}
use Rattle.std.proofs.Common.{length, append_assoc, Option, Some, slice_get, arith}
use Rattle.std.proofs.lemmas.Option.{slice_get_within}
use Rattle.std.specs.List.{AllByRecursion}
use Rattle.dali_bus.specs.World.{World}
use Rattle.dali_bus.specs.Carry.{WorldStep}
use Rattle.dali_write.specs.Exchanges.{Exchange}
use Rattle.dali_write.proofs.RunLemmas.{Leads}
use Rattle.dali_write.specs.declared.block.Block.{Block}
use Rattle.dali_write.specs.Requests.{block_requests, moved_on, each_try}
use Rattle.dali_write.specs.Blocks.{Fits, IsBlockRead}
use Rattle.dali_write.specs.Tries.{Succeeds}
use Rattle.dali_read.specs.Readings.{Course, Done, bytes_in, told_in, InTurn, IsRead}
use Rattle.dali_read.specs.Shown.{InBlock, WhenTold}
use Rattle.dali_write.specs.WhenBlock.{WhenBlock}
use Rattle.dali_write.proofs.BlockBytesLemmas.{block_count}
use Rattle.dali_write.proofs.PlaceLemmas.{moved_is}
use Rattle.dali_write.proofs.BlockLemmas.{when_block}

-- 'place index' is the location of the byte with this index, if it has one: each byte is shown there
abbrev pub Tells : (ℕ → ℕ → Type 0) → (ℕ → Option ℕ) → List ℕ → Type 0
Tells shows place bytes =
    (index location byte : ℕ) → slice_get bytes index ≡ Some byte → place index ≡ Some location → shows location byte

-- each block that is next is of these places
abbrev pub Follows : Course → (ℕ → Option ℕ) → Type 0
Follows course place =
    (bytes : List ℕ) (this : Block) → course bytes ≡ Some this → (index : ℕ) → index < this.count
    → place (length bytes + index) ≡ Some (this.location + index)

-- a byte of two lists is of the one or of the other
pub get_joined : (older newer : List ℕ) (index byte : ℕ) → slice_get (older ++ newer) index ≡ Some byte
    → (slice_get older index ≡ Some byte)
    ⊎ ((more : ℕ) × (index ≡ length older + more) × (slice_get newer more ≡ Some byte))
get_joined [] newer index byte is = inr (index, omega arith, is)
get_joined (first ∷ older) newer zero byte is = inl is
get_joined (first ∷ older) newer (suc index) byte is = grind (arith, get_joined older newer index byte is)

-- a read of a block told these bytes
pub was_read : (unit : ℕ) (this : Block) (bytes : List ℕ) (told : List Exchange)
    → (done : Succeeds (each_try (block_requests unit this)) (Some bytes) told) → IsBlockRead unit this bytes done.0
was_read unit this bytes told done = (done.4, let is = done.5 in cc)

-- the place of each byte of a block that fits
pub place_is : (unit : ℕ) (this : Block) (bytes : List ℕ) (tried : List Exchange) → Fits this
    → IsBlockRead unit this bytes tried → (index byte : ℕ) → slice_get bytes index ≡ Some byte
    → moved_on this.location index ≡ this.location + index
place_is unit this bytes tried fits read index byte is = grind (arith, slice_get_within, block_count, moved_is)

-- one byte came back for each location of a block that was read
pub done_count : (unit : ℕ) (this : Block) (bytes : List ℕ) (told : List Exchange)
    → Succeeds (each_try (block_requests unit this)) (Some bytes) told → length bytes ≡ this.count
done_count unit this bytes told done = block_count unit this bytes done.0 (was_read unit this bytes told done)

-- each place of the block shows its byte
abbrev pub BlockShows : (ℕ → ℕ → Type 0) → Done → Type 0
BlockShows shows done =
    (index byte : ℕ) → slice_get done.bytes index ≡ Some byte → shows (done.block.location + index) byte

-- so all bytes that came back are shown
pub in_turn_tells : (shows : ℕ → ℕ → Type 0) (place : ℕ → Option ℕ) (unit : ℕ) (course : Course)
    → Follows course place → (done : List Done)
    → InTurn unit course done → AllByRecursion (BlockShows shows) done → Tells shows place (bytes_in done)
in_turn_tells shows place unit course follows [] in_turn all index location byte is at = grind (arith, slice_get_within)
in_turn_tells shows place unit course follows (newest ∷ done) in_turn all index location byte is at =
    elim (get_joined (bytes_in done) newest.bytes index byte is) [
      | inl early ↦ in_turn_tells shows place unit course follows done in_turn.0 all.1 index location byte early at
      | inr (more, same, late) ↦
          let within = slice_get_within newest.bytes more byte late in
          let count = done_count unit newest.block newest.bytes newest.told in_turn.3 in
          let here = follows (bytes_in done) newest.block in_turn.2 more (omega arith) in
          let both : Some location ≡ Some (newest.block.location + more) = sym at ∙ (ap place same ∙ here) in
          let location_is : location ≡ newest.block.location + more = cc in
          rw location_is (all.0 more byte late)
    ]

pub read_shows : (shows : ℕ → ℕ → Type 0) (place : ℕ → Option ℕ) (unit : ℕ) (course : Course) (bytes : List ℕ)
    (told : List Exchange)
    → Follows course place → (read : IsRead unit course bytes told) → AllByRecursion (BlockShows shows) read.done
    → Tells shows place bytes
read_shows shows place unit course bytes told follows read all =
    grind (arith, in_turn_tells shows place unit course follows read.done read.in_turn all)

-- each byte of a block that was read is in that block
in_blocks : (unit : ℕ) (course : Course) (done : List Done) (newer : List Exchange) → InTurn unit course done
    → AllByRecursion (BlockShows (InBlock (newer ++ told_in done) unit)) done
in_blocks unit course [] newer in_turn = tt
in_blocks unit course (newest ∷ done) newer in_turn =
    grind (
      arith,
      append_assoc in_turn.3.0 in_turn.3.1 (told_in done),
      was_read unit newest.block newest.bytes
          newest.told in_turn.3,
      append_assoc newer newest.told (told_in done),
      in_blocks unit course done (newer ++
          newest.told) in_turn.0,
    )

-- of a whole reading
pub read_tells : (place : ℕ → Option ℕ) (unit : ℕ) (course : Course) (bytes : List ℕ) (told : List Exchange)
    → Follows course place → IsRead unit course bytes told → Tells (InBlock told unit) place bytes
read_tells place unit course bytes told follows read =
    read_shows (InBlock told unit) place unit course bytes told follows read
    (subst (λ (t : List Exchange). AllByRecursion (BlockShows (InBlock t unit)) read.done) read.told_are
    (in_blocks unit course read.done [] read.in_turn))

-- and when the byte was there
pub when_told : {loses : ℕ → Type 0} (told : List Exchange) (first last : World) (unit location byte : ℕ)
    → InBlock told unit location byte → Leads WorldStep loses told first last
    → WhenTold loses told first last unit location byte
when_told {loses} told first last unit location byte b run =
    record {
      then = record {
        block = b.block;
        bytes = b.bytes;
        index = b.index;
        place = b.place ∙ sym (place_is unit b.block b.bytes b.tried b.fits b.read b.index byte b.there);
        there = b.there;
        when = subst (λ (t : List Exchange). WhenBlock loses t first last unit b.block b.bytes) (sym b.parts)
            (when_block b.newer b.tried b.older first last unit b.block b.bytes
            (subst (λ (t : List Exchange). Leads WorldStep loses t first last) b.parts run) b.read);
      };
      fits = b.fits;
    }

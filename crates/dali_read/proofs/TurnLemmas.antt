-- The blocks of a reading, one after another: how many frames they take.
use Rattle.std.proofs.Common.{◌≡◌, inl, inr, refl, ℕ, ◌+◌, ◌*◌, ◌≤◌, ◌<◌, List, []}
use Rattle.std.proofs.Common.{◌∷◌, length, length-append, Option, Some, None, arith}
use Rattle.dali_frame.specs.declared.forward.Frame.{Frame}
use Rattle.dali_write.specs.Exchanges.{Exchange}
use Rattle.dali_write.specs.Tries.{most_tries}
use Rattle.dali_write.specs.declared.block.Block.{Block}
use Rattle.dali_read.specs.Readings.{Course, Done, bytes_in, told_in, InTurn, Ends, IsReading}
use Rattle.dali_read.specs.Counts.{block_frames, AreSoMany}
use Rattle.dali_write.specs.Plans.{read_block}
use Rattle.dali_write.proofs.MissLemmas.{access_ends}
use Rattle.dali_read.proofs.BlockMissLemmas.{success_frames, block_limit, amid_frames}
use Rattle.dali_read.proofs.InBlockLemmas.{done_count}

-- the frames of one try of each block
abbrev pub frames_of : List Done → ℕ
frames_of [] = 0
frames_of (newest ∷ done) = block_frames newest.block.count + frames_of done

-- a reading takes these, and for each miss at most those of a whole block more
pub turn_frames : (unit : ℕ) (course : Course) (done : List Done) → InTurn unit course done
    → AreSoMany (frames_of done) (told_in done)
turn_frames unit course [] turn = (omega arith, omega arith)
turn_frames unit course (newest ∷ done) turn =
    grind (
      arith,
      turn_frames unit course done turn.0,
      success_frames unit newest.block newest.bytes newest.told
          turn.1 turn.3,
      access_ends unit (read_block newest.block) (Some newest.bytes) newest.told (told_in done) (inl
          turn.3) tt,
      length-append newest.told (told_in done),
    )

pub turn_limit : (unit : ℕ) (course : Course) (done : List Done) → InTurn unit course done
    → length (told_in done) ≤ most_tries * frames_of done
turn_limit unit course [] turn = omega arith
turn_limit unit course (newest ∷ done) turn =
    grind (
      arith,
      turn_limit unit course done turn.0,
      block_limit unit newest.block (Some newest.bytes) newest.told
          (inl turn.3),
      length-append newest.told (told_in done),
    )

-- if no byte was read no block was
pub none_done : (unit : ℕ) (course : Course) (done : List Done) → InTurn unit course done → bytes_in done ≡ []
    → done ≡ []
none_done unit course [] turn none = refl
none_done unit course (newest ∷ done) turn none =
    grind (
      arith,
      done_count unit newest.block newest.bytes newest.told turn.3,
      length-append (bytes_in done)
          newest.bytes,
    )

-- the newest block adds as many bytes as it has locations
pub added : (unit : ℕ) (course : Course) (newest : Done) (done : List Done)
    → InTurn unit course (newest ∷ done) → length newest.bytes ≡ newest.block.count
added unit course newest done turn = done_count unit newest.block newest.bytes newest.told turn.3

-- each block that is next keeps the frames of all within `most`
abbrev pub IsFew : ℕ → Course → ℕ → Type 0
IsFew unit course most =
    (done : List Done) (next : Block) → InTurn unit course done → course (bytes_in done) ≡ Some next
    → block_frames next.count + frames_of done ≤ most

few_done : (unit : ℕ) (course : Course) (most : ℕ) → IsFew unit course most → (done : List Done)
    → InTurn unit course done → frames_of done ≤ most
few_done unit course most few [] turn = omega arith
few_done unit course most few (newest ∷ done) turn = few done newest.block turn.0 turn.2

-- so a reading takes no more than `most` times the most tries, however it ends
pub ends_limit : (unit : ℕ) (course : Course) (most : ℕ) → IsFew unit course most → (told : List Exchange)
    (outcome : Option (List ℕ))
    → Ends unit course outcome told → length told ≤ most_tries * most
ends_limit unit course most few told (Some bytes) read =
    grind (arith, few_done unit course most few read.done read.in_turn, turn_limit unit course read.done read.in_turn)
ends_limit unit course most few told None silent =
    grind (
      arith,
      turn_limit unit course silent.done silent.in_turn,
      block_limit unit silent.block None silent.missed
          (inr (refl, silent.fails)),
      length-append silent.missed (told_in silent.done),
    )

-- and fewer amid its way
pub amid_limit : (unit : ℕ) (course : Course) (most : ℕ) → IsFew unit course most → (told : List Exchange)
    (frame : Frame)
    → IsReading unit course told frame → length told < most_tries * most
amid_limit unit course most few told frame reading =
    grind (
      arith,
      turn_limit unit course reading.done reading.in_turn,
      amid_frames unit reading.block reading.tried
          frame reading.amid,
      length-append reading.tried (told_in reading.done),
    )

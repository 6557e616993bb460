-- Near the edges of what is promised of block reads and of readings.
use Rattle.std.proofs.Common.{◌≡◌, inr, refl, ℕ, zero, suc, ◌<◌, List, []}
use Rattle.std.proofs.Common.{◌∷◌, ◌++◌, append-nil, drop, Some, None, arith}
use Rattle.std.proofs.lemmas.Option.{slice_get_within}
use Rattle.dali_frame.specs.declared.forward.Frame.{Frame}
use Rattle.dali_frame.specs.declared.forward.Frame.TheVariants.{Read}
use Rattle.dali_bus.specs.World.{World, byte_at}
use Rattle.dali_write.specs.Exchanges.{Exchange}
use Rattle.dali_write.specs.declared.ask.Ask.TheVariants.{Send}
use Rattle.dali_write.specs.declared.block.Block.{Block}
use Rattle.dali_write.specs.declared.request.Wish.TheVariants.{Nothing, Exactly, Anything}
use Rattle.dali_write.specs.Blocks.{Fits, IsAmid}
use Rattle.dali_write.specs.Plans.{read_block}
use Rattle.dali_write.specs.Requests.{request, block, block_requests, each_try}
use Rattle.dali_write.specs.Tries.{Missed, Misses, Succeeds}
use Rattle.dali_write.specs.WorkedBlocks.{two_locations, whole_read}
use Rattle.dali_write.proofs.BlockBytesLemmas.{block_count}
use Rattle.dali_write.proofs.BlockSessionLemmas.{amid_wants}
use Rattle.dali_write.proofs.DeterminedLemmas.{wants_one}
use Rattle.dali_write.proofs.MissLemmas.{access_ends}
use Rattle.dali_write.proofs.WorkedBlockLemmas.{last_doesnt, two_are_read}
use Rattle.dali_read.specs.Places.{first_block, last_course, bank_course}
use Rattle.dali_read.specs.Readings.{Done, bytes_in, told_in, InTurn, IsRead, IsSilent, IsReading}
use Rattle.dali_read.specs.Shown.{WhenTold}
use Rattle.dali_read.specs.WorkedReads.{missed_try, missed_tries, four_frames, last_read, first_part, second_part}
use Rattle.dali_read.proofs.InBlockLemmas.{place_is}
use Rattle.dali_read.proofs.TurnLemmas.{none_done}

-- How many tries

one_missed : (this : Block) → Missed (block_requests 5 this) missed_try
one_missed this = (Exactly 1, _, (λ (answered : None ≡ Some 1). cc), (Nothing, tt, refl))

all_missed : (this : Block) (misses : ℕ) → Misses (each_try (block_requests 5 this)) misses (missed_tries misses)
all_missed this zero = refl
all_missed this (suc misses) = (missed_try, missed_tries misses, refl, one_missed this, all_missed this misses)

two_fit : Fits two_locations
two_fit = record { some = omega arith; few = omega arith; within = omega arith }

-- The bytes that a reading tells

abbrev last_done : Done
last_done = record { block = first_block; bytes = 0x77 ∷ []; told = last_read }

first_fits : Fits first_block
first_fits = record { some = omega arith; few = omega arith; within = omega arith }

first_succeeds : Succeeds (each_try (block_requests 5 first_block)) (Some (0x77 ∷ [])) last_read
first_succeeds = (
  last_read,
  [],
  0,
  refl,
  (
    Exactly 1,
    refl,
    (Exactly 1, refl, (Anything, refl, (Exactly 0, refl, (Nothing, tt, (Exactly 1, refl, (Nothing, tt, refl)))))),
  ),
  refl,
  omega arith,
  refl,
)

pub last_is_read : IsRead 5 last_course (0x77 ∷ []) last_read
last_is_read =
    record {
      done = last_done ∷ [];
      in_turn = (tt, first_fits, refl, first_succeeds);
      bytes_are = refl;
      told_are = refl;
      over = refl;
    }

-- two blocks, one after the other

first_part_read : Succeeds (each_try (block_requests 5 first_block)) (Some (0x02 ∷ [])) first_part
first_part_read = (
  first_part,
  [],
  0,
  refl,
  (
    Exactly 1,
    refl,
    (Exactly 1, refl, (Anything, refl, (Exactly 0, refl, (Nothing, tt, (Exactly 1, refl, (Nothing, tt, refl)))))),
  ),
  refl,
  omega arith,
  refl,
)

-- with seven misses before it
second_part_read : Succeeds (each_try (block_requests 5 (block 0x01 2))) (Some (0x0A ∷ 0x0B ∷ []))
    (second_part ++ missed_tries 7)
second_part_read = (
  second_part,
  missed_tries 7,
  7,
  refl,
  (
    Exactly 1,
    refl,
    (
      Exactly 3,
      refl,
      (Anything, refl, (Anything, refl, (Exactly 1, refl, (Nothing, tt, (Exactly 1, refl, (Nothing, tt, refl)))))),
    ),
  ),
  refl,
  omega arith,
  all_missed (block 0x01 2) 7,
)

pub bank_is_read : IsRead 5 bank_course (0x02 ∷ 0x0A ∷ 0x0B ∷ []) (second_part ++ missed_tries 7 ++ first_part)
bank_is_read =
    record {
      done = record { block = block 0x01 2; bytes = 0x0A ∷ 0x0B ∷ []; told = second_part ++ missed_tries 7 }
          ∷ record { block = first_block; bytes = 0x02 ∷ []; told = first_part } ∷ [];
      in_turn = (
        (tt, first_fits, refl, first_part_read),
        record { some = omega arith; few = omega arith; within = omega arith },
        refl,
        second_part_read,
      );
      bytes_are = refl;
      told_are = refl;
      over = refl;
    }

-- 00h is the first block of a bank's reading, and not all of it
pub not_whole : (told : List Exchange) → IsRead 5 bank_course (0x77 ∷ []) told → ⊥
not_whole told read = let more : Some (block 1 16) ≡ None = read.over in cc

pub two_in_turn : InTurn 5 (λ bytes. Some two_locations)
    (record { block = two_locations; bytes = 0x0A ∷ 0x0B ∷ []; told = whole_read } ∷ [])
two_in_turn = (
  tt,
  two_fit,
  refl,
  (whole_read, [], 0, refl, two_are_read.0, refl, omega arith, refl),
)

-- a block that wasn't next, and one that doesn't fit
pub two_not_next : (bytes : List ℕ) (told : List Exchange)
    → InTurn 5 bank_course (record { block = two_locations; bytes = bytes; told = told } ∷ []) → ⊥
two_not_next bytes told turn = grind arith

pub past_the_last : (told : List Exchange) (bytes : List ℕ)
    → InTurn 5 (λ bytes. Some (block 0xFF 1)) (record { block = block 0xFF 1; bytes = bytes; told = told } ∷ []) → ⊥
past_the_last told bytes turn = last_doesnt.0 turn.1

-- after eight misses the unit is silent
pub silent_after_eight : IsSilent 5 last_course (missed_tries 8)
silent_after_eight =
    record {
      done = [];
      in_turn = tt;
      block = first_block;
      fits = first_fits;
      next = refl;
      missed = missed_tries 8;
      fails = all_missed first_block 8;
      told_are = refl;
    }

-- if the last location's block is next none was read
next_of_last : (unit : ℕ) (done : List Done) (next : Block) → InTurn unit last_course done
    → last_course (bytes_in done) ≡ Some next → (done ≡ []) × (first_block ≡ next)
next_of_last unit done next turn is = grind (arith, none_done)

-- and then all exchanges are of that block
all_of_last : (unit : ℕ) (done : List Done) (next : Block) (newer told : List Exchange) → InTurn unit last_course done
    → last_course (bytes_in done) ≡ Some next → newer ++ told_in done ≡ told → newer ≡ told
all_of_last unit done next newer told turn is parts = grind (arith, next_of_last, append-nil)

pub not_silent_after_seven : IsSilent 5 last_course (missed_tries 7) → ⊥
not_silent_after_seven silent =
    grind (
      arith,
      all_of_last 5 silent.done silent.block silent.missed (missed_tries 7) silent.in_turn silent.next
          silent.told_are,
      access_ends 5 (read_block silent.block) None silent.missed [] (inr (refl, silent.fails)) tt,
      append-nil silent.missed,
    )

-- after four frames the read is next, and no other frame
four_amid : IsAmid 5 first_block four_frames (Read 5)
four_amid =
    record {
      tried = four_frames;
      missed = [];
      misses = 0;
      next = request (Read 5) Anything;
      left = drop 5 (block_requests 5 first_block);
      parts = refl;
      few = omega arith;
      misses_are = refl;
      try = (Exactly 0, refl, (Nothing, tt, (Exactly 1, refl, (Nothing, tt, refl))));
      frame_is = refl;
    }

pub read_is_next : IsReading 5 last_course four_frames (Read 5)
read_is_next =
    record {
      done = [];
      in_turn = tt;
      block = first_block;
      fits = first_fits;
      next = refl;
      tried = four_frames;
      amid = four_amid;
      told_are = refl;
    }

pub no_other_next : (frame : Frame) → IsReading 5 last_course four_frames frame → Read 5 ≡ frame
no_other_next frame reading =
    let here = all_of_last 5 reading.done reading.block reading.tried four_frames reading.in_turn reading.next
    reading.told_are in
    let next = (next_of_last 5 reading.done reading.block reading.in_turn reading.next).1 in
    let amid : IsAmid 5 first_block four_frames frame = rw (← here, next) reading.amid in
    let same =
    wants_one four_frames 5 (read_block first_block) (Send (Read 5)) (Send frame)
    (amid_wants 5 first_block four_frames (Read 5) four_amid) (amid_wants 5 first_block four_frames frame amid) in
    cc

-- When a byte was there

-- a byte that came back was at its location in a world between the first and the last
pub was_there : (loses : ℕ → Type 0) (told : List Exchange) (first last : World) (unit location byte : ℕ)
    → WhenTold loses told first last unit location byte
    → (reached : World) × (byte_at reached unit 1 location ≡ Some byte)
was_there loses told first last unit location byte w = grind arith

-- and that location isn't FFh
pub not_ff : (loses : ℕ → Type 0) (told : List Exchange) (first last : World) (unit location byte : ℕ)
    → WhenTold loses told first last unit location byte → location < 0xFF
not_ff loses told first last unit location byte w = grind (arith, slice_get_within, block_count, place_is)

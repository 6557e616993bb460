-- How many frames readings take.
use Rattle.std.specs.Prelude.{ℕ, suc, zero, ◌+◌, ◌*◌, ◌/◌, ◌≤◌, ◌==◌, nat_lt, min, List, [], ◌∷◌, length, if◌then◌else◌}
use Rattle.dali_write.specs.Exchanges.{Exchange}
use Rattle.dali_write.specs.Misses.{misses_in}
use Rattle.dali_write.specs.Plans.{greatest}
use Rattle.dali_read.specs.declared.finding.Finding.{Finding}
use Rattle.dali_read.specs.declared.finding.Finding.TheVariants.{Short, Format}
use Rattle.dali_write.specs.Blocks.{most_locations}

-- the frames of a block read of this many locations
abbrev pub block_frames : ℕ → ℕ
block_frames count = count + 6

-- those of this many locations in a row
abbrev pub row_frames : ℕ → ℕ
row_frames count = count + 6 * ((count + 15) / most_locations)

-- those of a whole bank with this last location
abbrev pub bank_frames : ℕ → ℕ
bank_frames last = block_frames 1 + row_frames (min last 0xFE)

-- those of the identity of a unit whose bank has this last location
abbrev pub identity_frames : ℕ → ℕ
identity_frames last = block_frames 1 + (if nat_lt last 0x10 then 0 else block_frames 14)

-- The blocks of these updates, if this location is next to that of the update before them, whose block has room for
-- `room` more.
abbrev pub blocks_behind : ℕ → ℕ → List (ℕ × ℕ) → ℕ
blocks_behind room next [] = 0
blocks_behind zero next (update ∷ updates) = 1 + blocks_behind 15 (suc update.0) updates
blocks_behind (suc room) next (update ∷ updates) =
    if update.0 == next then blocks_behind room (suc next) updates else 1 + blocks_behind 15 (suc update.0) updates

-- those of an order of these updates that suits its bank
abbrev pub order_frames : List (ℕ × ℕ) → ℕ
order_frames updates =
    block_frames 1 + (if nat_lt (greatest updates) 0x13 then 0 else block_frames 2)
    + (length updates + 6 * blocks_behind 0 0 updates)

-- these are `frames` frames, and for each miss at most those of a whole block more
abbrev pub AreSoMany : ℕ → List Exchange → Type 0
AreSoMany frames told =
    (frames ≤ length told) × (length told ≤ frames + block_frames most_locations * misses_in told)

-- those of an order of which this was found
abbrev pub found_frames : List (ℕ × ℕ) → Finding → ℕ
found_frames updates Short = block_frames 1
found_frames updates Format = block_frames 1 + block_frames 2
found_frames updates finding = order_frames updates

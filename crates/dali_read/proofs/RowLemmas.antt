-- The rows of an order's updates, and how many blocks they are.
use Rattle.std.proofs.Common.{◌≡◌, refl, ap, ℕ, zero, suc, ◌+◌, ◌*◌, ◌≤◌, ◌==◌, min, Bool, true, false}
use Rattle.std.proofs.Common.{if◌then◌else◌, List, [], ◌∷◌, length, drop, Some, None, arith}
use Rattle.std.proofs.lemmas.Bool.{eq-eqb}
use Rattle.std.proofs.lemmas.List.{length-drop, drop-drop}
use Rattle.dali_write.specs.declared.block.Block.{Block}
use Rattle.dali_read.specs.Places.{in_a_row, row_of}
use Rattle.dali_read.specs.Counts.{block_frames, blocks_behind}

pub row_within : (location : ℕ) (updates : List (ℕ × ℕ)) → in_a_row location updates ≤ length updates
row_within location [] = omega arith
row_within location (update ∷ updates) = grind (arith, row_within (suc location) updates)

-- after those that are in a row with a block, and have room in it, a new one begins
blocks_on : (room next : ℕ) (updates : List (ℕ × ℕ))
    → blocks_behind room next updates ≡ blocks_behind 0 0 (drop (min (in_a_row next updates) room) updates)
blocks_on room next [] = grind arith
blocks_on zero next (update ∷ updates) = grind arith
blocks_on (suc room) next (update ∷ updates) = by (update.0 == next) (blocks_on room (suc next) updates)
  where
    by : (b : Bool)
        → blocks_behind room (suc next) updates
        ≡ blocks_behind 0 0 (drop (min (in_a_row (suc next) updates) room) updates)
        → (if b then blocks_behind room (suc next) updates else 1 + blocks_behind 15 (suc update.0) updates)
        ≡ blocks_behind 0 0
        (drop (min (if b then suc (in_a_row (suc next) updates) else 0) (suc room)) (update ∷ updates))
    by true rest =
        let count : min (suc (in_a_row (suc next) updates)) (suc room) ≡ suc (min (in_a_row (suc next) updates) room) =
        omega arith in
        rw count rest
    by false rest = let none : min 0 (suc room) ≡ 0 = omega arith in rw none refl

-- `count` of the updates were read, by blocks that took `frames` frames
pub record Rows (updates : List (ℕ × ℕ)) (frames count : ℕ) : Type 0 where
  pub blocks : ℕ
  pub frames_are : frames ≡ count + 6 * blocks
  pub few : count ≤ length updates
  pub blocks_are : blocks_behind 0 0 updates ≡ blocks + blocks_behind 0 0 (drop count updates)

pub no_rows : (updates : List (ℕ × ℕ)) → Rows updates 0 0
no_rows updates = grind arith

-- one more row
one_row : (updates : List (ℕ × ℕ)) (next : Block) → row_of updates ≡ Some next
    → (next.count ≤ length updates) × (blocks_behind 0 0 updates ≡ 1 + blocks_behind 0 0 (drop next.count updates))
one_row [] next is = cc
one_row (update ∷ updates) next is =
    let same = eq-eqb update.0 update.0 refl in
    let here : in_a_row update.0 (update ∷ updates) ≡ suc (in_a_row (suc update.0) updates) = rw same refl in
    let within = row_within (suc update.0) updates in
    let is_block : Block = record {
      location = update.0;
      count = min (in_a_row update.0 (update ∷ updates)) 16;
    } in
    let both : is_block ≡ next = cc in
    let count_is : min (in_a_row update.0 (update ∷ updates)) 16 ≡ next.count = ap (λ (b : Block). b.count) both in
    let count : next.count ≡ suc (min (in_a_row (suc update.0) updates) 15) = omega arith in
    (omega arith, rw count (ap (λ (n : ℕ). 1 + n) (blocks_on 15 (suc update.0) updates)))

pub more_rows : (updates : List (ℕ × ℕ)) (frames count : ℕ) (next : Block) → Rows updates frames count
    → row_of (drop count updates) ≡ Some next
    → Rows updates (block_frames next.count + frames) (count + next.count)
more_rows updates frames count next rows is =
    let one = one_row (drop count updates) next is in
    let left = length-drop count updates in
    let frames_are = rows.frames_are in
    let few = rows.few in
    let within = one.0 in
    let here = one.1 in
    let blocks_are = rows.blocks_are in
    let on : blocks_behind 0 0 (drop next.count (drop count updates))
    ≡ blocks_behind 0 0 (drop (count + next.count) updates) =
    ap (λ (l : List (ℕ × ℕ)). blocks_behind 0 0 l) (drop-drop next.count count updates) in
    record {
      blocks = suc rows.blocks;
      frames_are = omega arith;
      few = omega arith;
      blocks_are = omega arith;
    }

no_row : (updates : List (ℕ × ℕ)) → row_of updates ≡ None → updates ≡ []
no_row [] is = refl
no_row (update ∷ updates) is = cc

-- after the last row
pub all_rows : (updates : List (ℕ × ℕ)) (frames count : ℕ) → Rows updates frames count
    → row_of (drop count updates) ≡ None
    → frames ≡ length updates + 6 * blocks_behind 0 0 updates
all_rows updates frames count rows over = grind (arith, no_row (drop count updates) over, length-drop count updates)

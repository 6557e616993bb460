-- How many frames readings of 00h alone and of a whole bank take.
use Rattle.std.proofs.Common.{◌≡◌, ◌⊎◌, inl, inr, refl, sym, ap, subst, ◌∙◌, ℕ, suc, ◌+◌, ◌-◌, ◌*◌, ◌/◌, ◌≤◌}
use Rattle.std.proofs.Common.{◌<◌, min, nat_lt, Bool, true, false, if◌then◌else◌, List, [], ◌∷◌, ◌++◌, length}
use Rattle.std.proofs.Common.{length-append, Some, None, arith}
use Rattle.std.proofs.lemmas.Bool.{ltb-true, ltb-false}
use Rattle.dali_write.specs.Exchanges.{Exchange}
use Rattle.dali_write.specs.declared.block.Block.{Block}
use Rattle.dali_read.specs.Places.{first_block, last_course, bank_course}
use Rattle.dali_read.specs.Readings.{Course, Done, bytes_in, InTurn, IsRead}
use Rattle.dali_read.specs.Counts.{block_frames, bank_frames, AreSoMany}
use Rattle.dali_read.proofs.TurnLemmas.{frames_of, turn_frames, added, none_done}

-- the first of a course's blocks is that of 00h
pub first_frames : (unit : ℕ) (course : Course) (newest : Done) (done : List Done)
    → course [] ≡ Some first_block → InTurn unit course (newest ∷ done) → bytes_in done ≡ []
    → (frames_of (newest ∷ done) ≡ block_frames 1) × (length newest.bytes ≡ 1)
first_frames unit course newest done first turn none = grind (arith, none_done, added, frames_of)

-- 00h alone

last_so_far : (unit : ℕ) (done : List Done) → InTurn unit last_course done → done ≡ []
    ⊎ (frames_of done ≡ block_frames 1)
last_so_far unit [] turn = inl refl
last_so_far unit (newest ∷ done) turn = inr (by (bytes_in done) refl)
  where
    by : (bytes : List ℕ) → bytes_in done ≡ bytes → frames_of (newest ∷ done) ≡ block_frames 1
    by [] none = (first_frames unit last_course newest done refl turn none).0
    by (last ∷ more) are =
        let over : None ≡ Some newest.block = ap last_course (sym are) ∙ turn.2 in cc

pub last_took : (told : List Exchange) (unit : ℕ) (bytes : List ℕ) → IsRead unit last_course bytes told
    → AreSoMany (block_frames 1) told
last_took told unit bytes read = grind (arith, last_so_far, frames_of, turn_frames)

-- a whole bank: `count` of its locations after 00h were read by blocks of sixteen, which took `frames` frames
record BankSoFar (frames count end : ℕ) : Type 0 where
  blocks : ℕ
  frames_are : frames ≡ block_frames 1 + (count + 6 * blocks)
  within : count ≤ end
  least : count ≤ 16 * blocks
  most : 16 * blocks < count + 16
  full : (count ≡ 16 * blocks) ⊎ (count ≡ end)

bank_step : (frames count end more : ℕ) → BankSoFar frames count end → count < end → more ≡ min (end - count) 16
    → BankSoFar (block_frames more + frames) (count + more) end
bank_step frames count end more so below is =
    let frames_are = so.frames_are in
    let here : count ≡ 16 * so.blocks = by so.full in
    record {
      blocks = suc so.blocks;
      frames_are = omega arith;
      within = omega arith;
      least = omega arith;
      most = omega arith;
      full = fuller (nat_lt (end - count) 16) refl here;
    }
  where
    by : (count ≡ 16 * so.blocks) ⊎ (count ≡ end) → count ≡ 16 * so.blocks
    by (inl full) = full
    by (inr all) = absurd (omega arith)

    fuller : (b : Bool) → nat_lt (end - count) 16 ≡ b → count ≡ 16 * so.blocks
        → (count + more ≡ 16 * suc so.blocks) ⊎ (count + more ≡ end)
    fuller true e here = let less = ltb-true (end - count) 16 e in inr (omega arith)
    fuller false e here = let no_less = ltb-false (end - count) 16 e in inl (omega arith)

pub if_next : (b : Bool) (x y : Block) → (if b then Some x else None) ≡ Some y → (b ≡ true) × (x ≡ y)
if_next true x y e = (refl, cc)
if_next false x y e = cc

-- the next block of a bank, after this many locations
next_count : (last : ℕ) (more : List ℕ) (next : Block) → bank_course (last ∷ more) ≡ Some next
    → (length more < min last 0xFE) × (next.count ≡ min (min last 0xFE - length more) 16)
next_count last more next is = grind (arith, if_next (nat_lt (length more) (min last 0xFE)) _ next is, ltb-true)

bank_so_far : (unit : ℕ) (done : List Done) (last : ℕ) (more : List ℕ) → InTurn unit bank_course done
    → bytes_in done ≡ last ∷ more → BankSoFar (frames_of done) (length more) (min last 0xFE)
bank_so_far unit [] last more turn are = cc
bank_so_far unit (newest ∷ done) last more turn are =
    by (bytes_in done) refl (λ head old was. bank_so_far unit done head old turn.0 was)
  where
    by : (bytes : List ℕ) → bytes_in done ≡ bytes
        → ((head : ℕ) (old : List ℕ) → bytes_in done ≡ head ∷ old
        → BankSoFar (frames_of done) (length old) (min head 0xFE))
        → BankSoFar (frames_of (newest ∷ done)) (length more) (min last 0xFE)
    by [] none older =
        let first = first_frames unit bank_course newest done refl turn none in
        let all = ap (λ (l : List ℕ). length l) are in
        let joined = length-append (bytes_in done) newest.bytes in
        let nothing : length (bytes_in done) ≡ 0 = ap (λ (l : List ℕ). length l) none in
        let frames = first.0 in
        let one = first.1 in
        record {
          blocks = 0;
          frames_are = omega arith;
          within = omega arith;
          least = omega arith;
          most = omega arith;
          full = inl (omega arith);
        }
    by (head ∷ old) was older =
        let before = older head old was in
        let next = next_count head old newest.block (ap bank_course (sym was) ∙ turn.2) in
        let count = added unit bank_course newest done turn in
        let joined : head ∷ (old ++ newest.bytes) ≡ last ∷ more =
        ap (λ (l : List ℕ). l ++ newest.bytes) (sym was) ∙ are in
        let same : head ≡ last = cc in
        let rest : old ++ newest.bytes ≡ more = cc in
        let long : length old + newest.block.count ≡ length more =
        let sum = length-append old newest.bytes in
        let all : length (old ++ newest.bytes) ≡ length more = ap (λ (l : List ℕ). length l) rest in omega arith in
        subst (λ (h : ℕ). BankSoFar (frames_of (newest ∷ done)) (length more) (min h 0xFE)) same
        (subst (λ (n : ℕ). BankSoFar (frames_of (newest ∷ done)) n (min head 0xFE)) long
        (bank_step (frames_of done) (length old) (min head 0xFE) newest.block.count before next.0 next.1))

if_over : (b : Bool) (x : Block) → (if b then Some x else None) ≡ None → b ≡ false
if_over true x e = cc
if_over false x e = refl

bank_over : (frames count end : ℕ) → BankSoFar frames count end → end ≤ count
    → frames ≡ block_frames 1 + (end + 6 * ((end + 15) / 16))
bank_over frames count end so over = grind arith

pub bank_took : (told : List Exchange) (unit last : ℕ) (more : List ℕ) → IsRead unit bank_course (last ∷ more) told
    → AreSoMany (bank_frames last) told
bank_took told unit last more read =
    grind (
      arith,
      bank_so_far unit read.done last more read.in_turn read.bytes_are,
      ltb-false (length more) (min last
          0xFE) (if_over (nat_lt (length more) (min last 0xFE)) _ read.over),
      frames_of read.done,
      bank_over,
      turn_frames
          unit bank_course read.done read.in_turn,
    )

-- the limit

pub last_few : (unit : ℕ) (done : List Done) (next : Block) → InTurn unit last_course done
    → last_course (bytes_in done) ≡ Some next
    → block_frames next.count + frames_of done ≤ block_frames 1
last_few unit done next turn is = grind (arith, frames_of, none_done)

few_frames : (frames count end : ℕ) → BankSoFar frames count end → end ≤ 0xFE → frames ≤ bank_frames 0xFE
few_frames frames count end so small = grind arith

pub bank_few : (unit : ℕ) (done : List Done) (next : Block) → InTurn unit bank_course done
    → bank_course (bytes_in done) ≡ Some next
    → block_frames next.count + frames_of done ≤ bank_frames 0xFE
bank_few unit done next turn is = by (bytes_in done) refl
  where
    by : (bytes : List ℕ) → bytes_in done ≡ bytes → block_frames next.count + frames_of done ≤ bank_frames 0xFE
    by [] none =
        let nothing : frames_of done ≡ 0 = ap frames_of (none_done unit bank_course done turn none) in
        let both : Some first_block ≡ Some next = ap bank_course (sym none) ∙ is in
        let first : first_block ≡ next = cc in
        let one : 1 ≡ next.count = ap (λ (b : Block). b.count) first in
        omega arith
    by (last ∷ more) are =
        let so = next_count last more next (ap bank_course (sym are) ∙ is) in
        few_frames _ _ (min last 0xFE)
        (bank_step (frames_of done) (length more) (min last 0xFE) next.count (bank_so_far unit done last more turn are)
        so.0 so.1)
        (omega arith)

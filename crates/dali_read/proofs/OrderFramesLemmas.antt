-- How many frames a reading of what an order needs takes.
use Rattle.std.proofs.Common.{◌≡◌, ◌⊎◌, inl, inr, refl, sym, ap, subst, ◌∙◌, ℕ, ◌+◌, ◌*◌, ◌≤◌, ◌<◌, ◌==◌}
use Rattle.std.proofs.Common.{◌&&◌, nat_lt, Bool, true, false, if◌then◌else◌, List, [], ◌∷◌, ◌++◌, length, drop}
use Rattle.std.proofs.Common.{length-append, replicate, Option, Some, None, arith}
use Rattle.std.proofs.lemmas.Bool.{ltb-true, ltb-false, lt-ltb, le-ltb}
use Rattle.std.proofs.lemmas.Bool.{eqb-true}
use Rattle.std.proofs.lemmas.List.{length-replicate}
use Rattle.std.specs.Cmp.{first_so, second_so}
use Rattle.dali_write.specs.Exchanges.{Exchange}
use Rattle.dali_write.specs.Plans.{greatest}
use Rattle.dali_write.specs.declared.block.Block.{Block}
use Rattle.dali_read.specs.declared.finding.Finding.{Finding}
use Rattle.dali_read.specs.declared.finding.Finding.TheVariants.{Same, Other, Short, Format}
use Rattle.dali_read.specs.Places.{first_block, row_of, order_course}
use Rattle.dali_read.specs.Readings.{Done, bytes_in, InTurn, IsRead}
use Rattle.dali_read.specs.Findings.{IsFound, IsFirstOther}
use Rattle.dali_read.specs.Counts.{block_frames, blocks_behind, order_frames, found_frames, AreSoMany}
use Rattle.dali_read.proofs.TurnLemmas.{frames_of, turn_frames, added, none_done}
use Rattle.dali_read.proofs.BankFramesLemmas.{first_frames}
use Rattle.dali_read.proofs.RowLemmas.{Rows, no_rows, more_rows, all_rows}

-- the rows are read, and the format doesn't matter
record LowRows (updates : List (ℕ × ℕ)) (frames last : ℕ) (more : List ℕ) : Type 0 where
  low : greatest updates < 0x13
  reaches : greatest updates ≤ last
  rows : ℕ
  frames_are : frames ≡ 7 + rows
  rows_are : Rows updates rows (length more)

-- the format is read, and the rows, if it suits
record HighRows (updates : List (ℕ × ℕ)) (frames last : ℕ) (more : List ℕ) : Type 0 where
  high : 0x13 ≤ greatest updates
  reaches : greatest updates ≤ last
  format_high : ℕ
  format_low : ℕ
  found : List ℕ
  parts : more ≡ format_high ∷ format_low ∷ found
  rows : ℕ
  frames_are : frames ≡ 15 + rows
  rows_are : Rows updates rows (length found)
  suits : (rows ≡ 0) ⊎ ((format_high ≡ 0x00) × (format_low ≡ 0x03))

-- the bytes that were read, after 00h, and the frames of all
abbrev OrderSoFar : List (ℕ × ℕ) → ℕ → ℕ → List ℕ → Type 0
OrderSoFar updates frames last more =
    ((more ≡ []) × (frames ≡ 7)) ⊎ (LowRows updates frames last more ⊎ HighRows updates frames last more)

pub if_not : (b : Bool) (x : Option Block) (y : Block) → (if b then None else x) ≡ Some y → (b ≡ false) × (x ≡ Some y)
if_not true x y e = cc
if_not false x y e = (refl, e)

pub if_so : (b : Bool) (x : Option Block) (y : Block) → (if b then x else None) ≡ Some y → (b ≡ true) × (x ≡ Some y)
if_so true x y e = (refl, e)
if_so false x y e = cc

two_bytes : (bytes : List ℕ) → length bytes ≡ 2 → (high : ℕ) × (low : ℕ) × (bytes ≡ high ∷ low ∷ [])
two_bytes [] two = let no : ⊥ = omega arith in absurd no
two_bytes (a ∷ []) two = let no : ⊥ = omega arith in absurd no
two_bytes (a ∷ b ∷ []) two = (a, b, refl)
two_bytes (a ∷ b ∷ c ∷ bytes) two = let no : ⊥ = omega arith in absurd no

-- one more block
low_step : (updates : List (ℕ × ℕ)) (frames last : ℕ) (more bytes : List ℕ) (next : Block)
    → LowRows updates frames last more → order_course updates (last ∷ more) ≡ Some next → length bytes ≡ next.count
    → LowRows updates (block_frames next.count + frames) last (more ++ bytes)
low_step updates frames last more bytes next so is count =
    let reaches = le-ltb last (greatest updates) so.reaches in
    let low = lt-ltb (greatest updates) 0x13 so.low in
    let row : row_of (drop (length more) updates) ≡ Some next = rw (reaches, low) at is in
    let sum = length-append more bytes in
    let all : length more + next.count ≡ length (more ++ bytes) = omega arith in
    let frames_are = so.frames_are in
    record {
      low = so.low;
      reaches = so.reaches;
      rows = block_frames next.count + so.rows;
      frames_are = omega arith;
      rows_are = subst (λ (n : ℕ). Rows updates (block_frames next.count + so.rows) n) all
          (more_rows updates so.rows (length more) next so.rows_are row);
    }

high_step : (updates : List (ℕ × ℕ)) (frames last : ℕ) (more bytes : List ℕ) (next : Block)
    → HighRows updates frames last more → order_course updates (last ∷ more) ≡ Some next → length bytes ≡ next.count
    → HighRows updates (block_frames next.count + frames) last (more ++ bytes)
high_step updates frames last more bytes next so is count =
    let reaches = le-ltb last (greatest updates) so.reaches in
    let high = le-ltb (greatest updates) 0x13 so.high in
    let here : order_course updates (last ∷ so.format_high ∷ so.format_low ∷ so.found) ≡ Some next =
    subst (λ (m : List ℕ). order_course updates (last ∷ m) ≡ Some next) so.parts is in
    let test = (so.format_high == 0x00) && (so.format_low == 0x03) in
    let chosen : (if test then row_of (drop (length so.found) updates) else None) ≡ Some next =
    rw (reaches, high) at here in
    let both = if_so test (row_of (drop (length so.found) updates)) next chosen in
    let sum = length-append so.found bytes in
    let all : length so.found + next.count ≡ length (so.found ++ bytes) = omega arith in
    let frames_are = so.frames_are in
    record {
      high = so.high;
      reaches = so.reaches;
      format_high = so.format_high;
      format_low = so.format_low;
      found = so.found ++ bytes;
      parts = ap (λ (m : List ℕ). m ++ bytes) so.parts;
      rows = block_frames next.count + so.rows;
      frames_are = omega arith;
      rows_are = subst (λ (n : ℕ). Rows updates (block_frames next.count + so.rows) n) all
          (more_rows updates so.rows (length so.found) next so.rows_are both.1);
      suits = inr (
        eqb-true so.format_high 0x00 (first_so (so.format_high == 0x00) (so.format_low == 0x03) both.0),
        eqb-true so.format_low 0x03 (second_so (so.format_high == 0x00) (so.format_low == 0x03) both.0),
      );
    }

-- the block after 00h
first_step : (updates : List (ℕ × ℕ)) (frames last : ℕ) (bytes : List ℕ) (next : Block) (low : Bool)
    → frames ≡ 7 → order_course updates (last ∷ []) ≡ Some next → length bytes ≡ next.count
    → nat_lt (greatest updates) 0x13 ≡ low
    → OrderSoFar updates (block_frames next.count + frames) last bytes
first_step updates frames last bytes next true seven is count low_is =
    let reaches = (if_not (nat_lt last (greatest updates)) _ next is).0 in
    inr (inl (low_step updates frames last [] bytes next (record {
      low = ltb-true (greatest updates) 0x13 low_is;
      reaches = ltb-false last (greatest updates) reaches;
      rows = 0;
      frames_are = omega arith;
      rows_are = no_rows updates;
    }) is count))
first_step updates frames last bytes next false seven is count low_is =
    grind (arith, if_not, two_bytes, ltb-false, no_rows)

order_step : (updates : List (ℕ × ℕ)) (frames last : ℕ) (more bytes : List ℕ) (next : Block)
    → OrderSoFar updates frames last more → order_course updates (last ∷ more) ≡ Some next
    → length bytes ≡ next.count
    → OrderSoFar updates (block_frames next.count + frames) last (more ++ bytes)
order_step updates frames last more bytes next (inl none) is count = grind (arith, first_step)
order_step updates frames last more bytes next (inr (inl so)) is count = grind (arith, low_step)
order_step updates frames last more bytes next (inr (inr so)) is count = grind (arith, high_step)

order_so_far : (unit : ℕ) (updates : List (ℕ × ℕ)) (done : List Done) (last : ℕ) (more : List ℕ)
    → InTurn unit (order_course updates) done → bytes_in done ≡ last ∷ more
    → OrderSoFar updates (frames_of done) last more
order_so_far unit updates [] last more turn are = cc
order_so_far unit updates (newest ∷ done) last more turn are =
    by (bytes_in done) refl (λ head old was. order_so_far unit updates done head old turn.0 was)
  where
    by : (bytes : List ℕ) → bytes_in done ≡ bytes
        → ((head : ℕ) (old : List ℕ) → bytes_in done ≡ head ∷ old → OrderSoFar updates (frames_of done) head old)
        → OrderSoFar updates (frames_of (newest ∷ done)) last more
    by [] none older =
        let first = first_frames unit (order_course updates) newest done refl turn none in
        let joined : newest.bytes ≡ last ∷ more =
        ap (λ (l : List ℕ). l ++ newest.bytes) (sym none) ∙ are in
        let all = ap (λ (l : List ℕ). length l) joined in
        let one = first.1 in
        inl (nil more (omega arith), first.0)
      where
        nil : (l : List ℕ) → length l ≡ 0 → l ≡ []
        nil [] e = refl
        nil (x ∷ l) e = let no : ⊥ = omega arith in absurd no
    by (head ∷ old) was older =
        let joined : head ∷ (old ++ newest.bytes) ≡ last ∷ more =
        ap (λ (l : List ℕ). l ++ newest.bytes) (sym was) ∙ are in
        let same : head ≡ last = cc in
        let rest : old ++ newest.bytes ≡ more = cc in
        subst (λ (h : ℕ). OrderSoFar updates (frames_of (newest ∷ done)) h more) same
        (subst (λ (m : List ℕ). OrderSoFar updates (frames_of (newest ∷ done)) head m) rest
        (order_step updates (frames_of done) head old newest.bytes newest.block (older head old was)
        (ap (order_course updates) (sym was) ∙ turn.2) (added unit (order_course updates) newest done turn)))

-- the end, by what is found

short_end : (updates : List (ℕ × ℕ)) (frames last : ℕ) (more : List ℕ) → OrderSoFar updates frames last more
    → last < greatest updates → frames ≡ 7
short_end updates frames last more (inl none) short = none.1
short_end updates frames last more (inr (inl so)) short = let reaches = so.reaches in absurd (omega arith)
short_end updates frames last more (inr (inr so)) short = let reaches = so.reaches in absurd (omega arith)

format_end : (updates : List (ℕ × ℕ)) (frames last high low : ℕ) (more : List ℕ)
    → OrderSoFar updates frames last (high ∷ low ∷ more) → 0x13 ≤ greatest updates
    → ((high ≡ 0x00) × (low ≡ 0x03) → ⊥) → frames ≡ 15
format_end updates frames last high low more (inl none) above differs = let no = none.0 in cc
format_end updates frames last high low more (inr (inl so)) above differs = grind arith
format_end updates frames last high low more (inr (inr so)) above differs = grind arith

low_end : (updates : List (ℕ × ℕ)) (frames last : ℕ) (more : List ℕ) → OrderSoFar updates frames last more
    → order_course updates (last ∷ more) ≡ None → greatest updates ≤ last → greatest updates < 0x13
    → frames ≡ order_frames updates
low_end updates frames last more so over reaches low =
    let reaches_is = le-ltb last (greatest updates) reaches in
    let low_is = lt-ltb (greatest updates) 0x13 low in
    let row : row_of (drop (length more) updates) ≡ None = rw (reaches_is, low_is) at over in
    rw low_is (by so row)
  where
    by : OrderSoFar updates frames last more → row_of (drop (length more) updates) ≡ None
        → frames ≡ 7 + 0 + (length updates + 6 * blocks_behind 0 0 updates)
    by (inl none) row =
        let all =
        all_rows updates 0 0 (no_rows updates)
        (subst (λ (m : List ℕ). row_of (drop (length m) updates) ≡ None) none.0 row) in
        let seven = none.1 in
        omega arith
    by (inr (inl so)) row =
        let all = all_rows updates so.rows (length more) so.rows_are row in
        let frames_are = so.frames_are in
        omega arith
    by (inr (inr so)) row = let high = so.high in absurd (omega arith)

high_end : (updates : List (ℕ × ℕ)) (frames last : ℕ) (more : List ℕ)
    → OrderSoFar updates frames last (0x00 ∷ 0x03 ∷ more)
    → order_course updates (last ∷ 0x00 ∷ 0x03 ∷ more) ≡ None → greatest updates ≤ last → 0x13 ≤ greatest updates
    → frames ≡ order_frames updates
high_end updates frames last more so over reaches high =
    let reaches_is = le-ltb last (greatest updates) reaches in
    let high_is = le-ltb (greatest updates) 0x13 high in
    let row : row_of (drop (length more) updates) ≡ None = rw (reaches_is, high_is) at over in
    rw high_is (by so row)
  where
    by : OrderSoFar updates frames last (0x00 ∷ 0x03 ∷ more) → row_of (drop (length more) updates) ≡ None
        → frames ≡ 7 + 8 + (length updates + 6 * blocks_behind 0 0 updates)
    by (inl none) row = let no = none.0 in cc
    by (inr (inl so)) row = let low = so.low in absurd (omega arith)
    by (inr (inr so)) row =
        let parts = so.parts in
        let same : more ≡ so.found = cc in
        let all =
        all_rows updates so.rows (length so.found) so.rows_are
        (subst (λ (m : List ℕ). row_of (drop (length m) updates) ≡ None) same row) in
        let frames_are = so.frames_are in
        omega arith

-- what was read suits the order
behind_end : (unit : ℕ) (updates : List (ℕ × ℕ)) (done : List Done) (bytes : List ℕ) (last : ℕ) (P : List ℕ → Type 0)
    → InTurn unit (order_course updates) done → bytes_in done ≡ bytes → order_course updates bytes ≡ None
    → greatest updates ≤ last
    → ((more : List ℕ) × (bytes ≡ last ∷ more) × (greatest updates < 0x13) × P more)
    ⊎ ((more : List ℕ) × (bytes ≡ last ∷ 0x00 ∷ 0x03 ∷ more) × (0x13 ≤ greatest updates) × P more)
    → frames_of done ≡ order_frames updates
behind_end unit updates done bytes last P turn are over reaches (inl low) =
    low_end updates (frames_of done) last low.0 (order_so_far unit updates done last low.0 turn (are ∙ low.1))
    (ap (order_course updates) (sym low.1) ∙ over) reaches low.2
behind_end unit updates done bytes last P turn are over reaches (inr high) =
    high_end updates (frames_of done) last high.0
    (order_so_far unit updates done last (0x00 ∷ 0x03 ∷ high.0) turn (are ∙ high.1))
    (ap (order_course updates) (sym high.1) ∙ over) reaches high.2

-- the frames of all that was read, by what is found
order_end : (unit : ℕ) (updates : List (ℕ × ℕ)) (done : List Done) (bytes : List ℕ) (finding : Finding)
    → InTurn unit (order_course updates) done → bytes_in done ≡ bytes → order_course updates bytes ≡ None
    → IsFound updates bytes finding → frames_of done ≡ found_frames updates finding
order_end unit updates done bytes Short turn are over is =
    short_end updates (frames_of done) is.0 is.1 (order_so_far unit updates done is.0 is.1 turn (are ∙ is.2)) is.3
order_end unit updates done bytes Format turn are over is =
    format_end updates (frames_of done) is.0 is.1 is.2 is.3
    (order_so_far unit updates done is.0 (is.1 ∷ is.2 ∷ is.3) turn (are ∙ is.4)) is.6 is.7
order_end unit updates done bytes Same turn are over is =
    behind_end unit updates done bytes is.0 (λ more. IsFirstOther updates more Same) turn are over is.1 is.2
order_end unit updates done bytes (Other location byte) turn are over is =
    behind_end unit updates done bytes is.0 (λ more. IsFirstOther updates more (Other location byte)) turn are over is.1
    is.2

pub order_took : (told : List Exchange) (unit : ℕ) (updates : List (ℕ × ℕ)) (bytes : List ℕ) (finding : Finding)
    → IsRead unit (order_course updates) bytes told → IsFound updates bytes finding
    → AreSoMany (found_frames updates finding) told
order_took told unit updates bytes finding read found =
    grind (
      arith,
      order_end unit updates read.done bytes finding read.in_turn read.bytes_are read.over found,
      turn_frames unit (order_course updates) read.done read.in_turn,
    )

-- the limit

few_so_far : (updates : List (ℕ × ℕ)) (frames last : ℕ) (more : List ℕ) → OrderSoFar updates frames last more
    → frames ≤ order_frames updates
few_so_far updates frames last more (inl none) = let seven = none.1 in omega arith
few_so_far updates frames last more (inr (inl so)) = grind arith
few_so_far updates frames last more (inr (inr so)) = grind (arith, le-ltb (greatest updates) 0x13 so.high)

pub order_few : (unit : ℕ) (updates : List (ℕ × ℕ)) (done : List Done) (next : Block)
    → InTurn unit (order_course updates) done → order_course updates (bytes_in done) ≡ Some next
    → block_frames next.count + frames_of done ≤ order_frames updates
order_few unit updates done next turn is = by (bytes_in done) refl
  where
    by : (bytes : List ℕ) → bytes_in done ≡ bytes → block_frames next.count + frames_of done ≤ order_frames updates
    by [] none =
        let nothing : frames_of done ≡ 0 = ap frames_of (none_done unit (order_course updates) done turn none) in
        let both : Some first_block ≡ Some next = ap (order_course updates) (sym none) ∙ is in
        let first : first_block ≡ next = cc in
        let one : 1 ≡ next.count = ap (λ (b : Block). b.count) first in
        omega arith
    by (last ∷ more) are =
        let bytes : List ℕ = replicate next.count 0 in
        few_so_far updates (block_frames next.count + frames_of done) last (more ++ bytes)
        (order_step updates (frames_of done) last more bytes next (order_so_far unit updates done last more turn are)
        (ap (order_course updates) (sym are) ∙ is) (length-replicate next.count 0))

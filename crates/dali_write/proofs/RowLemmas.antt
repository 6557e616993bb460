-- The rows of updates that are read back.
use Rattle.std.proofs.Common.{◌≡◌, inl, inr, refl, sym, ap, subst, ◌∙◌, ℕ, zero, suc, ◌+◌, ◌*◌, ◌<◌, ◌≤◌, Bool, true, false, ◌==◌, ◌&&◌}
use Rattle.std.proofs.Common.{List, [], ◌∷◌, length, map, take, drop, Some, slice_get, arith}
use Rattle.std.specs.Prelude.{nat_lt, if◌then◌else◌, ⊤}
use Rattle.std.specs.List.{AllByRecursion, Contains}
use Rattle.std.proofs.lemmas.Bool.{eqb-true, ltb-true, ltb-false, eq-eqb, and_parts}
use Rattle.dali_bus.specs.Hears.{up}
use Rattle.dali_write.specs.Requests.{moved_on}
use Rattle.dali_write.specs.Plans.{row_before, rows_of, updates_in, pieces_of, all_rows}
use Rattle.std.proofs.Common.{◌++◌}
use Rattle.std.proofs.lemmas.List.Elements.{Contains-append_cases}
use Rattle.dali_write.proofs.PlaceLemmas.{moved_next}
use Rattle.dali_write.specs.Requests.{block}
use Rattle.dali_write.specs.Touches.{Has}
use Rattle.dali_write.specs.Counts.{rows_frames}
use Rattle.dali_write.proofs.BlockShapeLemmas.{block_frames_are}

-- the bytes of updates
abbrev pub bytes_in : List (ℕ × ℕ) → List ℕ
bytes_in updates = map (λ update. update.1) updates

pub few_in : (others : ℕ) (updates : List (ℕ × ℕ)) → length (bytes_in (take others updates)) ≤ others
few_in zero updates = omega arith
few_in (suc others) [] = omega arith
few_in (suc others) (update ∷ updates) = omega (arith, few_in others updates)

-- the first row is an update and `others` of those after it, and the further ones are the rows of the rest
pub record Split (most : ℕ) (update : ℕ × ℕ) (updates : List (ℕ × ℕ)) : Type 0 where
  pub others : ℕ
  pub within : others ≤ length updates
  pub few : 1 ≤ most → others < most
  pub count : length (bytes_in (take others updates)) ≡ others
  pub rows_are : rows_of most (update ∷ updates)
      ≡ (update.0, update.1 ∷ bytes_in (take others updates)) ∷ rows_of most (drop others updates)

pub split_rows : (most : ℕ) (update : ℕ × ℕ) (updates : List (ℕ × ℕ)) → Split most update updates
split_rows most update [] = record
    { others = 0; within = omega arith; few = λ some. omega arith; count = refl; rows_are = refl }
split_rows most update (next ∷ updates) =
    let rest = split_rows most next updates in
    let row : ℕ × List ℕ = (next.0, next.1 ∷ bytes_in (take rest.others updates)) in
    by rest ((next.0 == up update.0) && nat_lt (length row.1) most) refl
  where
    by : (rest : Split most next updates) (b : Bool)
        → ((next.0 == up update.0) && nat_lt (suc (length (bytes_in (take rest.others updates)))) most) ≡ b
        → Split most update (next ∷ updates)
    by rest true same =
        let below = ltb-true (suc (length (bytes_in (take rest.others updates)))) most
        (and_parts (next.0 == up update.0) _ same).1 in
        record {
          others = suc rest.others;
          within = omega (arith, rest.within);
          few = λ some. omega (arith, rest.count, below);
          count = ap suc rest.count;
          rows_are = ap (row_before most update) rest.rows_are ∙ rw same refl;
        }
    by rest false other =
        record {
          others = 0;
          within = omega arith;
          few = λ some. some;
          count = refl;
          rows_are =
              ap (row_before most update) rest.rows_are
              ∙ (rw other refl)
              ∙ ap (λ (l : List (ℕ × List ℕ)). (update.0, update.1 ∷ []) ∷ l) (sym rest.rows_are);
        }

-- it holds of each byte of the rows, at its place
abbrev pub AllInRow : (ℕ → ℕ → Type 0) → ℕ → List ℕ → Type 0
AllInRow P location [] = ⊤
AllInRow P location (byte ∷ bytes) = P location byte × AllInRow P (up location) bytes

abbrev pub AllInRows : (ℕ → ℕ → Type 0) → List (ℕ × List ℕ) → Type 0
AllInRows P rows = AllByRecursion (λ row. AllInRow P row.0 row.1) rows

row_before_all : (P : ℕ → ℕ → Type 0) (most : ℕ) (update : ℕ × ℕ) (some : List (ℕ × List ℕ))
    → AllInRows P (row_before most update some) → P update.0 update.1 × AllInRows P some
row_before_all P most update [] all = (all.0.0, tt)
row_before_all P most update (row ∷ more) all =
    by ((row.0 == up update.0) && nat_lt (length row.1) most) refl all
  where
    by : (b : Bool) → ((row.0 == up update.0) && nat_lt (length row.1) most) ≡ b
        → AllInRows P (if b then (update.0, update.1 ∷ row.1) ∷ more else (update.0, update.1 ∷ []) ∷ row ∷ more)
        → P update.0 update.1 × AllInRows P (row ∷ more)
    by true same all =
        let next = eqb-true row.0 (up update.0) (and_parts _ _ same).0 in
        (all.0.0, (subst (λ (at : ℕ). AllInRow P at row.1) (sym next) all.0.1, all.1))
    by false other all = (all.0.0, all.1)

-- what holds of the rows of updates holds of each update
pub all_in_rows : (P : ℕ → ℕ → Type 0) (most : ℕ) (updates : List (ℕ × ℕ)) → AllInRows P (rows_of most updates)
    → AllByRecursion (λ update. P update.0 update.1) updates
all_in_rows P most [] all = tt
all_in_rows P most (update ∷ updates) all =
    let both = row_before_all P most update (rows_of most updates) all in
    (both.0, all_in_rows P most updates both.1)

row_before_holds : (P : ℕ → ℕ → Type 0) (most : ℕ) (update : ℕ × ℕ) (some : List (ℕ × List ℕ))
    → P update.0 update.1 → AllInRows P some → AllInRows P (row_before most update some)
row_before_holds P most update [] first all = ((first, tt), tt)
row_before_holds P most update (row ∷ more) first all =
    by ((row.0 == up update.0) && nat_lt (length row.1) most) refl
  where
    by : (b : Bool) → ((row.0 == up update.0) && nat_lt (length row.1) most) ≡ b
        → AllInRows P (if b then (update.0, update.1 ∷ row.1) ∷ more else (update.0, update.1 ∷ []) ∷ row ∷ more)
    by true same =
        let next = eqb-true row.0 (up update.0) (and_parts _ _ same).0 in
        ((first, subst (λ (at : ℕ). AllInRow P at row.1) next all.0), all.1)
    by false other = ((first, tt), all)

-- and what holds of each update holds of the rows
pub rows_hold : (P : ℕ → ℕ → Type 0) (most : ℕ) (updates : List (ℕ × ℕ))
    → ((location byte : ℕ) → Has updates location byte → P location byte) → AllInRows P (rows_of most updates)
rows_hold P most [] each = tt
rows_hold P most (update ∷ updates) each =
    row_before_holds P most update (rows_of most updates) (each update.0 update.1 (inl (refl, refl)))
    (rows_hold P most updates (λ location byte has. each location byte (inr has)))

-- as it is said by an index
pub by_index : (P : ℕ → ℕ → Type 0) (location : ℕ) (bytes : List ℕ)
    → ((index byte : ℕ) → slice_get bytes index ≡ Some byte → P (moved_on location index) byte)
    → AllInRow P location bytes
by_index P location [] each = tt
by_index P location (byte ∷ bytes) each = (
  each 0 byte refl,
  by_index P (up location) bytes
      (λ index later is. subst (λ (at : ℕ). P at later) (sym (moved_next location index)) (each (suc index) later is)),
)

-- no row has more bytes than the most allowed
abbrev pub Small : ℕ → List (ℕ × List ℕ) → Type 0
Small most rows = AllByRecursion (λ row. length row.1 ≤ most) rows

row_before_small : (most : ℕ) (update : ℕ × ℕ) (some : List (ℕ × List ℕ)) → 1 ≤ most → Small most some
    → Small most (row_before most update some)
row_before_small most update [] least small = (least, tt)
row_before_small most update (row ∷ more) least small =
    by ((row.0 == up update.0) && nat_lt (length row.1) most) refl
  where
    by : (b : Bool) → ((row.0 == up update.0) && nat_lt (length row.1) most) ≡ b
        → Small most (if b then (update.0, update.1 ∷ row.1) ∷ more else (update.0, update.1 ∷ []) ∷ row ∷ more)
    by true same = (ltb-true (length row.1) most (and_parts _ _ same).1, small.1)
    by false other = (least, small)

pub rows_small : (most : ℕ) (updates : List (ℕ × ℕ)) → 1 ≤ most → Small most (rows_of most updates)
rows_small most [] least = tt
rows_small most (update ∷ updates) least =
    row_before_small most update (rows_of most updates) least (rows_small most updates least)

-- how many bytes the rows have, and how many frames it takes to read them
abbrev pub bytes_count : List (ℕ × List ℕ) → ℕ
bytes_count [] = 0
bytes_count (row ∷ rows) = length row.1 + bytes_count rows

row_before_count : (most : ℕ) (update : ℕ × ℕ) (some : List (ℕ × List ℕ))
    → bytes_count (row_before most update some) ≡ suc (bytes_count some)
row_before_count most update [] = refl
row_before_count most update (row ∷ more) = by ((row.0 == up update.0) && nat_lt (length row.1) most)
  where
    by : (b : Bool)
        → bytes_count (if b then (update.0, update.1 ∷ row.1) ∷ more else (update.0, update.1 ∷ []) ∷ row ∷ more)
        ≡ suc (bytes_count (row ∷ more))
    by true = omega arith
    by false = omega arith

pub rows_count : (most : ℕ) (updates : List (ℕ × ℕ)) → bytes_count (rows_of most updates) ≡ length updates
rows_count most [] = refl
rows_count most (update ∷ updates) =
    omega (arith, rows_count most updates, row_before_count most update (rows_of most updates))

pub rows_frames_are : (some : List (ℕ × List ℕ)) → rows_frames some ≡ bytes_count some + 6 * length some
rows_frames_are [] = refl
rows_frames_are (row ∷ rows) =
    omega (arith, rows_frames_are rows, block_frames_are 0 (block 0 (length row.1)))

-- each row has a byte
abbrev pub Full : List (ℕ × List ℕ) → Type 0
Full rows = AllByRecursion (λ row. 1 ≤ length row.1) rows

row_before_full : (most : ℕ) (update : ℕ × ℕ) (some : List (ℕ × List ℕ)) → Full some
    → Full (row_before most update some)
row_before_full most update [] full = (omega arith, tt)
row_before_full most update (row ∷ more) full = by ((row.0 == up update.0) && nat_lt (length row.1) most)
  where
    by : (b : Bool)
        → Full (if b then (update.0, update.1 ∷ row.1) ∷ more else (update.0, update.1 ∷ []) ∷ row ∷ more)
    by true = (omega arith, full.1)
    by false = (omega arith, full)

pub rows_full : (most : ℕ) (updates : List (ℕ × ℕ)) → Full (rows_of most updates)
rows_full most [] = tt
rows_full most (update ∷ updates) = row_before_full most update (rows_of most updates) (rows_full most updates)

full_at : (some : List (ℕ × List ℕ)) (row : ℕ × List ℕ) → Full some → Contains some row → 1 ≤ length row.1
full_at [] row full (index, below, is) = absurd (omega arith)
full_at (first ∷ some) row full (zero, below, is) = subst (λ (r : ℕ × List ℕ). 1 ≤ length r.1) is full.0
full_at (first ∷ some) row full (suc index, below, is) = full_at some row full.1 (index, omega arith, is)

pub rows_some : (most : ℕ) (updates : List (ℕ × ℕ)) (row : ℕ × List ℕ) → Contains (rows_of most updates) row
    → 1 ≤ length row.1
rows_some most updates row is = full_at (rows_of most updates) row (rows_full most updates) is

-- so if none has more than one, there are as many rows as bytes
as_many_rows : (some : List (ℕ × List ℕ)) → Full some → Small 1 some → length some ≡ bytes_count some
as_many_rows [] full small = refl
as_many_rows (row ∷ rows) full small = omega (arith, as_many_rows rows full.1 small.1, full.0, small.0)

pub rows_alone : (updates : List (ℕ × ℕ)) → length (rows_of 1 updates) ≡ length updates
rows_alone updates =
    as_many_rows (rows_of 1 updates) (rows_full 1 updates) (rows_small 1 updates (omega arith)) ∙ rows_count 1 updates

-- ---- a row that is read again

-- the updates that the rows have
abbrev flat : List (ℕ × List ℕ) → List (ℕ × ℕ)
flat [] = []
flat (row ∷ rows) = updates_in row.0 row.1 ++ flat rows

row_before_flat : (most : ℕ) (update : ℕ × ℕ) (some : List (ℕ × List ℕ))
    → flat (row_before most update some) ≡ update ∷ flat some
row_before_flat most update [] = refl
row_before_flat most update (row ∷ more) = by ((row.0 == up update.0) && nat_lt (length row.1) most) refl
  where
    by : (b : Bool) → ((row.0 == up update.0) && nat_lt (length row.1) most) ≡ b
        → flat (if b then (update.0, update.1 ∷ row.1) ∷ more else (update.0, update.1 ∷ []) ∷ row ∷ more)
        ≡ update ∷ flat (row ∷ more)
    by true same =
        let next = eqb-true row.0 (up update.0) (and_parts _ _ same).0 in
        ap (λ (at : ℕ). update ∷ (updates_in at row.1 ++ flat more)) (sym next)
    by false other = refl

-- the rows of updates have these and no others
rows_flat : (most : ℕ) (updates : List (ℕ × ℕ)) → flat (rows_of most updates) ≡ updates
rows_flat most [] = refl
rows_flat most (update ∷ updates) =
    row_before_flat most update (rows_of most updates)
    ∙ ap (λ (l : List (ℕ × ℕ)). update ∷ l) (rows_flat most updates)

updates_count : (location : ℕ) (bytes : List ℕ) → length (updates_in location bytes) ≡ length bytes
updates_count location [] = refl
updates_count location (byte ∷ bytes) = ap suc (updates_count (up location) bytes)

take_first : (first rest : List (ℕ × ℕ)) → take (length first) (first ++ rest) ≡ first
take_first [] rest = refl
take_first (x ∷ first) rest = ap (λ (l : List (ℕ × ℕ)). x ∷ l) (take_first first rest)

-- the updates of a row are those of its bytes
pub row_updates : (most : ℕ) (own : ℕ × ℕ) (behind left : List (ℕ × ℕ)) (row : List ℕ)
    → rows_of most (own ∷ behind) ≡ (own.0, row) ∷ rows_of most left
    → take (length row) (own ∷ behind) ≡ updates_in own.0 row
row_updates most own behind left row are =
    let parts : own ∷ behind ≡ updates_in own.0 row ++ flat (rows_of most left) =
    sym (rows_flat most (own ∷ behind)) ∙ ap flat are in
    rw (parts, ← updates_count own.0 row) (take_first (updates_in own.0 row) (flat (rows_of most left)))

pub taken_count : (others : ℕ) (updates : List (ℕ × ℕ)) → others ≤ length updates
    → length (bytes_in (take others updates)) ≡ others
taken_count zero updates le = refl
taken_count (suc others) [] le = absurd (omega arith)
taken_count (suc others) (update ∷ updates) le = ap suc (taken_count others updates (omega arith))

-- the smaller rows: the first one, and all others of the most locations
record Pieces (location byte : ℕ) (bytes : List ℕ) : Type 0 where
  first : List ℕ
  more : List (ℕ × List ℕ)
  are : pieces_of location (byte ∷ bytes) ≡ (location, first) ∷ more
  some : 1 ≤ length first
  few : length first ≤ 2
  count : 2 * length more + length first ≡ suc (length bytes)

pieces : (location byte : ℕ) (bytes : List ℕ) → Pieces location byte bytes
pieces location byte [] = record {
  first = byte ∷ [];
  more = [];
  are = refl;
  some = omega arith;
  few = omega arith;
  count = omega arith;
}
pieces location byte (next ∷ bytes) =
    let rest = pieces (up location) next bytes in by rest (nat_lt (length rest.first) 2) refl
  where
    by : (rest : Pieces (up location) next bytes) (b : Bool) → nat_lt (length rest.first) 2 ≡ b
        → Pieces location byte (next ∷ bytes)
    by rest true below =
        let less = ltb-true (length rest.first) 2 below in
        let here : (up location == up location) ≡ true = eq-eqb (up location) (up location) refl in
        record {
          first = byte ∷ rest.first;
          more = rest.more;
          are = ap (row_before 2 (location, byte)) rest.are ∙ rw (here, below) refl;
          some = omega arith;
          few = omega arith;
          count = omega (arith, rest.count);
        }
    by rest false other =
        let least : 2 ≤ length rest.first = ltb-false (length rest.first) 2 other in
        let most = rest.few in
        let here : (up location == up location) ≡ true = eq-eqb (up location) (up location) refl in
        record {
          first = byte ∷ [];
          more = (up location, rest.first) ∷ rest.more;
          are = ap (row_before 2 (location, byte)) rest.are ∙ rw (here, other) refl;
          some = omega arith;
          few = omega arith;
          count = omega (arith, rest.count);
        }

pub first_piece : (location byte : ℕ) (bytes : List ℕ)
    → (row : ℕ × List ℕ) × (rows : List (ℕ × List ℕ)) × (pieces_of location (byte ∷ bytes) ≡ row ∷ rows)
first_piece location byte bytes =
    let p = pieces location byte bytes in ((location, p.first), p.more, p.are)

pub pieces_few : (location : ℕ) (bytes : List ℕ) → 2 * length (pieces_of location bytes) ≤ length bytes + 1
pieces_few location [] = omega arith
pieces_few location (byte ∷ bytes) =
    let p = pieces location byte bytes in rw p.are (omega (arith, p.count, p.some))

pub pieces_some : (location : ℕ) (bytes : List ℕ) → 1 ≤ length bytes → 1 ≤ length (pieces_of location bytes)
pieces_some location [] some = absurd (omega arith)
pieces_some location (byte ∷ bytes) some = let p = pieces location byte bytes in rw p.are (omega arith)

pub pieces_bytes : (location : ℕ) (bytes : List ℕ) → bytes_count (pieces_of location bytes) ≡ length bytes
pieces_bytes location bytes = rows_count 2 (updates_in location bytes) ∙ updates_count location bytes

pub pieces_small : (location : ℕ) (bytes : List ℕ) → Small 2 (pieces_of location bytes)
pieces_small location bytes = rows_small 2 (updates_in location bytes) (omega arith)

in_updates : (P : ℕ → ℕ → Type 0) (location : ℕ) (bytes : List ℕ)
    → AllByRecursion (λ update. P update.0 update.1) (updates_in location bytes) → AllInRow P location bytes
in_updates P location [] all = tt
in_updates P location (byte ∷ bytes) all = (all.0, in_updates P (up location) bytes all.1)

-- what holds of the smaller rows holds of the row
pub pieces_all : (P : ℕ → ℕ → Type 0) (location : ℕ) (bytes : List ℕ) → AllInRows P (pieces_of location bytes)
    → AllInRow P location bytes
pieces_all P location bytes all =
    in_updates P location bytes (all_in_rows P 2 (updates_in location bytes) all)

-- and of it all the other way round
pub row_pieces : (P : ℕ → ℕ → Type 0) (location : ℕ) (bytes : List ℕ) → AllInRow P location bytes
    → AllInRows P (pieces_of location bytes)
row_pieces P location bytes all = rows_hold P 2 (updates_in location bytes) (each location bytes all)
  where
    each : (location : ℕ) (bytes : List ℕ) → AllInRow P location bytes → (at byte : ℕ)
        → Has (updates_in location bytes) at byte → P at byte
    each location [] all at byte has = absurd has
    each location (first ∷ bytes) all at byte (inl here) = grind (arith, all.0, here.0, here.1)
    each location (first ∷ bytes) all at byte (inr later) = each (up location) bytes all.1 at byte later

-- each row that may be read has a byte
all_full : (rows : List (ℕ × List ℕ)) → Full rows → (row : ℕ × List ℕ) → Contains (all_rows rows) row
    → 1 ≤ length row.1
all_full [] full row (index, below, is) = absurd (omega arith)
all_full (first ∷ rows) full row (zero, below, is) = subst (λ (r : ℕ × List ℕ). 1 ≤ length r.1) is full.0
all_full (first ∷ rows) full row (suc index, below, is) =
    elim (Contains-append_cases (pieces_of first.0 first.1) (all_rows rows) row (index, omega arith, is)) [
      | inl piece ↦ rows_some 2 (updates_in first.0 first.1) row piece
      | inr later ↦ all_full rows full.1 row later
    ]

pub all_rows_some : (most : ℕ) (updates : List (ℕ × ℕ)) (row : ℕ × List ℕ)
    → Contains (all_rows (rows_of most updates)) row → 1 ≤ length row.1
all_rows_some most updates row is = all_full (rows_of most updates) (rows_full most updates) row is

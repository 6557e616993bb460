-- Where the courses read, and how many bytes.
use Rattle.std.proofs.Common.{◌≡◌, ◌⊎◌, inl, inr, refl, ap, ◌∙◌, ℕ, zero, suc, ◌+◌, ◌<◌, ◌≤◌, Bool}
use Rattle.std.proofs.Common.{true, false, if◌then◌else◌, nat_lt, ◌==◌, ◌&&◌, min, drop, map, List, [], ◌∷◌, ◌++◌}
use Rattle.std.proofs.Common.{length, length-append, slice_get, Option, Some, None, arith}
use Rattle.std.proofs.lemmas.Bool.{lt-ltb, le-ltb, ltb-true, ltb-false, eqb-true}
use Rattle.dali_write.specs.Exchanges.{Exchange}
use Rattle.dali_write.specs.Plans.{greatest}
use Rattle.dali_write.specs.declared.block.Block.{Block}
use Rattle.dali_write.specs.Requests.{block}
use Rattle.dali_read.specs.Places.{first_block, last_course, bank_course, in_a_row, row_of, order_course}
use Rattle.dali_read.specs.Readings.{Done, bytes_in, InTurn, IsRead}
use Rattle.dali_read.specs.Shown.{InBlock, ShowsBank}
use Rattle.dali_read.proofs.InBlockLemmas.{Tells, Follows, done_count, read_tells}

-- it holds of the places of this block
abbrev At : (ℕ → Option ℕ) → ℕ → Block → Type 0
At place start this = (index : ℕ) → index < this.count → place (start + index) ≡ Some (this.location + index)

at_block : (place : ℕ → Option ℕ) (start : ℕ) (mine this : Block) → Some mine ≡ Some this → At place start mine
    → At place start this
at_block place start mine this next at = grind arith

-- The last location alone

pub last_follows : Follows last_course (λ index. Some index)
last_follows [] this next = at_block (λ index. Some index) 0 first_block this next (λ index below. refl)
last_follows (last ∷ more) this next = cc

-- A whole bank

pub bank_follows : Follows bank_course (λ index. Some index)
bank_follows [] this next = at_block (λ index. Some index) 0 first_block this next (λ index below. refl)
bank_follows (last ∷ more) this next = grind (arith, at_block)

-- The locations of an order

-- those of the updates
abbrev pub own_places : List (ℕ × ℕ) → List ℕ
own_places updates = map (λ update. update.0) updates

-- of all bytes that are read for an order, in their order
abbrev pub order_places : List (ℕ × ℕ) → List ℕ
order_places updates =
    0x00 ∷ (if nat_lt (greatest updates) 0x13 then own_places updates else 0x11 ∷ 0x12 ∷ own_places updates)

abbrev pub order_place : List (ℕ × ℕ) → ℕ → Option ℕ
order_place updates index = slice_get (order_places updates) index

pub near_places : (updates : List (ℕ × ℕ)) → greatest updates < 0x13 → order_places updates ≡ 0x00 ∷ own_places updates
near_places updates near = rw (lt-ltb (greatest updates) 0x13 near) refl

pub far_places : (updates : List (ℕ × ℕ)) → 0x13 ≤ greatest updates
    → order_places updates ≡ 0x00 ∷ 0x11 ∷ 0x12 ∷ own_places updates
far_places updates far = rw (le-ltb (greatest updates) 0x13 far) refl

-- neighbours
in_row : (location : ℕ) (updates : List (ℕ × ℕ)) (index : ℕ) → index < in_a_row location updates
    → slice_get (own_places updates) index ≡ Some (location + index)
in_row location [] index below = absurd (omega arith)
in_row location (update ∷ updates) zero below = grind (arith, eqb-true)
in_row location (update ∷ updates) (suc index) below = grind (arith, in_row (suc location) updates index)

-- the places after this many updates
drop_get : (updates : List (ℕ × ℕ)) (before index number : ℕ) → number ≡ before + index
    → slice_get (own_places updates) number ≡ slice_get (own_places (drop before updates)) index
drop_get updates zero index number is = grind arith
drop_get [] (suc before) index number is = refl
drop_get (update ∷ updates) (suc before) index zero is = absurd (omega arith)
drop_get (update ∷ updates) (suc before) index (suc number) is = drop_get updates before index number (omega arith)

-- a row is of the first updates
abbrev RowAt : List (ℕ × ℕ) → Block → Type 0
RowAt updates this =
    (index : ℕ) → index < this.count → slice_get (own_places updates) index ≡ Some (this.location + index)

row_here : (updates : List (ℕ × ℕ)) (this : Block) → row_of updates ≡ Some this → RowAt updates this
row_here [] this next = cc
row_here (update ∷ updates) this next = grind (arith, in_row)

-- the row after this many updates
row_follows : (updates : List (ℕ × ℕ)) (before : ℕ) (this : Block) → row_of (drop before updates) ≡ Some this
    → At (λ index. slice_get (own_places updates) index) before this
row_follows updates before this next index below =
    drop_get updates before index (before + index) refl ∙ row_here (drop before updates) this next index below

-- which block of an order is next, if the first byte suits it
pub picked : (row format : Option Block) (last greatest : ℕ) (this : Block)
    → (if nat_lt last greatest then None else (if nat_lt greatest 0x13 then row else format)) ≡ Some this
    → (greatest ≤ last)
    × (((greatest < 0x13) × (row ≡ Some this)) ⊎ ((0x13 ≤ greatest) × (format ≡ Some this)))
picked row format last greatest this next = grind (arith, ltb-false, ltb-true)

-- after the first byte of a short order, and after the third of a long one
near_follows : (updates : List (ℕ × ℕ)) (before number : ℕ) (this : Block) → greatest updates < 0x13
    → number ≡ suc before → row_of (drop before updates) ≡ Some this → At (order_place updates) number this
near_follows updates before number this near is next index below =
    grind (arith, near_places updates near, row_follows updates before this next index below)

far_follows : (updates : List (ℕ × ℕ)) (before number : ℕ) (this : Block) → 0x13 ≤ greatest updates
    → number ≡ suc (suc (suc before)) → row_of (drop before updates) ≡ Some this
    → At (order_place updates) number this
far_follows updates before number this far is next index below =
    grind (arith, far_places updates far, row_follows updates before this next index below)

-- of the format, both bytes or the second one
format_follows : (updates : List (ℕ × ℕ)) → 0x13 ≤ greatest updates → At (order_place updates) 1 (block 0x11 2)
format_follows updates far zero below = ap (λ (l : List ℕ). slice_get l 1) (far_places updates far)
format_follows updates far (suc zero) below = ap (λ (l : List ℕ). slice_get l 2) (far_places updates far)
format_follows updates far (suc (suc index)) below = absurd (omega arith)

low_follows : (updates : List (ℕ × ℕ)) → 0x13 ≤ greatest updates → At (order_place updates) 2 (block 0x12 1)
low_follows updates far zero below = ap (λ (l : List ℕ). slice_get l 2) (far_places updates far)
low_follows updates far (suc index) below = absurd (omega arith)

-- of 00h
first_follows : (updates : List (ℕ × ℕ)) → At (order_place updates) 0 first_block
first_follows updates zero below = refl
first_follows updates (suc index) below = absurd (omega arith)

-- the row after the format, if it is this one
format_row : (right : Bool) (row : Option Block) (this : Block) → (if right then row else None) ≡ Some this
    → row ≡ Some this
format_row true row this next = next
format_row false row this next = cc

pub order_follows : (updates : List (ℕ × ℕ)) → Follows (order_course updates) (order_place updates)
order_follows updates [] this next = at_block (order_place updates) 0 first_block this next (first_follows updates)
order_follows updates (last ∷ []) this next =
    elim (picked (row_of (drop 0 updates)) (Some (block 0x11 2)) last (greatest updates) this next).1 [
      | inl (near, row) ↦ near_follows updates 0 1 this near refl row
      | inr (far, format) ↦ at_block (order_place updates) 1 (block 0x11 2) this format (format_follows updates far)
    ]
order_follows updates (last ∷ high ∷ []) this next =
    elim (picked (row_of (drop 1 updates)) (Some (block 0x12 1)) last (greatest updates) this next).1 [
      | inl (near, row) ↦ near_follows updates 1 2 this near refl row
      | inr (far, format) ↦ at_block (order_place updates) 2 (block 0x12 1) this format (low_follows updates far)
    ]
order_follows updates (last ∷ high ∷ low ∷ found) this next =
    let right : Bool = (high == 0x00) && (low == 0x03) in
    let row = row_of (drop (length found) updates) in
    elim (picked (row_of (drop (length (high ∷ low ∷ found)) updates)) (if right then row else None) last
    (greatest updates) this next).1 [
      | inl (near, next_row) ↦
          near_follows updates (length (high ∷ low ∷ found)) (length (last ∷ high ∷ low ∷ found)) this near refl
          next_row
      | inr (far, format) ↦
          far_follows updates (length found) (length (last ∷ high ∷ low ∷ found)) this far refl
          (format_row right row this format)
    ]

-- How many bytes

-- a reading of the last location tells one byte
last_long : (unit : ℕ) (done : List Done) → InTurn unit last_course done → length (bytes_in done) ≤ 1
last_long unit [] in_turn = omega arith
last_long unit (newest ∷ done) in_turn = by (bytes_in done) in_turn.2 where
  count : length newest.bytes ≡ newest.block.count
  count = done_count unit newest.block newest.bytes newest.told in_turn.3

  by : (bytes : List ℕ) → last_course bytes ≡ Some newest.block → length (bytes ++ newest.bytes) ≤ 1
  by [] next =
      let same : first_block ≡ newest.block = cc in
      let one : 1 ≡ newest.block.count = ap (λ (b : Block). b.count) same in
      let long = count in
      omega arith
  by (last ∷ more) next = cc

-- that of a bank tells at most those of all its locations
abbrev BankLong : List ℕ → Type 0
BankLong bytes = (bytes ≡ []) ⊎ ((last : ℕ) × (more : List ℕ) × (bytes ≡ last ∷ more) × (length more ≤ min last 0xFE))

one_byte : (bytes : List ℕ) → length bytes ≡ 1 → (byte : ℕ) × (bytes ≡ byte ∷ [])
one_byte [] one = absurd (omega arith)
one_byte (byte ∷ []) one = (byte, refl)
one_byte (byte ∷ next ∷ more) one = absurd (omega arith)

-- one block more
bank_next : (older newer : List ℕ) (this : Block) → BankLong older → bank_course older ≡ Some this
    → length newer ≡ this.count → BankLong (older ++ newer)
bank_next [] newer this long next count = grind (arith, one_byte)
bank_next (last ∷ more) newer this long next count = grind (arith, ltb-true, length-append)

bank_long : (unit : ℕ) (done : List Done) → InTurn unit bank_course done → BankLong (bytes_in done)
bank_long unit [] in_turn = inl refl
bank_long unit (newest ∷ done) in_turn =
    bank_next (bytes_in done) newest.bytes newest.block (bank_long unit done in_turn.0) in_turn.2
    (done_count unit newest.block newest.bytes newest.told in_turn.3)

-- The bytes of whole readings

pub last_shown : (shows : ℕ → ℕ → Type 0) (told : List Exchange) (unit : ℕ) (bytes : List ℕ)
    → IsRead unit last_course bytes told → Tells shows (λ index. Some index) bytes
    → (last : ℕ) × (bytes ≡ last ∷ []) × shows 0x00 last
last_shown shows told unit [] read tells = let more = read.over in cc
last_shown shows told unit (last ∷ []) read tells = (last, refl, tells 0 0x00 last refl refl)
last_shown shows told unit (last ∷ next ∷ more) read tells = grind (arith, last_long unit read.done read.in_turn)

-- it goes on until all are read
bank_whole : (last : ℕ) (more : List ℕ) → bank_course (last ∷ more) ≡ None → min last 0xFE ≤ length more
bank_whole last more over = grind (arith, ltb-false)

-- it tells a byte of each location up to the one that its first byte names
pub bank_count : (told : List Exchange) (unit last : ℕ) (more : List ℕ) → IsRead unit bank_course (last ∷ more) told
    → length more ≡ min last 0xFE
bank_count told unit last more read = grind (arith, bank_whole, bank_long)

pub bank_shown : (shows : ℕ → ℕ → Type 0) (told : List Exchange) (unit : ℕ) (bytes : List ℕ)
    → IsRead unit bank_course bytes told → Tells shows (λ index. Some index) bytes → ShowsBank shows bytes
bank_shown shows told unit [] read tells = let more = read.over in cc
bank_shown shows told unit (last ∷ more) read tells = grind (arith, bank_count told unit last more read)

pub last_read : (told : List Exchange) (unit : ℕ) (bytes : List ℕ) → IsRead unit last_course bytes told
    → (last : ℕ) × (bytes ≡ last ∷ []) × InBlock told unit 0x00 last
last_read told unit bytes read =
    last_shown (InBlock told unit) told unit bytes read
    (read_tells (λ index. Some index) unit last_course bytes told last_follows read)

pub bank_read : (told : List Exchange) (unit : ℕ) (bytes : List ℕ) → IsRead unit bank_course bytes told
    → ShowsBank (InBlock told unit) bytes
bank_read told unit bytes read =
    bank_shown (InBlock told unit) told unit bytes read
    (read_tells (λ index. Some index) unit bank_course bytes told bank_follows read)

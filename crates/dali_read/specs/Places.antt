-- Which locations of bank 1 are read, and in which blocks.
use Rattle.std.specs.Prelude.{ℕ, suc, ◌-◌, ◌==◌, ◌&&◌, nat_lt, min, drop, List, [], ◌∷◌, length, Option, Some, None}
use Rattle.std.specs.Prelude.{if◌then◌else◌}
use Rattle.dali_write.specs.Plans.{greatest}
use Rattle.dali_write.specs.declared.block.Block.{Block}
use Rattle.dali_read.specs.declared.places.Places.{Places}
use Rattle.dali_read.specs.declared.places.Places.TheVariants as places
use Rattle.dali_write.specs.Requests.{block}
use Rattle.dali_write.specs.Blocks.{most_locations}
use Rattle.dali_read.specs.Readings.{Course}

-- the location that names the last one of its bank
abbrev pub first_block : Block
first_block = block 0x00 1

-- 00h alone
abbrev pub last_course : Course
last_course [] = Some first_block
last_course (last ∷ more) = None

-- 00h, and then all locations up to the one that it names, at most up to FEh, sixteen by sixteen
abbrev pub bank_course : Course
bank_course [] = Some first_block
bank_course (last ∷ more) =
    if nat_lt (length more) (min last 0xFE)
    then Some (block (suc (length more)) (min (min last 0xFE - length more) most_locations))
    else None

-- 00h, and if that names 10h or a location after it, 03h to 10h, which are the GTIN and the identification number
abbrev pub identity_course : Course
identity_course [] = Some first_block
identity_course (last ∷ []) = if nat_lt last 0x10 then None else Some (block 0x03 14)
identity_course (last ∷ byte ∷ more) = None

-- how many of the updates, from the first one on, are in a row from this location on
abbrev pub in_a_row : ℕ → List (ℕ × ℕ) → ℕ
in_a_row location [] = 0
in_a_row location (update ∷ updates) = if update.0 == location then suc (in_a_row (suc location) updates) else 0

-- the locations of the updates that are in a row, at most sixteen
abbrev pub row_of : List (ℕ × ℕ) → Option Block
row_of [] = None
row_of (update ∷ updates) = Some (block update.0 (min (in_a_row update.0 (update ∷ updates)) most_locations))

-- The last location; the content format at 11h and 12h, if an update is at 13h or above; and if these suit the updates,
-- all of their locations, row by row.
abbrev pub order_course : List (ℕ × ℕ) → Course
order_course updates [] = Some first_block
order_course updates (last ∷ more) =
    if nat_lt last (greatest updates) then None
    else (if nat_lt (greatest updates) 0x13 then row_of (drop (length more) updates) else behind_format updates more)
  where
    behind_format : List (ℕ × ℕ) → List ℕ → Option Block
    behind_format updates [] = Some (block 0x11 2)
    behind_format updates (high ∷ []) = Some (block 0x12 1)
    behind_format updates (high ∷ low ∷ found) =
        if (high == 0x00) && (low == 0x03) then row_of (drop (length found) updates) else None

-- the course of what is to be read
abbrev pub course_of : Places → Course
course_of places.Last = last_course
course_of places.Bank = bank_course
course_of places.Identity = identity_course
course_of (places.Order order) = order_course order.now.updates

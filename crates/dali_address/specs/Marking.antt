-- The state that a census keeps of the short addresses that were answered.
use Rattle.std.specs.Prelude.{◌≡◌, ◌≢◌, ℕ, ◌+◌, ◌<◌, ◌||◌, ◌&&◌, ◌==◌, Bool, true, false, List, [], ◌∷◌}
use Rattle.std.specs.Prelude.{length, slice_set}
use Rattle.std.specs.List.{slice_index_or}
use Rattle.dali_address.specs.Calls.{short_byte}
use Rattle.dali_address.specs.Tallying.{Counted, IsIn}
use Rattle.dali_address.specs.declared.census.CensusEnd.{CensusEnd}
use Rattle.dali_address.specs.declared.census.CensusEnd.TheVariants.{Apart, Shared, Unclear}
use Rattle.dali_address.specs.declared.sharing.Marks.{Marks}

-- the byte spells no short address
abbrev pub IsNoShort : ℕ → Type 0
IsNoShort byte = (short : ℕ) → short < 64 → byte ≢ short_byte short

-- some unit told this byte
abbrev pub is_told : List Counted → ℕ → Bool
is_told [] byte = false
is_told (one ∷ more) byte = (one.told == byte) || is_told more byte

-- two did
abbrev pub is_told_twice : List Counted → ℕ → Bool
is_told_twice [] byte = false
is_told_twice (one ∷ more) byte = ((one.told == byte) && is_told more byte) || is_told_twice more byte

-- each unit answered with a short address, and each with its own: `count` units
pub record AreApart (counted : List Counted) (count : ℕ) : Type 0 where
  pub many : length counted ≡ count
  pub once : (short : ℕ) → short < 64 → is_told_twice counted (short_byte short) ≡ false
  pub spelled : (one : Counted) → IsIn one counted → IsNoShort one.told → ⊥

-- the marks are those of what was counted
pub record AreMarks (marks : Marks) (counted : List Counted) : Type 0 where
  pub seen : (short : ℕ) → short < 64 → slice_index_or marks.seen short false ≡ is_told counted (short_byte short)
  pub shared : (short : ℕ) → short < 64
      → slice_index_or marks.sharing.addresses short false ≡ is_told_twice counted (short_byte short)
  pub missing : marks.sharing.has_missing ≡ true → (one : Counted) × IsIn one counted × IsNoShort one.told
  pub complete : marks.sharing.has_missing ≡ false → (one : Counted) → IsIn one counted → IsNoShort one.told → ⊥
  pub apart : marks.is_apart ≡ true → AreApart counted marks.count

-- a short address was answered
pub record MarksShort (old : Marks) (short : ℕ) (new : Marks) : Type 0 where
  pub seen : new.seen ≡ slice_set old.seen short true
  pub addresses : new.sharing.addresses ≡ slice_set old.sharing.addresses short
      (slice_index_or old.seen short false || slice_index_or old.sharing.addresses short false)
  pub missing : new.sharing.has_missing ≡ old.sharing.has_missing
  pub apart : new.is_apart ≡ true
      → (old.is_apart ≡ true) × (slice_index_or old.seen short false ≡ false) × (new.count ≡ old.count + 1)
  pub long_seen : short < length old.seen
  pub long_addresses : short < length old.sharing.addresses

-- and is counted, as long as each was answered once
pub record CountsShort (old : Marks) (was : Bool) (new : Marks) : Type 0 where
  pub seen : new.seen ≡ old.seen
  pub sharing : new.sharing ≡ old.sharing
  pub apart : new.is_apart ≡ true → (old.is_apart ≡ true) × (was ≡ false) × (new.count ≡ old.count + 1)

-- the answer was that a unit has none
pub record MarksMissing (old new : Marks) : Type 0 where
  pub seen : new.seen ≡ old.seen
  pub addresses : new.sharing.addresses ≡ old.sharing.addresses
  pub missing : new.sharing.has_missing ≡ true
  pub apart : new.is_apart ≡ false

-- the marks after one more unit told this
abbrev pub MarksByte : Marks → ℕ → Marks → Type 0
MarksByte old byte new = (counted : List Counted) (one : Counted) → one.told ≡ byte → AreMarks old counted
    → AreMarks new (one ∷ counted)

-- what they say if no unit is left
abbrev pub IsSaidBy : Marks → CensusEnd → Type 0
IsSaidBy marks (Apart many) = (marks.is_apart ≡ true) × (marks.count ≡ many)
IsSaidBy marks (Shared sharing) = (marks.is_apart ≡ false) × (marks.sharing ≡ sharing)
IsSaidBy marks Unclear = ⊥

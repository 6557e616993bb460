-- Causes of short sessions, by hand: of an order of two updates.
use Rattle.std.proofs.Common.{◌≡◌, ◌≢◌, ◌∙◌, inl, inr, refl, sym, ap, subst, ℕ, zero, suc, List, [], ◌∷◌, ◌++◌, length}
use Rattle.std.proofs.Common.{Option, Some, None, slice_get, arith}
use Rattle.dali_write.specs.declared.ask.Cause.TheVariants.{Unread, Unwritten, Another}
use Rattle.dali_write.specs.declared.pace.Pace.TheVariants.{Checked, Short}
use Rattle.dali_write.specs.Requests.{block, moved_on}
use Rattle.dali_write.specs.Plans.{read_backs, read_length, unlock}
use Rattle.dali_write.specs.Causes.{IsFirstOther, cause_after}
use Rattle.dali_write.specs.Touches.{Has}

abbrev updates : List (ℕ × ℕ)
updates = (0x13, 0x18) ∷ (0x14, 0x35) ∷ []

-- unlocked, written, and locked
abbrev written : List (Option (List ℕ))
written = Some [] ∷ Some [] ∷ Some [] ∷ Some [] ∷ []

pub none_at_first : (cause_after updates (unlock Checked updates) [] ≡ None)
    × (cause_after updates (unlock Checked updates) written ≡ None)
none_at_first = (refl, refl)

-- the first access that failed, and neither the write nor the read that close the unit
pub first_failure_is_told :
    (cause_after updates (unlock Checked updates) (None ∷ []) ≡ Some (Unwritten 2))
    × (cause_after updates (unlock Checked updates) (None ∷ None ∷ None ∷ Some [] ∷ []) ≡ Some (Unwritten 0x13))
    × (cause_after updates (unlock Checked updates) (None ∷ None ∷ None ∷ written) ≡ Some (Unread 2))
first_failure_is_told = (refl, refl, refl)

-- what is read back, location by location
pub another_byte_is_told :
    (cause_after updates (unlock Checked updates) (Some (0x55 ∷ []) ∷ written) ≡ Some (Another 2 0x55))
    × (cause_after updates (unlock Checked updates) (Some (0x00 ∷ []) ∷ Some (0x18 ∷ []) ∷ Some (0xFF ∷ []) ∷ written)
    ≡ Some (Another 0x14 0x00))
another_byte_is_told = (refl, refl)

pub none_where_all_is_read_back :
    cause_after updates (unlock Checked updates) (Some (0x35 ∷ []) ∷ Some (0x18 ∷ []) ∷ Some (0xFF ∷ []) ∷ written)
    ≡ None
none_where_all_is_read_back = refl

-- and in rows: the first one that differs, also if all after it do
pub another_byte_of_a_row_is_told :
    (cause_after updates (unlock Short updates) (Some (0x18 ∷ 0x00 ∷ []) ∷ Some (0xFF ∷ []) ∷ written)
    ≡ Some (Another 0x14 0x00))
    × (cause_after updates (unlock Short updates) (Some (0x00 ∷ 0x00 ∷ []) ∷ Some (0xFF ∷ []) ∷ written)
    ≡ Some (Another 0x13 0x00))
    × (cause_after updates (unlock Short updates) (None ∷ Some (0xFF ∷ []) ∷ written) ≡ Some (Unread 0x13))
another_byte_of_a_row_is_told = (refl, refl, refl)

-- a unit of another format has no cause, and one that is silent at its format has
pub another_format_is_no_cause :
    (cause_after updates (read_length Checked updates) (Some (0x04 ∷ []) ∷ Some (0x00 ∷ []) ∷ Some (0x77 ∷ []) ∷ [])
    ≡ None)
    × (cause_after updates (read_length Checked updates) (None ∷ Some (0x77 ∷ []) ∷ []) ≡ Some (Unread 0x11))
another_format_is_no_cause = (refl, refl)

-- ---- the first other byte of a block

-- the two updates, with the lock byte
wanted_here : (byte : ℕ) → Has (read_backs updates) 0x13 byte → byte ≡ 0x18
wanted_here byte (inl (other, is)) = cc
wanted_here byte (inr (inl (same, is))) = sym is
wanted_here byte (inr (inr (inl (other, is)))) = cc
wanted_here byte (inr (inr (inr none))) = absurd none

wanted_next : (byte : ℕ) → Has (read_backs updates) 0x14 byte → byte ≡ 0x35
wanted_next byte (inl (other, is)) = cc
wanted_next byte (inr (inl (other, is))) = cc
wanted_next byte (inr (inr (inl (same, is)))) = sym is
wanted_next byte (inr (inr (inr none))) = absurd none

pub second_is_the_first_other : IsFirstOther (read_backs updates) (block 0x13 2) (0x18 ∷ 0x00 ∷ []) 0x14 0x00
second_is_the_first_other = record {
  before = 0x18 ∷ [];
  behind = [];
  parts = refl;
  place = refl;
  as_wanted = before;
  other = (0x35, inr (inr (inl (refl, refl))), λ same. omega (arith, same));
}
  where
    before : (index same : ℕ) → slice_get (0x18 ∷ []) index ≡ Some same
        → Has (read_backs updates) (moved_on 0x13 index) same
    before zero same is = inr (inl (refl, cc))
    before (suc index) same is = cc

-- if each byte is the one of its place there is none
pub none_where_all_are_wanted : (location byte : ℕ)
    → IsFirstOther (read_backs updates) (block 0x13 2) (0x18 ∷ 0x35 ∷ []) location byte → ⊥
none_where_all_are_wanted location byte first =
    by first.before first.parts first.place first.other.0 first.other.1 first.other.2
  where
    by : (before : List ℕ) → 0x18 ∷ 0x35 ∷ [] ≡ before ++ (byte ∷ first.behind)
        → location ≡ moved_on 0x13 (length before) → (own : ℕ) → Has (read_backs updates) location own → byte ≢ own → ⊥
    by [] parts place own has other =
        let is : 0x18 ≡ byte = cc in
        let here = wanted_here own (subst (λ (at : ℕ). Has (read_backs updates) at own) place has) in
        other (sym is ∙ sym here)
    by (one ∷ []) parts place own has other =
        let is : 0x35 ≡ byte = cc in
        let here = wanted_next own (subst (λ (at : ℕ). Has (read_backs updates) at own) place has) in
        other (sym is ∙ sym here)
    by (one ∷ two ∷ []) parts place own has other = cc
    by (one ∷ two ∷ three ∷ before) parts place own has other = cc

-- of two others it is the first
pub second_other_is_not_the_first :
    IsFirstOther (read_backs updates) (block 0x13 2) (0x00 ∷ 0x01 ∷ []) 0x14 0x01 → ⊥
second_other_is_not_the_first first = by first.before first.parts first.place first.as_wanted where
  by : (before : List ℕ) → 0x00 ∷ 0x01 ∷ [] ≡ before ++ (0x01 ∷ first.behind)
      → 0x14 ≡ moved_on 0x13 (length before)
      → ((index same : ℕ) → slice_get before index ≡ Some same → Has (read_backs updates) (moved_on 0x13 index) same)
      → ⊥
  by [] parts place all = cc
  by (one ∷ before) parts place all =
      let is : 0x00 ≡ one = cc in
      let has = all 0 0x00 (ap Some (sym is)) in
      omega (arith, wanted_here 0x00 has)

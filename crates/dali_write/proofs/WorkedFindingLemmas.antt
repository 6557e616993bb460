-- Findings of reads near the edges: cases that a weaker definition would let through.
use Rattle.std.proofs.Common.{◌≡◌, refl, ℕ, List, [], ◌∷◌, Some, arith, slice_get}
use Rattle.dali_write.specs.declared.ask.Verdict.TheVariants.{Doubt, Closed}
use Rattle.dali_write.specs.Findings.{Suits, IsTooShort, HasOtherFormat, IsWritten, Rests}
use Rattle.dali_bus.proofs.ByteLemmas.{same_byte}

-- bank 1 with these bytes from location 00h on
abbrev Has : List ℕ → ℕ → ℕ → Type 0
Has bytes location byte = slice_get bytes location ≡ Some byte

-- a bank whose last location is 04h, locked and unlocked; an update of its last location, and one past it
abbrev locked : List ℕ
locked = 0x04 ∷ 0xFF ∷ 0xFF ∷ 0x11 ∷ 0x22 ∷ []

abbrev unlocked : List ℕ
unlocked = 0x04 ∷ 0xFF ∷ 0x55 ∷ 0x11 ∷ 0x22 ∷ []

pub suits_to_its_last_location : Suits (Has locked) ((4, 0x22) ∷ [])
suits_to_its_last_location = (4, refl, omega arith, λ above. absurd (omega (arith, above)))

pub not_suits_past_its_last_location : Suits (Has locked) ((5, 0x33) ∷ []) → ⊥
not_suits_past_its_last_location (last, shows, reaches, format) = let is : last ≡ 4 = cc in omega (arith, is, reaches)

pub too_short_for_the_next_location : IsTooShort (Has locked) ((5, 0x33) ∷ [])
too_short_for_the_next_location = (4, refl, omega arith)

pub not_too_short_for_its_last_location : IsTooShort (Has locked) ((4, 0x22) ∷ []) → ⊥
not_too_short_for_its_last_location (last, shows, ends) = let is : last ≡ 4 = cc in omega (arith, is, ends)

pub no_format_is_asked_below_13h : HasOtherFormat (Has locked) ((4, 0x22) ∷ []) → ⊥
no_format_is_asked_below_13h (high, low, shows_high, shows_low, above, differs) = omega (arith, above)

pub written_where_all_is_there : IsWritten (Has locked) ((3, 0x11) ∷ (4, 0x22) ∷ [])
written_where_all_is_there = (refl, (refl, (refl, tt)))

pub not_written_where_unlocked : IsWritten (Has unlocked) ((3, 0x11) ∷ (4, 0x22) ∷ []) → ⊥
not_written_where_unlocked written = omega (arith, same_byte 0x55 0xFF written.0)

pub not_written_with_another_byte : IsWritten (Has locked) ((3, 0x11) ∷ (4, 0x23) ∷ []) → ⊥
not_written_with_another_byte written = omega (arith, same_byte 0x22 0x23 written.1.1.0)

-- a read of another location, and not of the lock byte
abbrev Tells03h : ℕ → ℕ → Type 0
Tells03h location byte = (location ≡ 3) × (byte ≡ 0x11)

pub no_doubt_by_another_location : Rests Tells03h ((3, 0x11) ∷ []) Doubt → ⊥
no_doubt_by_another_location (byte, tells) = omega (arith, tells.0)

pub not_closed_by_another_location : Rests Tells03h [] Closed → ⊥
not_closed_by_another_location (byte, tells) = omega (arith, tells.0)

pub doubt_whatever_the_lock_byte_is : Rests (Has unlocked) ((3, 0x11) ∷ []) Doubt
doubt_whatever_the_lock_byte_is = (0x55, refl)

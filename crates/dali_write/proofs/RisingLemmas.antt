-- Rising updates have one byte for a location.
use Rattle.std.proofs.Common.{◌≡◌, ◌∙◌, inl, inr, sym, ℕ, ◌<◌, List, [], ◌∷◌, arith}
use Rattle.dali_bank.specs.Order.{AreUpdates, IsWritable, RisesAbove}
use Rattle.dali_write.specs.Touches.{Has}

pub has_above : (bound : ℕ) (updates : List (ℕ × ℕ)) (location byte : ℕ) → RisesAbove bound updates
    → Has updates location byte → bound < location
has_above bound [] location byte rises has = absurd has
has_above bound (update ∷ updates) location byte rises (inl here) = grind arith
has_above bound (update ∷ updates) location byte rises (inr later) =
    grind (arith, has_above update.0 updates location byte rises.1 later)

-- those of an order lie above the lock byte
pub rises_above_lock : (updates : List (ℕ × ℕ)) → AreUpdates updates → RisesAbove 2 updates
rises_above_lock [] are = tt
rises_above_lock (update ∷ updates) are = (above are.writable.0, are.rising.1) where
  above : IsWritable update.0 → 2 < update.0
  above (inl first) = omega (arith, first.0)
  above (inr second) = omega (arith, second.0)

pub one_byte : (bound : ℕ) (updates : List (ℕ × ℕ)) (location one other : ℕ) → RisesAbove bound updates
    → Has updates location one → Has updates location other → one ≡ other
one_byte bound [] location one other rises has too = absurd has
one_byte bound (update ∷ updates) location one other rises (inl here) (inl there) = sym here.1 ∙ there.1
one_byte bound (update ∷ updates) location one other rises (inl here) (inr later) =
    grind (arith, has_above update.0 updates location other rises.1 later)
one_byte bound (update ∷ updates) location one other rises (inr later) (inl here) =
    grind (arith, has_above update.0 updates location one rises.1 later)
one_byte bound (update ∷ updates) location one other rises (inr later) (inr too) =
    one_byte update.0 updates location one other rises.1 later too

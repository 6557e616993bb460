-- The byte that rising updates have for a location is the one that is among them.
use Rattle.std.proofs.Common.{◌≡◌, refl, ap, ◌∙◌, subst, ℕ, zero, suc, ◌<◌, Bool, true, false, ◌==◌, List, [], ◌∷◌}
use Rattle.std.proofs.Common.{length, get_or, Contains, Some, arith}
use Rattle.std.proofs.lemmas.Bool.{eqb-true, eq-eqb, ne_eqb}
use Rattle.dali_bank.specs.Order.{RisesAbove, update_at}

same_pair : (update : ℕ × ℕ) (location byte : ℕ) → update.0 ≡ location → update.1 ≡ byte → update ≡ (location, byte)
same_pair update location byte first second =
    let at : ℕ → ℕ × ℕ = λ l. (l, update.1) in
    let with : ℕ → ℕ × ℕ = λ b. (location, b) in
    ap at first ∙ ap with second

-- the byte that is found is among them
pub found_among : (updates : List (ℕ × ℕ)) (location byte : ℕ) → update_at updates location ≡ Some byte
    → Contains updates (location, byte)
found_among [] location byte e = cc
found_among (update ∷ updates) location byte e =
    by (λ found. found_among updates location byte found) (update.0 == location) refl where
      by : (update_at updates location ≡ Some byte → Contains updates (location, byte)) → (x : Bool)
          → (update.0 == location) ≡ x
          → Contains (update ∷ updates) (location, byte)
      by more true p =
          let found : Some update.1 ≡ Some byte = rw p at e in
          let is : update.1 ≡ byte = cc in
          (0, omega arith, same_pair update location byte (eqb-true update.0 location p) is)
      by more false p = let among = more (rw p at e) in (suc among.0, omega (arith, among.1), among.2)

here : (bound : ℕ) (update found : ℕ × ℕ) (updates : List (ℕ × ℕ)) → bound < update.0 → update ≡ found
    → (bound < found.0) × (update_at (update ∷ updates) found.0 ≡ Some found.1)
here bound update found updates less e =
    let P : ℕ × ℕ → Type 0 = λ u. (bound < u.0) × (update_at (update ∷ updates) u.0 ≡ Some u.1) in
    subst P e (less, rw (eq-eqb update.0 update.0 refl) refl)

-- the byte that is among them at a place of the list is found
at_place : (bound location byte : ℕ) (updates : List (ℕ × ℕ)) (k : ℕ) → RisesAbove bound updates → k < length updates
    → get_or updates k (location, byte) ≡ (location, byte)
    → (bound < location) × (update_at updates location ≡ Some byte)
at_place bound location byte [] k rises less e = absurd (omega arith)
at_place bound location byte (update ∷ updates) zero rises less e = here bound update (location, byte) updates rises.0 e
at_place bound location byte (update ∷ updates) (suc k) rises less e =
    let later = at_place update.0 location byte updates k rises.1 (omega arith) e in
    let above : bound < update.0 = rises.0 in
    let below : update.0 < location = later.0 in
    (omega arith, rw (ne_eqb update.0 location (λ same. absurd (omega arith))) later.1)

pub among_found : (updates : List (ℕ × ℕ)) (location byte : ℕ) → RisesAbove 0 updates
    → Contains updates (location, byte)
    → update_at updates location ≡ Some byte
among_found updates location byte rises among = (at_place 0 location byte updates among.0 rises among.1 among.2).1

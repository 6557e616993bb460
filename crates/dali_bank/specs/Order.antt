-- The content of an order.
use Rattle.std.specs.Prelude.{ℕ, Bool, nat_le, ◌&&◌, ◌||◌, ◌==◌, ◌<◌, ◌≤◌, ◌⊎◌, List, [], ◌∷◌, length, Option, Some, None, ⊤, if◌then◌else◌}
use Rattle.std.specs.List.{AllByRecursion}

-- an order's number, the short address of its unit, and its updates, each a location and a byte
pub record Contents : Type 0 where
  pub id : ℕ
  pub unit : ℕ
  pub updates : List (ℕ × ℕ)

-- a location that an order may write: all fields but the content format, which lies between the two runs
abbrev pub IsWritable : ℕ → Type 0
IsWritable location = ((0x03 ≤ location) × (location ≤ 0x10)) ⊎ ((0x13 ≤ location) × (location ≤ 0x77))

-- whether it is one
abbrev pub is_writable : ℕ → Bool
is_writable location =
    (nat_le 0x03 location && nat_le location 0x10) || (nat_le 0x13 location && nat_le location 0x77)

-- each location is above the one before it, the first one above the bound
abbrev pub RisesAbove : ℕ → List (ℕ × ℕ) → Type 0
RisesAbove bound [] = ⊤
RisesAbove bound (update ∷ updates) = (bound < update.0) × RisesAbove update.0 updates

-- what an order may hold: rising updates in writable places, 1 to 115 of them
pub record AreUpdates (updates : List (ℕ × ℕ)) : Type 0 where
  pub some : 1 ≤ length updates
  pub few : length updates ≤ 115
  pub rising : RisesAbove 0 updates
  pub writable : AllByRecursion (λ update. IsWritable update.0) updates

-- the byte that updates have for a location, if they have one
abbrev pub update_at : List (ℕ × ℕ) → ℕ → Option ℕ
update_at [] location = None
update_at (update ∷ updates) location = if update.0 == location then Some update.1 else update_at updates location

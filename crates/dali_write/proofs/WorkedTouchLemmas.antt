-- Changes of a unit by a session near the edges: possible ones, and others.
use Rattle.std.proofs.Common.{◌≡◌, ◌⊎◌, inl, inr, true, false, ℕ, [], ◌∷◌, Some, IsSome, arith}
use Rattle.dali_bus.specs.World.{byte_in}
use Rattle.dali_bus.specs.Hears.{IsIndicator}
use Rattle.dali_bus.specs.Power.{MayRelock}
use Rattle.dali_bus.specs.WorkedFrames.{small, written, indicating}
use Rattle.dali_bus.proofs.ByteLemmas.{same_byte}
use Rattle.dali_write.specs.Touches.{Has, OldOrNew}

-- a place that no write is for
pub no_other_place_touched : OldOrNew ⊥ ((2, 9) ∷ []) (Some (small true)) (Some (written true 3)) → ⊥
no_other_place_touched touched = by (touched 1 3) where
  by : MayRelock ⊥ 1 3 (Some 7) (Some 9)
      ⊎ ((byte : ℕ) × (◌≡◌ {A = ℕ} 1 1) × Has ((2, 9) ∷ []) 3 byte × IsSome (byte_in (Some (small true)) 1 3)
      × (byte_in (Some (written true 3)) 1 3 ≡ Some byte))
      ⊎ (IsIndicator 1 3 × (true ≡ true)) → ⊥
  by (inl (inl same)) = omega (arith, same_byte 9 7 same)
  by (inl (inr relocks)) = relocks.0
  by (inr (inl (byte, one, inl put, was, is))) = omega (arith, put.0)
  by (inr (inl (byte, one, inr none, was, is))) = none
  by (inr (inr set)) = omega (arith, set.0.1)

-- nor does an indicator byte come that wasn't there
pub no_indicator_touched_that_is_none : OldOrNew ⊥ [] (Some (small true)) (Some (indicating 0xA5)) → ⊥
no_indicator_touched_that_is_none touched = by (touched 1 1) where
  by : MayRelock ⊥ 1 1 (byte_in (Some (small true)) 1 1) (Some 0xA5)
      ⊎ ((byte : ℕ) × (◌≡◌ {A = ℕ} 1 1) × Has [] 1 byte × IsSome (byte_in (Some (small true)) 1 1)
      × (byte_in (Some (indicating 0xA5)) 1 1 ≡ Some byte))
      ⊎ (IsIndicator 1 1 × (true ≡ false)) → ⊥
  by (inl (inl same)) = cc
  by (inl (inr relocks)) = relocks.0
  by (inr (inl put)) = put.2
  by (inr (inr set)) = let no = set.1 in cc

-- Which lock bytes a loss of power may change, near the edges: what a weaker definition would let through.
use Rattle.std.proofs.Common.{◌≡◌, inl, inr, refl, Some, None, arith}
use Rattle.std.specs.Prelude.{⊤}
use Rattle.dali_bus.specs.Power.{MayRelock}
use Rattle.dali_bus.proofs.ByteLemmas.{same_byte}

pub relocked_in_bank_1 : MayRelock ⊤ 1 2 (Some 0x55) (Some 0xFF)
relocked_in_bank_1 = inr (tt, omega arith, refl, refl)

pub not_relocked_in_bank_0 : MayRelock ⊤ 0 2 (Some 0x55) (Some 0xFF) → ⊥
not_relocked_in_bank_0 (inl same) = omega (arith, same_byte 0xFF 0x55 same)
not_relocked_in_bank_0 (inr relocks) = omega (arith, relocks.1)

pub not_relocked_at_03h : MayRelock ⊤ 1 3 (Some 0x55) (Some 0xFF) → ⊥
not_relocked_at_03h (inl same) = omega (arith, same_byte 0xFF 0x55 same)
not_relocked_at_03h (inr relocks) = omega (arith, relocks.2)

pub not_another_lock_byte : MayRelock ⊤ 1 2 (Some 0x55) (Some 0x12) → ⊥
not_another_lock_byte (inl same) = omega (arith, same_byte 0x12 0x55 same)
not_another_lock_byte (inr relocks) = omega (arith, same_byte 0x12 0xFF relocks.3)

pub no_lock_byte_comes : MayRelock ⊤ 1 2 None (Some 0xFF) → ⊥
no_lock_byte_comes (inl same) = cc
no_lock_byte_comes (inr relocks) = let never : Some 0xFF ≡ None = relocks.3 in cc

pub not_relocked_with_its_power : MayRelock ⊥ 1 2 (Some 0x55) (Some 0xFF) → ⊥
not_relocked_with_its_power (inl same) = omega (arith, same_byte 0xFF 0x55 same)
not_relocked_with_its_power (inr relocks) = relocks.0

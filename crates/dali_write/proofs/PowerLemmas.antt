-- Losses of power: what they keep.
use Rattle.std.proofs.Common.{◌≡◌, ◌⊎◌, inl, inr, refl, sym, ap, subst, ◌∙◌, ℕ, Bool, true, false, ◌==◌, Option}
use Rattle.std.proofs.Common.{Some}
use Rattle.std.proofs.Common.{None, is_some}
use Rattle.std.proofs.lemmas.Bool.{eqb-true, eqb-false}
use Rattle.dali_bus.specs.World.{World, Gear, byte_in, byte_at, IfThere}
use Rattle.dali_bus.proofs.OpenLemmas.{is_open}
use Rattle.dali_bus.specs.Power.{relocked, LosesPower, MayRelock, PowersUp}
use Rattle.dali_bus.proofs.UnenabledLemmas.{powered_at, relocked_twice}
use Rattle.dali_write.specs.Worlds.{KeepsAt, Shows}
use Rattle.dali_write.proofs.GearLemmas.{StaysAt, dtr1_in, same_byte, same_there, IsOff}
use Rattle.dali_write.proofs.RunLemmas.{Drifts, Stays, Loses}
use Rattle.dali_bus.specs.Carry.{WorldStep}

-- one change after another
pub relock_then : {lost : Type 0} {bank location : ℕ} (first mid last : Option ℕ)
    → MayRelock lost bank location first mid
    → MayRelock lost bank location mid last → MayRelock lost bank location first last
relock_then first mid last (inl one) (inl two) = inl (two ∙ one)
relock_then first mid last (inl one) (inr (lost, above, lock, is)) = inr (lost, above, lock, is ∙ ap relocked one)
relock_then first mid last (inr (lost, above, lock, is)) (inl two) = inr (lost, above, lock, two ∙ is)
relock_then first mid last (inr (lost, above, lock, was)) (inr (again, more, here, is)) =
    inr (lost, above, lock, is ∙ ap relocked was ∙ relocked_twice first)

pub keeps_then : {loses : ℕ → Type 0} (first mid last : World) (address : ℕ) → KeepsAt loses first mid address
    → KeepsAt loses mid last address → KeepsAt loses first last address
keeps_then first mid last address one two =
    record {
      there = two.there ∙ one.there;
      memory = λ bank location.
          relock_then (byte_at first address bank location) (byte_at mid address bank location)
          (byte_at last address bank location) (one.memory bank location) (two.memory bank location);
      off = λ off. two.off (one.off off);
    }

-- a frame that leaves a unit alone keeps it
pub stays_keeps : {loses : ℕ → Type 0} (first last : World) (address : ℕ) → StaysAt first last address
    → KeepsAt loses first last address
stays_keeps first last address stays =
    record {
      there = same_there (first address) (last address) stays.memory;
      memory = λ bank location. inl (same_byte (first address) (last address) stays.memory bank location);
      off = stays.off;
    }

power_keeps : {loses : ℕ → Type 0} (old : World) (address : ℕ) (new : World) → loses address
    → LosesPower old address new → (unit : ℕ) → KeepsAt loses old new unit
power_keeps {loses} old address new of_these lost unit =
    let after = powered_at old address new lost unit in
    record {
      there = after.some;
      memory = λ bank location. elim (after.bytes bank location) [
        | inl same ↦ inl same
        | inr (here, above, lock, is) ↦ inr (subst loses here of_these, above, lock, is)
      ];
      off = λ off. after.shut off;
    }

pub drifts_keep : {loses : ℕ → Type 0} (first last : World) → Drifts WorldStep loses first last → (address : ℕ)
    → KeepsAt loses first last address
drifts_keep first last Stays address =
    record { there = refl; memory = λ bank location. inl refl; off = λ off. off }
drifts_keep first last (Loses {mid = mid} at of_these drifts lost) address =
    keeps_then first mid last address (drifts_keep first mid drifts address)
    (power_keeps mid at last of_these lost address)

-- a unit that lost its power isn't enabled, and has lost the bank
there_after : (old new : Option Gear) → IfThere PowersUp old new
    → (new ≡ old) ⊎ ((is_open new ≡ false) × (dtr1_in new ≡ Some 1 → ⊥))
there_after None None powers = inl refl
there_after (Some old) (Some new) powers =
    inr (powers.off, λ e. let zero = powers.dtr1 in let one : new.dtr1 ≡ 1 = cc in cc)
there_after None (Some new) powers = absurd powers
there_after (Some old) None powers = absurd powers

pub after_power : (old : World) (address : ℕ) (new : World) → LosesPower old address new → (unit : ℕ)
    → (new unit ≡ old unit) ⊎ ((is_open (new unit) ≡ false) × (dtr1_in (new unit) ≡ Some 1 → ⊥))
after_power old address new lost unit = by (unit == address) refl
  where
    by : (is : Bool) → (unit == address) ≡ is
        → (new unit ≡ old unit) ⊎ ((is_open (new unit) ≡ false) × (dtr1_in (new unit) ≡ Some 1 → ⊥))
    by false e = inl (lost.others unit (eqb-false unit address e))
    by true e =
        let here : unit ≡ address = eqb-true unit address e in
        there_after (old unit) (new unit)
        (subst (λ (a : ℕ). IfThere PowersUp (old a) (new a)) (sym here) lost.there)

-- what a unit has that holds of one without its bank goes on to hold
pub drifts_have : {loses : ℕ → Type 0} (P : Option Gear → Type 0)
    → ((gear : Option Gear) → is_open gear ≡ false → (dtr1_in gear ≡ Some 1 → ⊥) → P gear)
    → (unit : ℕ) (first last : World) → Drifts WorldStep loses first last → P (first unit) → P (last unit)
drifts_have P off unit first last Stays p = p
drifts_have P off unit first last (Loses {mid = mid} at of_these drifts lost) p =
    by (drifts_have P off unit first mid drifts p) (after_power mid at last lost unit)
  where
    by : P (mid unit) → (last unit ≡ mid unit) ⊎ ((is_open (last unit) ≡ false) × (dtr1_in (last unit) ≡ Some 1 → ⊥))
        → P (last unit)
    by p (inl same) = subst P (sym same) p
    by p (inr gone) = off (last unit) gone.0 gone.1

-- what a unit shows it goes on to show
some_there : (gear : Option Gear) → is_some gear ≡ true → (there : Gear) × (gear ≡ Some there)
some_there None some = cc
some_there (Some gear) some = (gear, refl)

pub shows_kept : {loses : ℕ → Type 0} (first last : World) (unit location byte : ℕ)
    → Shows loses first unit location byte → KeepsAt loses first last unit → Shows loses last unit location byte
shows_kept {loses} first last unit location byte shows keeps =
    let there = some_there (last unit) (keeps.there ∙ ap (λ (g : Option Gear). is_some g) shows.is) in
    let was : byte_at first unit 1 location ≡ shows.gear.memory 1 location =
    ap (λ (g : Option Gear). byte_in g 1 location) shows.is in
    let is : byte_at last unit 1 location ≡ there.0.memory 1 location =
    ap (λ (g : Option Gear). byte_in g 1 location) there.1 in
    let off = keeps.off (subst (λ (g : Option Gear). IsOff g) (sym shows.is) shows.off) in
    let changes : MayRelock (loses unit) 1 location (shows.gear.memory 1 location) (there.0.memory 1 location) =
    subst (λ (o : Option ℕ). MayRelock (loses unit) 1 location o (there.0.memory 1 location)) was
    (subst (λ (o : Option ℕ). MayRelock (loses unit) 1 location (byte_at first unit 1 location) o) is
    (keeps.memory 1 location)) in
    record {
      gear = there.0;
      is = there.1;
      byte_is = relock_then (Some byte) (shows.gear.memory 1 location) (there.0.memory 1 location) shows.byte_is
          changes;
      off = subst (λ (g : Option Gear). IsOff g) there.1 off;
    }

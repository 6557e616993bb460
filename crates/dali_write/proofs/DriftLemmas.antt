-- Losses of power on the simulated bus, and the units that keep their power.
use Rattle.std.proofs.Common.{◌≡◌, ◌≢◌, inl, inr, sym, ap, subst, ◌∙◌, refl, ℕ, Bool, true, false, List, [], ◌∷◌, map}
use Rattle.std.specs.Prelude.{◌==◌, if◌then◌else◌}
use Rattle.std.proofs.lemmas.Bool.{ne_eqb}
use Rattle.std.specs.List.{AllByRecursion}
use Rattle.dali_gear.specs.UnitState.{BankState, UnitState, powered_up}
use Rattle.dali_gear.specs.SimState.{SimState, AreApart, AreBanks, unit_powered}
use Rattle.dali_gear.specs.SimSteps.{power_keeps}
use Rattle.dali_gear.proofs.SimLemmas.{AreApart-map}
use Rattle.dali_write.specs.Losses.{IsElse, IsAlone}
use Rattle.dali_write.specs.Successes.{HasBank}
use Rattle.dali_write.proofs.RunLemmas.{Drifts, Stays, Loses}
use Rattle.dali_gear.specs.SimState.{SimStep}

-- a unit that isn't at the address is as it was
kept_power : (address : ℕ) (unit : UnitState) → unit.address ≢ address → unit_powered address unit ≡ unit
kept_power address unit other = rw (ne_eqb unit.address address other) refl

else_powered : (address at : ℕ) (unit : UnitState) → IsElse at unit → IsElse at (unit_powered address unit)
else_powered address at unit other = (rw (power_keeps address unit) other.0, by (unit.address == address))
  where
    by : (b : Bool) → (if b then powered_up unit else unit).enabled ≡ false
    by true = refl
    by false = other.1

all_else_powered : (address at : ℕ) (units : List UnitState) → AllByRecursion (IsElse at) units
    → AllByRecursion (IsElse at) (map (unit_powered address) units)
all_else_powered address at [] all = tt
all_else_powered address at (unit ∷ units) all =
    (else_powered address at unit all.0, all_else_powered address at units all.1)

alone_powered : (address at : ℕ) (unit : UnitState) (units : List UnitState) → address ≢ at → IsAlone at unit units
    → IsAlone at unit (map (unit_powered address) units)
alone_powered address at unit [] other alone = absurd alone
alone_powered address at unit (first ∷ units) other (inl here) =
    inl (
      ap (unit_powered address) here.0 ∙ kept_power address unit (λ same. other (sym same ∙ here.1)),
      here.1,
      all_else_powered address at units here.2,
    )
alone_powered address at unit (first ∷ units) other (inr further) =
    inr (else_powered address at first further.0, alone_powered address at unit units other further.1)

bank_powered : (address at : ℕ) (bank : BankState) (units : List UnitState) → address ≢ at → HasBank at bank units
    → HasBank at bank (map (unit_powered address) units)
bank_powered address at bank [] other has = absurd has
bank_powered address at bank (unit ∷ units) other (inl here) =
    inl (subst (λ (u : UnitState). (u.address ≡ at) × (u.bank1 ≡ bank))
    (sym (kept_power address unit (λ same. other (sym same ∙ here.0)))) here)
bank_powered address at bank (unit ∷ units) other (inr later) =
    inr (bank_powered address at bank units other later)

-- what each loss of power keeps, all of them keep
drifts_hold : (P : List UnitState → Type 0) (loses : ℕ → Type 0)
    → ((address : ℕ) (units : List UnitState) → loses address → P units → P (map (unit_powered address) units))
    → (first last : SimState) → Drifts SimStep loses first last → P first.units → P last.units
drifts_hold P loses keeps first last Stays p = p
drifts_hold P loses keeps first last (Loses {mid = mid} address of_these drifts lost) p =
    subst P (sym lost.units) (keeps address mid.units of_these (drifts_hold P loses keeps first mid drifts p))

another : (loses : ℕ → Type 0) (at address : ℕ) → (loses at → ⊥) → loses address → address ≢ at
another loses at address keeps_power of_these same = keeps_power (subst loses same of_these)

-- the unit that is alone at its address is so still, and as it was
pub drifts_alone : (loses : ℕ → Type 0) (at : ℕ) (unit : UnitState) (first last : SimState) → (loses at → ⊥)
    → Drifts SimStep loses first last → IsAlone at unit first.units → IsAlone at unit last.units
drifts_alone loses at unit first last keeps_power drifts alone =
    drifts_hold (λ units. IsAlone at unit units) loses
    (λ address units of_these so. alone_powered address at unit units
    (another loses at address keeps_power of_these) so)
    first last drifts alone

pub drifts_bank : (loses : ℕ → Type 0) (at : ℕ) (bank : BankState) (first last : SimState) → (loses at → ⊥)
    → Drifts SimStep loses first last → HasBank at bank first.units → HasBank at bank last.units
drifts_bank loses at bank first last keeps_power drifts has =
    drifts_hold (λ units. HasBank at bank units) loses
    (λ address units of_these so. bank_powered address at bank units (another loses at address keeps_power of_these) so)
    first last drifts has

pub drifts_apart : (loses : ℕ → Type 0) (first last : SimState) → Drifts SimStep loses first last → AreApart first.units
    → AreApart last.units
drifts_apart loses first last drifts apart =
    drifts_hold AreApart loses (λ address units of_these so. AreApart-map _ (power_keeps address) units so)
    first last drifts apart

-- units that are apart and have their banks did so before
pub whole_before : (loses : ℕ → Type 0) (first last : SimState) → Drifts SimStep loses first last
    → AreApart last.units × AreBanks last.units → AreApart first.units × AreBanks first.units
whole_before loses first last Stays whole = whole
whole_before loses first last (Loses {mid = mid} address of_these drifts lost) whole =
    whole_before loses first mid drifts (lost.apart, lost.banks)

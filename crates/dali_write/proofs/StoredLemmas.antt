-- The effect of an access on bank 1: a write that succeeded has stored its byte, and nothing else has changed.
use Rattle.std.proofs.Common.{◌≡◌, ◌≢◌, ◌⊎◌, refl, inl, inr, ℕ, List, Option, Some, arith}
use Rattle.std.specs.Prelude.{slice_get, slice_set}
use Rattle.std.proofs.lemmas.Grind.{common_steps}
use Rattle.std.proofs.lemmas.Option.{gets}
use Rattle.std.proofs.lemmas.List.{length-set}
use Rattle.dali_write.specs.Exchanges.{Exchange}
use Rattle.dali_gear.specs.UnitState.{BankState, UnitState, with_byte}
use Rattle.dali_gear.specs.SimState.{SimState}
use Rattle.dali_write.specs.declared.access.Access.{Access}
use Rattle.dali_write.specs.declared.block.Block.{Block}
use Rattle.dali_write.specs.declared.access.Access.TheVariants.{ReadFrom, WriteTo, WriteOn}
use Rattle.dali_write.specs.Requests.{access_requests}
use Rattle.dali_write.specs.Tries.{most_tries, Succeeds, Fails}
use Rattle.dali_write.specs.Losses.{IsAlone, OnlyDiffers}
use Rattle.dali_write.proofs.KeptLemmas.{Keeps, HasPut, after_misses, after_success}
use Rattle.dali_write.proofs.RunLemmas.{Leads}
use Rattle.dali_gear.specs.SimState.{SimStep}
use Rattle.dali_write.specs.declared.pace.Pace.{Pace}
use Rattle.dali_write.specs.declared.pace.Pace.TheVariants.{Checked, Short}
use Rattle.dali_write.specs.Plans.{write_next}

get_other : (xs : List ℕ) (i x j : ℕ) → j ≢ i → slice_get (slice_set xs i x) j ≡ slice_get xs j
get_other xs i x j other = grind (arith, common_steps, gets)

same : (location : ℕ) (bank : BankState) → OnlyDiffers bank location bank
same location bank = record { others = λ other away. refl; lengths = refl; fixed = refl }

stored : (old : BankState) (location byte : ℕ) (bank : BankState) → OnlyDiffers old location bank
    → OnlyDiffers old location (with_byte bank location byte)
stored old location byte bank so = grind (arith, get_other, length-set bank.bytes location byte)

-- a write that succeeded has stored its byte and nothing else, and the unit is enabled
pub write_done : (loses : ℕ → Type 0) (pace : Pace) (at before location byte : ℕ) (unit : UnitState)
    (outcome : Option (List ℕ)) (told : List Exchange) (first last : SimState)
    → Leads SimStep loses told first last → (loses at → ⊥)
    → IsAlone at unit first.units → Succeeds (access_requests at (write_next pace before location byte)) outcome told
    → (now : UnitState) × IsAlone at now last.units × OnlyDiffers unit.bank1 location now.bank1
    × HasPut location byte now
write_done loses Checked at before location byte unit outcome told first last run keeps_power alone done =
    after_success loses (OnlyDiffers unit.bank1 location) at (WriteTo location byte) unit outcome told first last run
    keeps_power alone (same location unit.bank1) (stored unit.bank1 location byte) done
write_done loses Short at before location byte unit outcome told first last run keeps_power alone done =
    after_success loses (OnlyDiffers unit.bank1 location) at (WriteOn before location byte) unit outcome told first
    last run
    keeps_power alone (same location unit.bank1) (stored unit.bank1 location byte) done

pub write_stored : (loses : ℕ → Type 0) (pace : Pace) (at before location byte : ℕ) (unit : UnitState)
    (outcome : Option (List ℕ)) (told : List Exchange) (first last : SimState)
    → Leads SimStep loses told first last → (loses at → ⊥)
    → IsAlone at unit first.units → Succeeds (access_requests at (write_next pace before location byte)) outcome told
    → (now : UnitState) × IsAlone at now last.units × OnlyDiffers unit.bank1 location now.bank1
    × (slice_get now.bank1.bytes location ≡ Some byte)
write_stored loses pace at before location byte unit outcome told first last run keeps_power alone done =
    let all = write_done loses pace at before location byte unit outcome told first last run keeps_power alone done in
    (all.0, all.1, all.2, all.3.0)

-- an access that came to its end, either way
kept_by : (loses : ℕ → Type 0) (keep : BankState → Type 0) (at : ℕ) (access : Access) (unit : UnitState)
    (outcome : Option (List ℕ)) (told : List Exchange) (first last : SimState)
    → Leads SimStep loses told first last → (loses at → ⊥)
    → IsAlone at unit first.units → keep unit.bank1 → Keeps keep access
    → Succeeds (access_requests at access) outcome told ⊎ Fails (access_requests at access) outcome told
    → (now : UnitState) × IsAlone at now last.units × keep now.bank1
kept_by loses keep at access unit outcome told first last run keeps_power alone kept keeps (inl done) =
    let all = after_success loses keep at access unit outcome told first last run keeps_power alone kept keeps done in
    (all.0, all.1, all.2)
kept_by loses keep at access unit outcome told first last run keeps_power alone kept keeps (inr failed) =
    after_misses loses keep at access unit most_tries told first last run keeps_power alone kept keeps failed.1

pub read_keeps : (loses : ℕ → Type 0) (at : ℕ) (block : Block) (unit : UnitState) (outcome : Option (List ℕ))
    (told : List Exchange)
    (first last : SimState)
    → Leads SimStep loses told first last → (loses at → ⊥)
    → IsAlone at unit first.units
    → Succeeds (access_requests at (ReadFrom block)) outcome told
    ⊎ Fails (access_requests at (ReadFrom block)) outcome told
    → (now : UnitState) × IsAlone at now last.units × (now.bank1 ≡ unit.bank1)
read_keeps loses at block unit outcome told first last run keeps_power alone ends =
    kept_by loses (λ bank. bank ≡ unit.bank1) at (ReadFrom block) unit outcome told first last run keeps_power alone
    refl tt ends

pub write_keeps : (loses : ℕ → Type 0) (pace : Pace) (at before location byte : ℕ) (unit : UnitState)
    (outcome : Option (List ℕ)) (told : List Exchange) (first last : SimState)
    → Leads SimStep loses told first last → (loses at → ⊥)
    → IsAlone at unit first.units
    → Succeeds (access_requests at (write_next pace before location byte)) outcome told
    ⊎ Fails (access_requests at (write_next pace before location byte)) outcome told
    → (now : UnitState) × IsAlone at now last.units × OnlyDiffers unit.bank1 location now.bank1
write_keeps loses Checked at before location byte unit outcome told first last run keeps_power alone ends =
    kept_by loses (OnlyDiffers unit.bank1 location) at (WriteTo location byte) unit outcome told first last run
    keeps_power alone (same location unit.bank1) (stored unit.bank1 location byte) ends
write_keeps loses Short at before location byte unit outcome told first last run keeps_power alone ends =
    kept_by loses (OnlyDiffers unit.bank1 location) at (WriteOn before location byte) unit outcome told first last run
    keeps_power alone (same location unit.bank1) (stored unit.bank1 location byte) ends

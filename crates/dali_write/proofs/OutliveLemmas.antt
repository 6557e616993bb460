-- An access misses no more often than its unit has losses.
use Rattle.std.proofs.Common.{[], ◌∷◌, ◌≡◌, ◌⊎◌, inl, inr, ℕ, zero, suc, ◌≤◌, ◌<◌}
use Rattle.std.proofs.Common.{List, Option, IsTrue, arith}
use Rattle.std.proofs.lemmas.Bool.{eqb-false}
use Rattle.std.proofs.lemmas.List.{length-set, get_or-set_other}
use Rattle.dali_write.specs.Exchanges.{Exchange}
use Rattle.dali_gear.specs.UnitState.{BankState, UnitState, is_writable, with_byte}
use Rattle.dali_gear.specs.SimState.{SimState}
use Rattle.dali_write.specs.declared.access.Access.{Access}
use Rattle.dali_write.specs.declared.access.Access.TheVariants.{ReadFrom, WriteTo, WriteOn}
use Rattle.dali_write.specs.Requests.{access_requests}
use Rattle.dali_write.specs.Tries.{most_tries, Misses, Succeeds, Fails}
use Rattle.dali_write.specs.Losses.{IsAlone, HasFrom, CanDo}
use Rattle.dali_write.proofs.LossLemmas.{missed_by_loss}
use Rattle.dali_write.proofs.KeptLemmas.{parts, after_misses}
use Rattle.dali_write.proofs.RunLemmas.{Leads, losses_along, UnrefusedAlong}
use Rattle.dali_gear.specs.SimState.{SimStep}
use Rattle.dali_write.proofs.LossLemmas.{CanTry}
use Rattle.dali_write.proofs.DriftLemmas.{drifts_alone}

-- a location that was written is as writable as before
still_writable : (bank : BankState) (location byte : ℕ)
    → is_writable (with_byte bank location byte) location ≡ is_writable bank location
still_writable bank location byte = grind (arith, length-set bank.bytes location byte, get_or-set_other, eqb-false)

-- after misses the unit can try the access still
can_after : (loses : ℕ → Type 0) (at : ℕ) (access : Access) (unit : UnitState) (misses : ℕ) (told : List Exchange)
    (first last : SimState)
    → Leads SimStep loses told first last → (loses at → ⊥)
    → IsAlone at unit first.units → CanDo access unit → Misses (access_requests at access) misses told
    → (now : UnitState) × IsAlone at now last.units × CanTry access misses now
can_after loses at (ReadFrom block) unit misses told first last run keeps_power alone can are =
    after_misses loses (λ bank. HasFrom bank block.location block.count) at (ReadFrom block) unit misses told first
    last run keeps_power alone can tt are
can_after loses at (WriteTo location byte) unit misses told first last run keeps_power alone can are =
    after_misses loses (λ bank. IsTrue (is_writable bank location)) at (WriteTo location byte) unit misses told first
    last run keeps_power alone can
    (λ bank can_still. rw (still_writable bank location byte) can_still) are
can_after loses at (WriteOn before location byte) unit zero [] first last run keeps_power alone can are =
    (unit, drifts_alone loses at unit first last keeps_power run alone, can)
can_after loses at (WriteOn before location byte) unit zero (x ∷ told) first last run keeps_power alone can are = cc
can_after loses at (WriteOn before location byte) unit (suc misses) told first last run keeps_power alone can are =
    after_misses loses (λ bank. IsTrue (is_writable bank location)) at (WriteOn before location byte) unit
    (suc misses) told
    first last run keeps_power alone can.0
    (λ bank can_still. rw (still_writable bank location byte) can_still) are

-- each missed try took a loss
pub misses_by_losses : (loses : ℕ → Type 0) (at : ℕ) (access : Access) (unit : UnitState) (misses : ℕ)
    (told : List Exchange) (first last : SimState) (run : Leads SimStep loses told first last)
    → (loses at → ⊥) → IsAlone at unit first.units → CanDo access unit → UnrefusedAlong loses told first last run
    → Misses (access_requests at access) misses told → misses ≤ losses_along at loses told first last run
misses_by_losses loses at access unit zero told first last run keeps_power alone can kind are = omega arith
misses_by_losses loses at access unit (suc misses) told first last run keeps_power alone can kind are =
    let two = parts loses at told are.0 are.1 first last run are.2 in
    let kinds = two.kinds kind in
    let older = can_after loses at access unit misses are.1 first two.mid two.before keeps_power alone can are.4 in
    let one =
    missed_by_loss loses at access misses older.0 are.0 two.mid last two.after keeps_power older.1 older.2 kinds.1
    are.3 in
    let few =
    misses_by_losses loses at access unit misses are.1 first two.mid two.before keeps_power alone can kinds.0 are.4 in
    let sum = two.sum in
    omega arith

pub access_succeeds : (loses : ℕ → Type 0) (at : ℕ) (access : Access) (unit : UnitState) (outcome : Option (List ℕ))
    (told : List Exchange) (first last : SimState) (run : Leads SimStep loses told first last)
    → (loses at → ⊥) → IsAlone at unit first.units → CanDo access unit → UnrefusedAlong loses told first last run
    → losses_along at loses told first last run < most_tries
    → Succeeds (access_requests at access) outcome told ⊎ Fails (access_requests at access) outcome told
    → Succeeds (access_requests at access) outcome told
access_succeeds loses at access unit outcome told first last run keeps_power alone can kind few (inl done) = done
access_succeeds loses at access unit outcome told first last run keeps_power alone can kind few (inr failed) =
    let many =
    misses_by_losses loses at access unit most_tries told first last run keeps_power alone can kind failed.1 in
    absurd (omega arith)

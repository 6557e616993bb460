-- The ends of readings on the simulated bus, if little is lost, course by course.
use Rattle.std.proofs.Common.{◌≡◌, refl, ap, ◌∙◌, ℕ, List, [], ◌∷◌, Option, Some}
use Rattle.std.proofs.Common.{arith}
use Rattle.std.specs.Prelude.{slice_get}
use Rattle.dali_gear.specs.UnitState.{UnitState}
use Rattle.dali_gear.specs.SimState.{SimState}
use Rattle.dali_write.specs.Exchanges.{Exchange}
use Rattle.dali_write.proofs.RunLemmas.{SparedAlong, MissesAlong}
use Rattle.dali_read.specs.declared.finding.Finding.{Finding}
use Rattle.dali_read.specs.Findings.{IsFound}
use Rattle.dali_read.specs.Places.{last_course, bank_course, order_course}
use Rattle.dali_read.specs.Readings.{Ends}
use Rattle.dali_read.specs.Shown.{Finds, Holds}
use Rattle.dali_read.proofs.CourseLemmas.{last_shown, bank_shown}
use Rattle.dali_read.proofs.FindLemmas.{found_so}
use Rattle.dali_read.proofs.SparedLemmas.{ends_read, has_bank}
use Rattle.dali_read.proofs.StaysLemmas.{last_stays, bank_stays, order_stays, names_last, same_elements}

pub last_succeeds : (loses : ℕ → Type 0) (at : ℕ) (unit : UnitState) (outcome : Option (List ℕ))
    (told : List Exchange) (first last : SimState) (spared : SparedAlong loses at unit told first last)
    → Ends at last_course outcome told
    → ((byte : ℕ) × (outcome ≡ Some (byte ∷ [])) × (slice_get unit.bank1.bytes 0x00 ≡ Some byte))
    × MissesAlong loses at unit told first last spared
last_succeeds loses at unit outcome told first last spared ends =
    let bank = has_bank loses at last_course unit outcome told first last spared refl ends in
    let all = ends_read loses at last_course _ unit outcome told first last spared (last_stays _ bank) ends in
    let read = last_shown (Holds unit.bank1.bytes) told at all.0 all.2 all.3 in
    ((read.0, all.1 ∙ ap (λ (l : List ℕ). Some l) read.1, read.2), all.4)

pub bank_succeeds : (loses : ℕ → Type 0) (at : ℕ) (unit : UnitState) (outcome : Option (List ℕ))
    (told : List Exchange) (first last : SimState) (spared : SparedAlong loses at unit told first last)
    → Ends at bank_course outcome told
    → (outcome ≡ Some unit.bank1.bytes) × MissesAlong loses at unit told first last spared
bank_succeeds loses at unit outcome told first last spared ends =
    let bank = has_bank loses at bank_course unit outcome told first last spared refl ends in
    let all = ends_read loses at bank_course _ unit outcome told first last spared (bank_stays _ bank) ends in
    let shows = bank_shown (Holds unit.bank1.bytes) told at all.0 all.2 all.3 in
    let long = names_last unit.bank1.bytes shows.last bank (shows.bytes_are 0 shows.last shows.names) in
    let most = bank.most in
    let count = shows.count in
    let same = same_elements all.0 unit.bank1.bytes (omega arith) shows.bytes_are in
    (all.1 ∙ ap (λ (l : List ℕ). Some l) same, all.4)

pub order_succeeds : (loses : ℕ → Type 0) (at : ℕ) (unit : UnitState) (updates : List (ℕ × ℕ))
    (outcome : Option (List ℕ)) (told : List Exchange) (first last : SimState)
    (spared : SparedAlong loses at unit told first last)
    → Ends at (order_course updates) outcome told
    → ((bytes : List ℕ) × (outcome ≡ Some bytes) × ((finding : Finding) → IsFound updates bytes finding
    → Finds (Holds unit.bank1.bytes) updates finding))
    × MissesAlong loses at unit told first last spared
order_succeeds loses at unit updates outcome told first last spared ends =
    let bank = has_bank loses at (order_course updates) unit outcome told first last spared refl ends in
    let all =
    ends_read loses at (order_course updates) _ unit outcome told first last spared (order_stays _ updates bank) ends in
    ((all.0, all.1, λ finding found. found_so (Holds unit.bank1.bytes) updates all.0 finding all.3 found), all.4)

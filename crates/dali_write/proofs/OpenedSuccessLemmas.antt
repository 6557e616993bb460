-- Along the simulated bus an opened session that loses little is done.
use Rattle.std.proofs.Common.{◌≡◌, ◌⊎◌, inl, inr, refl, sym, ap, subst, ◌∙◌, ℕ, zero, suc, ◌≤◌, ◌<◌, Bool}
use Rattle.std.proofs.Common.{true, false, ◌==◌, List, [], ◌∷◌, length, Option, Some, None}
use Rattle.std.proofs.Common.{arith}
use Rattle.std.specs.Prelude.{slice_get, ⊤}
use Rattle.std.proofs.lemmas.Bool.{ne_eqb, eqb-true, eqb-false, lt-ltb, le-leb}
use Rattle.std.proofs.lemmas.Option.{get_or_from_slice_get}
use Rattle.dali_bank.specs.Order.{RisesAbove}
use Rattle.dali_write.proofs.RisingLemmas.{one_byte}
use Rattle.dali_write.proofs.RowLemmas.{rows_hold}
use Rattle.dali_write.proofs.TurnLemmas.{unlock_turn}
use Rattle.dali_write.proofs.SuccessLemmas.{Goes, lock_writable, read_goes, spared_bank, succeeds}
use Rattle.dali_gear.specs.UnitState.{BankState, UnitState, is_writable}
use Rattle.dali_gear.specs.SimState.{SimState}
use Rattle.dali_write.specs.Exchanges.{Exchange}
use Rattle.dali_write.specs.declared.ask.Verdict.{Verdict}
use Rattle.dali_write.specs.declared.ask.Verdict.TheVariants.{Done}
use Rattle.dali_write.specs.declared.ask.Ask.TheVariants.{Ended}
use Rattle.dali_write.specs.Plans.{Plan, Make}
use Rattle.dali_write.specs.Plans.{read_back, write_on, unlock}
use Rattle.dali_write.specs.Requests.{moved_on}
use Rattle.dali_write.specs.Tries.{Wants}
use Rattle.dali_write.specs.Losses.{HasFrom, OnlyDiffers}
use Rattle.dali_write.specs.Touches.{Has}
use Rattle.dali_write.specs.Successes.{MayStoreAt, TakesAll}
use Rattle.dali_write.proofs.RunLemmas.{SparedAlong, MissesAlong}
use Rattle.dali_write.specs.declared.pace.Pace.{Pace}
use Rattle.dali_write.specs.declared.pace.Pace.TheVariants.{Checked, Short as ShortPace}
use Rattle.dali_write.specs.Plans.{rows_of, most_of, read_backs, read_all_back, write_next}
use Rattle.dali_write.proofs.RowLemmas.{AllInRow, AllInRows}
use Rattle.dali_write.proofs.PlaceLemmas.{moved_next}
use Rattle.std.proofs.lemmas.Slice.Eq.{bytes_eq-Decides}
use Rattle.dali_bus.specs.Hears.{up}
use Rattle.dali_write.specs.Plans.{either_way}
use Rattle.dali_write.specs.Requests.{block}
use Rattle.dali_write.specs.Plans.{give_up, read_again}

takes_of : (bank : BankState) (updates : List (ℕ × ℕ)) (location byte : ℕ) → TakesAll bank updates
    → Has updates location byte → MayStoreAt bank location
takes_of bank [] location byte takes has = absurd has
takes_of bank (update ∷ updates) location byte takes (inl here) = subst (MayStoreAt bank) here.0 takes.0
takes_of bank (update ∷ updates) location byte takes (inr later) = takes_of bank updates location byte takes.1 later

-- the unit is unlocked, and it has each of the updates, except for those that are left
record Going (updates left : List (ℕ × ℕ)) (bank : BankState) : Type 0 where
  lock : slice_get bank.bytes 2 ≡ Some 0x55
  long : 2 < length bank.bytes
  takes : (location byte : ℕ) → Has updates location byte → MayStoreAt bank location
  part : (location byte : ℕ) → Has left location byte → Has updates location byte
  there : (location byte : ℕ) → Has updates location byte
      → Has left location byte ⊎ (slice_get bank.bytes location ≡ Some byte)

pub takes_still : (old : BankState) (written : ℕ) (new : BankState) (location : ℕ) → OnlyDiffers old written new
    → MayStoreAt old location → MayStoreAt new location
takes_still old written new location only takes = (takes.0, rw only.lengths takes.1, rw only.fixed takes.2)

one_writable : (bank : BankState) (location : ℕ) → slice_get bank.bytes 2 ≡ Some 0x55 → MayStoreAt bank location
    → is_writable bank location ≡ true
one_writable bank location lock takes = grind (arith, get_or_from_slice_get, lt-ltb, ne_eqb, le-leb)

-- one update more is written
written_on : (updates left : List (ℕ × ℕ)) (update : ℕ × ℕ) (old new : BankState) → RisesAbove 0 updates
    → Going updates (update ∷ left) old
    → OnlyDiffers old update.0 new → slice_get new.bytes update.0 ≡ Some update.1 → Going updates left new
written_on updates left update old new rises going only stored =
    let mine : Has updates update.0 update.1 = going.part update.0 update.1 (inl (refl, refl)) in
    let takes = going.takes update.0 update.1 mine in
    let past : 3 ≤ update.0 = takes.0 in
    record {
      lock = only.others 2 (λ same. absurd (omega arith)) ∙ going.lock;
      long = rw only.lengths going.long;
      takes = λ location byte has. takes_still old update.0 new location only (going.takes location byte has);
      part = λ location byte has. going.part location byte (inr has);
      there = λ location byte has. by location byte has (going.there location byte has);
    }
  where
    other_kept : (location byte : ℕ) (b : Bool) → (location == update.0) ≡ b → Has updates location byte
        → slice_get old.bytes location ≡ Some byte → slice_get new.bytes location ≡ Some byte
    other_kept location byte true e has was =
        let here : location ≡ update.0 = eqb-true location update.0 e in
        let mine : Has updates location update.1 =
        subst (λ (l : ℕ). Has updates l update.1) (sym here) (going.part update.0 update.1 (inl (refl, refl))) in
        let same : update.1 ≡ byte = one_byte 0 updates location update.1 byte rises mine has in
        rw here (stored ∙ ap Some same)
    other_kept location byte false e has was = only.others location (eqb-false location update.0 e) ∙ was

    by : (location byte : ℕ) → Has updates location byte
        → Has (update ∷ left) location byte ⊎ (slice_get old.bytes location ≡ Some byte)
        → Has left location byte ⊎ (slice_get new.bytes location ≡ Some byte)
    by location byte has (inl (inl here)) =
        inr (subst (λ (b : ℕ). slice_get new.bytes location ≡ Some b) here.1
        (subst (λ (l : ℕ). slice_get new.bytes l ≡ Some update.1) here.0 stored))
    by location byte has (inl (inr later)) = inl later
    by location byte has (inr was) = inr (other_kept location byte (location == update.0) refl has was)

-- a bank that holds all the bytes of the rows
abbrev HoldsRows : BankState → List (ℕ × List ℕ) → Type 0
HoldsRows bank rows = AllInRows (λ location byte. slice_get bank.bytes location ≡ Some byte) rows

-- a row is read as the bank holds it
row_held : (bank : BankState) (location : ℕ) (bytes read : List ℕ)
    → AllInRow (λ at byte. slice_get bank.bytes at ≡ Some byte) location bytes → length read ≡ length bytes
    → ((index byte : ℕ) → slice_get read index ≡ Some byte → slice_get bank.bytes (moved_on location index) ≡ Some byte)
    → read ≡ bytes
row_held bank location [] [] holds same each = refl
row_held bank location [] (one ∷ read) holds same each = cc
row_held bank location (byte ∷ bytes) [] holds same each = cc
row_held bank location (byte ∷ bytes) (one ∷ read) holds same each =
    let both : Some one ≡ Some byte = sym (each 0 one refl) ∙ holds.0 in
    let first : one ≡ byte = cc in
    let rest =
    row_held bank (up location) bytes read holds.1 (omega arith)
    (λ index later is. rw (moved_next location index) (each (suc index) later is)) in
    ap (λ (b : ℕ). b ∷ read) first ∙ ap (λ (l : List ℕ). byte ∷ l) rest

row_there : (bank : BankState) (location : ℕ) (bytes : List ℕ)
    → AllInRow (λ at byte. slice_get bank.bytes at ≡ Some byte) location bytes
    → HasFrom bank location (length bytes)
row_there bank location [] holds index below = absurd (omega arith)
row_there bank location (byte ∷ bytes) holds zero below = rw holds.0 refl
row_there bank location (byte ∷ bytes) holds (suc index) below =
    rw (← moved_next location index) (row_there bank (up location) bytes holds.1 index (omega arith))

read_back_goes : (rows : List (ℕ × List ℕ)) (bank : BankState) (last : Option ℕ) → HoldsRows bank rows
    → Goes (λ now. ⊤) Done (read_back rows) bank last
read_back_goes [] bank last holds = (refl, tt)
read_back_goes (row ∷ rows) bank last holds =
    read_goes (λ now. ⊤) Done (block row.0 (length row.1)) (read_again row.0 row.1 (read_back rows)) _ bank last
    (row_there bank row.0 row.1 holds.0)
    (λ read has.
    rw ((bytes_eq-Decides read row.1).1 (row_held bank row.0 row.1 read holds.0 has.0 has.1))
    (read_back_goes rows bank None holds.1))

-- a write where it may store, just after another one
write_goes : (pace : Pace) (before location byte : ℕ) (after : Plan) (bank : BankState)
    → is_writable bank location ≡ true
    → ((new : BankState) → OnlyDiffers bank location new → slice_get new.bytes location ≡ Some byte
    → Goes (λ now. ⊤) Done after new (Some location))
    → Goes (λ now. ⊤) Done (Make (write_next pace before location byte) (either_way give_up (λ bytes. after))) bank
    (Some before)
write_goes Checked before location byte after bank may rest = (may, λ new echo written. rest new written.0 written.1)
write_goes ShortPace before location byte after bank may rest =
    ((may, refl), λ new echo written. rest new written.0 written.1)

write_on_goes : (pace : Pace) (updates : List (ℕ × ℕ)) (before : ℕ) (left : List (ℕ × ℕ)) (bank : BankState)
    → RisesAbove 0 updates
    → Going updates left bank
    → Goes (λ now. ⊤) Done (write_on pace updates before left) bank (Some before)
write_on_goes pace updates before [] bank rises going =
    write_goes pace before 2 0xFF (read_all_back pace updates) bank (lock_writable bank going.long)
    (λ new only stored. read_back_goes (rows_of (most_of pace) (read_backs updates)) new (Some 2)
    (rows_hold (λ location byte. slice_get new.bytes location ≡ Some byte) (most_of pace) (read_backs updates)
    (locked new only stored)))
  where
    locked : (new : BankState) → OnlyDiffers bank 2 new → slice_get new.bytes 2 ≡ Some 0xFF → (location byte : ℕ)
        → Has (read_backs updates) location byte → slice_get new.bytes location ≡ Some byte
    locked new only stored location byte (inl here) = rw (← here.0, ← here.1) stored
    locked new only stored location byte (inr has) = elim (going.there location byte has) [
      | inl never ↦ absurd never
      | inr was ↦
          let past = (going.takes location byte has).0 in
          only.others location (λ same. absurd (omega arith)) ∙ was
    ]
write_on_goes pace updates before (update ∷ left) bank rises going =
    write_goes pace before update.0 update.1 (write_on pace updates update.0 left) bank
    (one_writable bank update.0 going.lock
    (going.takes update.0 update.1 (going.part update.0 update.1 (inl (refl, refl)))))
    (λ new only stored.
    write_on_goes pace updates update.0 left new rises (written_on updates left update bank new rises going only
    stored))

pub unlock_goes : (pace : Pace) (updates : List (ℕ × ℕ)) (bank : BankState) → RisesAbove 0 updates
    → 2 < length bank.bytes → TakesAll bank updates → Goes (λ now. ⊤) Done (unlock pace updates) bank None
unlock_goes pace updates bank rises long takes = (
  lock_writable bank long,
  λ new echo written.
      write_on_goes pace updates 2 updates new rises (record {
        lock = written.1;
        long = rw written.0.lengths long;
        takes = λ location byte has. takes_still bank 2 new location written.0 (takes_of bank updates location byte
            takes has);
        part = λ location byte has. has;
        there = λ location byte has. inl has;
      }),
)

pub opened_succeeds : (loses : ℕ → Type 0) (at : ℕ) (unit : UnitState) (pace : Pace) (updates : List (ℕ × ℕ))
    (verdict : Verdict) (told : List Exchange) (first last : SimState)
    (spared : SparedAlong loses at unit told first last)
    → RisesAbove 0 updates → TakesAll unit.bank1 updates → Wants at (unlock pace updates) told (Ended verdict)
    → (verdict ≡ Done) × MissesAlong loses at unit told first last spared
opened_succeeds loses at unit pace updates verdict told first last spared rises takes wants =
    let least = (spared_bank loses at unit _ _ verdict told first last spared wants).least in
    succeeds loses (λ now. ⊤) Done verdict at (unlock pace updates) unit told first last spared
    (unlock_goes pace updates unit.bank1 rises (omega arith) takes) (unlock_turn pace updates) wants

-- Each effect of a frame on a simulated unit is one that a unit may show, and so is its state after power-up: lemmas,
-- of which `unit_hears` and `unit_powers_up` say it.
--
-- They are in specs/ since the law of the simulated bus's steps rests on them.
use Rattle.std.proofs.Common.{◌≡◌, ◌≢◌, ◌<◌, ℕ, zero, suc, Bool, true, false, not, ◌&&◌, ◌||◌, ◌⊎◌, inl, inr, List, []}
use Rattle.std.proofs.Common.{◌∷◌, length, Option, Some, None, IsSome, IsNone, refl, sym, subst, arith}
use Rattle.std.specs.Prelude.{◌==◌, nat_lt, slice_get, slice_set, if◌then◌else◌}
use Rattle.std.proofs.Math.Dec.{eqb-suc-suc}
use Rattle.std.proofs.lemmas.Bool.{eqb-true, eqb-false, ne_eqb, ltb-true, and_parts, and_from, both_ways}
use Rattle.std.proofs.lemmas.Option.{slice_get-get_or}
use Rattle.dali_frame.specs.declared.forward.Frame.{Frame}
use Rattle.dali_frame.specs.declared.forward.Frame.TheVariants.{Dtr0, Dtr1, Dtr2, Write, WriteSilent, Enable, AskDtr0}
use Rattle.dali_frame.specs.declared.forward.Frame.TheVariants.{AskDtr1, AskDtr2, Read, Other}
use Rattle.dali_gear.specs.UnitState.{BankState, UnitState, is_writable, with_byte, has_bank, bank_of, with_stored}
use Rattle.dali_gear.specs.UnitState.{carries_out, stores, selected_byte, after_read, after_frame, answer_to, gear_of}
use Rattle.dali_gear.specs.UnitState.{powered_up, locked_bank}
use Rattle.dali_bus.specs.Power.{relocked, PowersUp}
use Rattle.dali_bus.specs.World.{Gear, stored}
use Rattle.dali_bus.specs.Hears.{Hears, MayEnd, Obeys, Ignores, AnswersRegister, PassesBy, PassesLeftOut, Stores}
use Rattle.dali_bus.specs.Hears.{ReadsByte, ReadsNothing}
use Rattle.dali_bus.specs.Hears.{selected, up}

-- a byte after a write
slice_get-slice_set : (xs : List ℕ) (i : ℕ) (x : ℕ) (j : ℕ) → i < length xs
    → slice_get (slice_set xs i x) j ≡ (if j == i then Some x else slice_get xs j)
slice_get-slice_set [] i x j h = absurd (omega arith)
slice_get-slice_set (y ∷ xs) zero x zero h = refl
slice_get-slice_set (y ∷ xs) zero x (suc j) h = rw (ne_eqb (suc j) 0 (λ e. omega arith)) refl
slice_get-slice_set (y ∷ xs) (suc i) x zero h = rw (ne_eqb 0 (suc i) (λ e. omega arith)) refl
slice_get-slice_set (y ∷ xs) (suc i) x (suc j) h = rw (eqb-suc-suc j i) (slice_get-slice_set xs i x j (omega arith))

-- there is a byte at each location up to the last
is_some-within : (xs : List ℕ) (i : ℕ) → i < length xs → IsSome (slice_get xs i)
is_some-within xs i within = rw (slice_get-get_or xs i 0 within) refl

-- a question is answered by the unit that it is put to
asked : (to at register : ℕ) (old : Gear) (b : Bool) → (to == at) ≡ b
    → let answer = if b then Some register else None in
    ((to ≡ at) × AnswersRegister register old answer old) ⊎ ((to ≢ at) × Ignores old answer old)
asked to at register old true e = inl (eqb-true to at e, (refl, refl))
asked to at register old false e = inr (eqb-false to at e, (refl, refl))

-- one of the two frames that enable it
enabling : (to : ℕ) (unit : UnitState) (b h : Bool) → (to == unit.address) ≡ b → unit.half_pair ≡ h
    → Obeys unit.address (gear_of unit) (Enable to) None
    (gear_of (if b
    then (if h then record unit { enabled = true; half_pair = false } else record unit { half_pair = true })
    else record unit { half_pair = false }))
enabling to unit true true e h = inl (eqb-true to unit.address e, refl, refl)
enabling to unit true false e h = inr (refl, refl)
enabling to unit false h e f = inr (refl, refl)

-- the memory with a byte stored in bank 1
in_bank1 : (bank1 bank2 : BankState) (dtr0 byte location : ℕ) (first second : Bool) → dtr0 < length bank1.bytes
    → (if first || second then slice_get (if first then with_byte bank1 dtr0 byte else bank2).bytes location else None)
    ≡ (if first && (location == dtr0)
    then Some byte
    else (if first || second then slice_get (if first then bank1 else bank2).bytes location else None))
in_bank1 bank1 bank2 dtr0 byte location true second within = slice_get-slice_set bank1.bytes dtr0 byte location within
in_bank1 bank1 bank2 dtr0 byte location false second within = refl

-- the same in bank 2
in_bank2 : (bank1 bank2 : BankState) (dtr0 byte location : ℕ) (first second : Bool) → (first ≡ true → second ≡ true → ⊥)
    → dtr0 < length bank2.bytes
    → (if first || second then slice_get (if first then bank1 else with_byte bank2 dtr0 byte).bytes location else None)
    ≡ (if second && (location == dtr0)
    then Some byte
    else (if first || second then slice_get (if first then bank1 else bank2).bytes location else None))
in_bank2 bank1 bank2 dtr0 byte location true true apart within = absurd (apart refl refl)
in_bank2 bank1 bank2 dtr0 byte location true false apart within = refl
in_bank2 bank1 bank2 dtr0 byte location false true apart within =
    slice_get-slice_set bank2.bytes dtr0 byte location within
in_bank2 bank1 bank2 dtr0 byte location false false apart within = refl

not_both : (bank : ℕ) → (bank == 1) ≡ true → (bank == 2) ≡ true → ⊥
not_both bank e f = omega (arith, eqb-true bank 1 e, eqb-true bank 2 f)

-- the unit that has stored a byte shows the memory with that byte
stored_shows : (unit : UnitState) (byte : ℕ) (first : Bool) → (unit.dtr1 == 1) ≡ first → has_bank unit.dtr1 ≡ true
    → unit.dtr0 < length (bank_of unit unit.dtr1).bytes
    → gear_of (record (if first
    then record unit { bank1 = with_byte unit.bank1 unit.dtr0 byte }
    else record unit { bank2 = with_byte unit.bank2 unit.dtr0 byte }) { dtr0 = up unit.dtr0 })
    ≡ record (gear_of unit) { dtr0 = up unit.dtr0; memory = stored (gear_of unit).memory unit.dtr1 unit.dtr0 byte }
stored_shows unit byte true e has within =
    let P : Bool → Type 0 = λ b. unit.dtr0 < length (if b then unit.bank1 else unit.bank2).bytes in
    let here : unit.dtr0 < length unit.bank1.bytes = subst P e within in
    let memory : (bank location : ℕ)
    → (gear_of (record unit { bank1 = with_byte unit.bank1 unit.dtr0 byte })).memory bank location
    ≡ stored (gear_of unit).memory unit.dtr1 unit.dtr0 byte bank location
    = λ bank location.
    rw (eqb-true unit.dtr1 1 e) (in_bank1 unit.bank1 unit.bank2 unit.dtr0 byte location (bank == 1) (bank == 2) here) in
    λ i. record (gear_of unit) { dtr0 = up unit.dtr0; memory = λ bank location. memory bank location i }
stored_shows unit byte false e has within =
    let P : Bool → Type 0 = λ b. unit.dtr0 < length (if b then unit.bank1 else unit.bank2).bytes in
    let here : unit.dtr0 < length unit.bank2.bytes = subst P e within in
    let Q : Bool → Type 0 = λ b. (b || (unit.dtr1 == 2)) ≡ true in
    let second : (unit.dtr1 == 2) ≡ true = subst Q e has in
    let memory : (bank location : ℕ)
    → (gear_of (record unit { bank2 = with_byte unit.bank2 unit.dtr0 byte })).memory bank location
    ≡ stored (gear_of unit).memory unit.dtr1 unit.dtr0 byte bank location
    = λ bank location. rw (eqb-true unit.dtr1 2 second)
    (in_bank2 unit.bank1 unit.bank2 unit.dtr0 byte location (bank == 1) (bank == 2) (not_both bank) here) in
    λ i. record (gear_of unit) { dtr0 = up unit.dtr0; memory = λ bank location. memory bank location i }

-- what a stored write needs
pub record IsStored (unit : UnitState) : Type 0 where
  pub enabled : unit.enabled ≡ true
  pub has : has_bank unit.dtr1 ≡ true
  pub within : unit.dtr0 < length (bank_of unit unit.dtr1).bytes

stored_parts : (refuses : Bool) (unit : UnitState) → stores refuses unit ≡ true → IsStored unit
stored_parts refuses unit e =
    let outer = and_parts (carries_out unit && not refuses) (is_writable (bank_of unit unit.dtr1) unit.dtr0) e in
    let inner = and_parts (carries_out unit) (not refuses) outer.0 in
    let carried = and_parts unit.enabled (has_bank unit.dtr1) inner.0 in
    let written = and_parts (nat_lt unit.dtr0 (length (bank_of unit unit.dtr1).bytes)) _ outer.1 in
    record { enabled = carried.0; has = carried.1; within = ltb-true _ _ written.0 }

-- the place that it stores at exists
selected_is : (unit : UnitState) → IsStored unit → IsSome (selected (gear_of unit))
selected_is unit is =
    let P : Bool → Type 0 = λ b. IsSome (if b then slice_get (bank_of unit unit.dtr1).bytes unit.dtr0 else None) in
    subst P (sym is.has) (is_some-within _ _ is.within)

-- so it stores, and leaves its indicator byte alone
stores_so : (unit : UnitState) (byte : ℕ) → IsStored unit
    → Stores byte (gear_of unit) (gear_of (record (with_stored unit byte) { dtr0 = up unit.dtr0 }))
stores_so unit byte is = (
  is.enabled,
  selected_is unit is,
  (
    stored (gear_of unit).memory unit.dtr1 unit.dtr0 byte,
    (λ bank location. inl refl),
    stored_shows unit byte (unit.dtr1 == 1) refl is.has is.within,
  ),
)

-- a write, in the forms that it may take
writing : (refuses : Bool) (unit : UnitState) (byte : ℕ) (carried done : Bool) → carries_out unit ≡ carried
    → stores refuses unit ≡ done
    → let new =
    if carried then record (if done then with_stored unit byte else unit) { dtr0 = up unit.dtr0 } else unit in
    (Stores byte (gear_of unit) (gear_of new) × ((if done then Some byte else None) ≡ Some byte))
    ⊎ PassesBy (gear_of unit) (if done then Some byte else None) (gear_of new)
    ⊎ ((unit.enabled ≡ true) × PassesLeftOut (gear_of unit) (gear_of new))
writing refuses unit byte true true c s =
    let is = stored_parts refuses unit s in
    inl (stores_so unit byte is, refl)
writing refuses unit byte true false c s = inr (inl (up unit.dtr0, inl refl, refl, refl))
writing refuses unit byte false true c s =
    let is = stored_parts refuses unit s in
    absurd (both_ways (carries_out unit) c (and_from _ _ is.enabled is.has))
writing refuses unit byte false false c s = inr (inl (unit.dtr0, inr refl, refl, refl))

-- a silent write: the same with no answer
silently : (refuses : Bool) (unit : UnitState) (byte : ℕ) (carried done : Bool) → carries_out unit ≡ carried
    → stores refuses unit ≡ done
    → let new =
    if carried then record (if done then with_stored unit byte else unit) { dtr0 = up unit.dtr0 } else unit in
    Stores byte (gear_of unit) (gear_of new) ⊎ PassesBy (gear_of unit) None (gear_of new)
silently refuses unit byte true true c s =
    let is = stored_parts refuses unit s in
    inl (stores_so unit byte is)
silently refuses unit byte true false c s = inr (up unit.dtr0, inl refl, refl, refl)
silently refuses unit byte false true c s =
    let is = stored_parts refuses unit s in
    absurd (both_ways (carries_out unit) c (and_from _ _ is.enabled is.has))
silently refuses unit byte false false c s = inr (unit.dtr0, inr refl, refl, refl)

-- a read, in the forms that it may take
reading : (unit : UnitState) (has : Bool) → has_bank unit.dtr1 ≡ has → (byte : Option ℕ) → selected_byte unit ≡ byte
    → (obeyed : Gear)
    × (ReadsByte (gear_of unit) (selected_byte unit) obeyed ⊎ ReadsNothing (gear_of unit) (selected_byte unit) obeyed
    ⊎ PassesLeftOut (gear_of unit) obeyed)
    × MayEnd obeyed
    (gear_of (if has then record unit { enabled = false; dtr0 = up unit.dtr0 } else record unit { enabled = false }))
reading unit true e (Some byte) f =
    let some : IsSome (selected_byte unit) = rw f refl in
    (record (gear_of unit) { dtr0 = up unit.dtr0; enabled = false }, inl (some, refl, refl), inl refl)
reading unit true e None f =
    let none : IsNone (selected_byte unit) = rw f refl in
    (record (gear_of unit) { dtr0 = up unit.dtr0 }, inr (inl (none, (up unit.dtr0, inl refl, refl, f))), inr refl)
reading unit false e byte f =
    let P : Bool → Type 0 = λ b. (if b then slice_get (bank_of unit unit.dtr1).bytes unit.dtr0 else None) ≡ None in
    let is : selected_byte unit ≡ None = subst P (sym e) refl in
    let none : IsNone (selected_byte unit) = rw is refl in
    (gear_of unit, inr (inl (none, (unit.dtr0, inr refl, refl, is))), inr refl)

-- a read that is put to a unit
read_by : (to : ℕ) (unit : UnitState) (mine : Bool) → (to == unit.address) ≡ mine
    → Hears unit.address (gear_of unit) (Read to) (if mine then selected_byte unit else None)
    (gear_of (if mine then after_read unit else unit))
read_by to unit true e =
    let way = reading unit (has_bank unit.dtr1) refl (selected_byte unit) refl in
    record { obeyed = way.0; obeys = inl (eqb-true to unit.address e, way.1); ends = way.2 }
read_by to unit false e =
    record { obeyed = gear_of unit; obeys = inr (eqb-false to unit.address e, (refl, refl)); ends = inl refl }

-- what a simulated unit does with any frame is one of the things that a unit may do
pub unit_hears : (refuses : Bool) (unit : UnitState) (frame : Frame)
    → Hears unit.address (gear_of unit) frame (answer_to refuses unit frame) (gear_of (after_frame refuses unit frame))
unit_hears refuses unit (Dtr0 byte) =
    record { obeyed = record (gear_of unit) { dtr0 = byte }; obeys = (refl, refl); ends = inl refl }
unit_hears refuses unit (Dtr1 byte) =
    record { obeyed = record (gear_of unit) { dtr1 = byte }; obeys = (refl, refl); ends = inl refl }
unit_hears refuses unit (Dtr2 byte) =
    record { obeyed = record (gear_of unit) { dtr2 = byte }; obeys = (refl, refl); ends = inl refl }
unit_hears refuses unit (Write byte) =
    record {
      obeyed = _;
      obeys = writing refuses (record unit { half_pair = false }) byte _ _ refl refl;
      ends = inl refl;
    }
unit_hears refuses unit (WriteSilent byte) =
    record {
      obeyed = _;
      obeys = (silently refuses (record unit { half_pair = false }) byte _ _ refl refl, refl);
      ends = inl refl;
    }
unit_hears refuses unit (Enable to) =
    record { obeyed = _; obeys = enabling to unit (to == unit.address) unit.half_pair refl refl; ends = inl refl }
unit_hears refuses unit (AskDtr0 to) =
    record { obeyed = gear_of unit; obeys = asked to unit.address unit.dtr0 (gear_of unit) _ refl; ends = inl refl }
unit_hears refuses unit (AskDtr1 to) =
    record { obeyed = gear_of unit; obeys = asked to unit.address unit.dtr1 (gear_of unit) _ refl; ends = inl refl }
unit_hears refuses unit (AskDtr2 to) =
    record { obeyed = gear_of unit; obeys = asked to unit.address unit.dtr2 (gear_of unit) _ refl; ends = inl refl }
unit_hears refuses unit (Read to) = read_by to (record unit { half_pair = false }) _ refl
unit_hears refuses unit (Other word) =
    record { obeyed = gear_of (record unit { enabled = false }); obeys = tt; ends = inl refl }

-- a place of a bank that came up again: its lock byte, and any other
locked_place : (bytes : List ℕ) → slice_get (slice_set bytes 2 0xFF) 2 ≡ relocked (slice_get bytes 2)
locked_place [] = refl
locked_place (a ∷ []) = refl
locked_place (a ∷ b ∷ []) = refl
locked_place (a ∷ b ∷ c ∷ bytes) = refl

other_place : (bytes : List ℕ) (location : ℕ) → location ≢ 2
    → slice_get (slice_set bytes 2 0xFF) location ≡ slice_get bytes location
other_place [] location other = refl
other_place (a ∷ []) zero other = refl
other_place (a ∷ []) (suc location) other = refl
other_place (a ∷ b ∷ []) zero other = refl
other_place (a ∷ b ∷ []) (suc zero) other = refl
other_place (a ∷ b ∷ []) (suc (suc location)) other = refl
other_place (a ∷ b ∷ c ∷ bytes) zero other = refl
other_place (a ∷ b ∷ c ∷ bytes) (suc zero) other = refl
other_place (a ∷ b ∷ c ∷ bytes) (suc (suc zero)) other = absurd (other refl)
other_place (a ∷ b ∷ c ∷ bytes) (suc (suc (suc location))) other = refl

-- the memory after power-up
powered_lock : (unit : UnitState) (bank : ℕ) (first second : Bool)
    → (if first || second
    then slice_get (if first then locked_bank unit.bank1 else locked_bank unit.bank2).bytes 2
    else None)
    ≡ relocked (if first || second then slice_get (if first then unit.bank1 else unit.bank2).bytes 2 else None)
powered_lock unit bank true second = locked_place unit.bank1.bytes
powered_lock unit bank false true = locked_place unit.bank2.bytes
powered_lock unit bank false false = refl

powered_rest : (unit : UnitState) (location : ℕ) (first second : Bool) → location ≢ 2
    → (if first || second
    then slice_get (if first then locked_bank unit.bank1 else locked_bank unit.bank2).bytes location
    else None)
    ≡ (if first || second then slice_get (if first then unit.bank1 else unit.bank2).bytes location else None)
powered_rest unit location true second other = other_place unit.bank1.bytes location other
powered_rest unit location false true other = other_place unit.bank2.bytes location other
powered_rest unit location false false other = refl

-- what a simulated unit is after power-up is what a unit may be
pub unit_powers_up : (unit : UnitState) → PowersUp (gear_of unit) (gear_of (powered_up unit))
unit_powers_up unit =
    record {
      dtr0 = refl;
      dtr1 = refl;
      dtr2 = refl;
      off = refl;
      lock = locked_place unit.bank1.bytes;
      other_locks = λ bank above. inl (powered_lock unit bank (bank == 1) (bank == 2));
      rest = λ bank location free. elim free [
        | inl zero_is ↦ rw zero_is refl
        | inr other ↦ powered_rest unit location (bank == 1) (bank == 2) other
      ];
    }

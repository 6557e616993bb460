-- A frame that may be sent keeps a world fitting, and enables no unit but the named one.
use Rattle.std.proofs.Common.{◌≡◌, ◌⊎◌, inl, inr, refl, sym, ap, subst, ◌∙◌, ℕ, Bool, true, false, ◌==◌, List, [], ◌∷◌}
use Rattle.std.proofs.Common.{Option, Some, None, IsSome, is_some, ◌≤◌, arith}
use Rattle.std.proofs.lemmas.Bool.{eqb-true, eqb-false}
use Rattle.dali_frame.specs.declared.forward.Frame.{Frame}
use Rattle.dali_frame.specs.declared.forward.Frame.TheVariants.{Dtr0, Dtr1, Write, Enable, AskDtr0, AskDtr1, Read}
use Rattle.dali_bus.specs.World.{World, Gear, byte_at, is_enabled}
use Rattle.dali_bus.proofs.OpenLemmas.{is_open}
use Rattle.dali_bus.specs.Carry.{Carry}
use Rattle.dali_bus.specs.Hears.{IsIndicator}
use Rattle.dali_bus.specs.Power.{relocked, LosesPower, MayRelock}
use Rattle.dali_bus.proofs.UnenabledLemmas.{powered_at, relocked_twice}
use Rattle.dali_journal.specs.declared.record.Record.{Record}
use Rattle.dali_journal.specs.declared.standing.Standing.{Standing}
use Rattle.dali_journal.specs.declared.standing.Standing.TheVariants as standings
use Rattle.dali_journal.specs.Sentence.{standing_of, named_unit, IsSentence}
use Rattle.dali_journal.specs.Orders.{orders_of}
use Rattle.dali_write.specs.Reads.{IsPassive}
use Rattle.dali_write.specs.Worlds.{IsAmong, OnlyEnabled}
use Rattle.dali_write.specs.Touches.{Has}
use Rattle.dali_write.proofs.GearLemmas.{StaysAt, carry_stays, same_byte, dtr1_in, IsOff}
use Rattle.dali_write.proofs.PowerLemmas.{relock_then, after_power}
use Rattle.dali_write.proofs.AskedLemmas.{passive_quiet}
use Rattle.dali_write.proofs.PutLemmas.{NowOldOrNew, Puts, enable_safe, guarded_safe}
use Rattle.dali_write.specs.Exchanges.{Exchange}
use Rattle.dali_trace.specs.Legal.{MayPut}
use Rattle.dali_trace.specs.Possible.{InDoubt, byte_for, MayHold, IsPossible}
use Rattle.dali_trace.specs.Fits.{Fits, OnlyNamed, HasBeenOpened, IsApart}
use Rattle.dali_laws.proofs.StandingLemmas.{open_order, named_opened, byte_for_here}
use Rattle.dali_laws.proofs.SafeLemmas.{IsSafeWrite, IsSafeFrame}
use Rattle.dali_write.proofs.RunLemmas.{Leads, Stays}
use Rattle.dali_bus.specs.Carry.{WorldStep}

-- what is so before and after each frame
pub record IsFine (zero : World) (records : List Record) (lost : List ℕ) (now : World) : Type 0 where
  pub fits : Fits zero records lost now
  pub only : OnlyNamed records now

off_unless : (gear : Option Gear) → (is_open gear ≡ true → ⊥) → IsOff gear
off_unless None never = refl
off_unless (Some gear) never = by gear.enabled refl where
  by : (on : Bool) → gear.enabled ≡ on → gear.enabled ≡ false
  by true e = absurd (never e)
  by false e = e

not_both : (gear : Option Gear) → IsOff gear → is_open gear ≡ true → ⊥
not_both None off on = cc
not_both (Some gear) off on = cc

-- if nothing is newly enabled, what is enabled was
was_open : (old new : Option Gear) → (IsOff old → IsOff new) → is_open new ≡ true → is_open old ≡ true
was_open old new keeps on = by (is_open old) refl where
  by : (was : Bool) → is_open old ≡ was → is_open old ≡ true
  by true e = e
  by false e = absurd (not_both new (keeps e) on)

-- no unit but the named one is enabled
others_off : (records : List Record) (unit : ℕ) (now : World) → named_unit (standing_of records) ≡ Some unit
    → OnlyNamed records now → OnlyEnabled unit now
others_off records unit now is_named only =
    λ address other. off_unless (now address) (λ on. other (same address (only address on))) where
      same : (address : ℕ) → named_unit (standing_of records) ≡ Some address → address ≡ unit
      same address is = cc

-- a frame that enables no unit and writes nothing
pub same_bytes_fit : (zero old new : World) (records : List Record) (lost : List ℕ)
    → ((address bank location : ℕ) → byte_at new address bank location ≡ byte_at old address bank location)
    → Fits zero records lost old → Fits zero records lost new
same_bytes_fit zero old new records lost same fits = record {
  places = λ address bank location. ap is_some (same address bank location) ∙ fits.places address bank location;
  bytes =
      λ address bank location first byte lock was is.
      fits.bytes address bank location first byte lock was (sym (same address bank location) ∙ is);
  locks = λ address bank above closed.
      relock_then (byte_at zero address bank 2) (byte_at old address bank 2) (byte_at new address bank 2)
      (fits.locks address bank above closed) (inl (same address bank 2));
  indicators = λ address closed. same address 1 1 ∙ fits.indicators address closed;
}

after_passive : (zero old new : World) (records : List Record) (lost : List ℕ) (frame : Frame) (answer : Option ℕ)
    → IsPassive frame
    → Carry old frame answer new
    → IsFine zero records lost old → IsFine zero records lost new
after_passive zero old new records lost frame answer passive carry fine = record {
  fits =
      same_bytes_fit zero old new records lost
      (λ address bank location. same_byte (old address) (new address) (keeps address).memory bank location) fine.fits;
  only = λ address on. fine.only address (was_open (old address) (new address) (keeps address).off on);
} where
  keeps : (address : ℕ) → StaysAt old new address
  keeps address = carry_stays old frame answer new address (passive_quiet frame passive address) carry

-- a place of the unit, in bank 1, was there before and holds one of the writes now
record IsPut (writes : List (ℕ × ℕ)) (unit address bank location : ℕ) (old new : World) : Type 0 where
  byte : ℕ
  here : address ≡ unit
  one : bank ≡ 1
  has : Has writes location byte
  was : IsSome (byte_at old address bank location)
  is : byte_at new address bank location ≡ Some byte

-- the indicator byte of the unit is one again
record IsIndicated (unit address bank location : ℕ) (old new : World) : Type 0 where
  here : address ≡ unit
  is : IsIndicator bank location
  some : is_some (byte_at new address bank location) ≡ is_some (byte_at old address bank location)

-- each place is as it was, or one of the writes was put there, or it is the indicator byte
changed : (writes : List (ℕ × ℕ)) (unit : ℕ) (old new : World) → Puts writes unit old new
    → (address bank location : ℕ)
    → (byte_at new address bank location ≡ byte_at old address bank location)
    ⊎ IsPut writes unit address bank location old new ⊎ IsIndicated unit address bank location old new
changed writes unit old new touches address bank location = by (address == unit) refl where
  by : (here : Bool) → (address == unit) ≡ here
      → (byte_at new address bank location ≡ byte_at old address bank location)
      ⊎ IsPut writes unit address bank location old new ⊎ IsIndicated unit address bank location old new
  by true e =
      let here : address ≡ unit = eqb-true address unit e in
      let at : NowOldOrNew writes (old address) (new address) =
      subst (λ (a : ℕ). NowOldOrNew writes (old a) (new a)) (sym here) touches.here in
      elim (at bank location) [
        | inl same ↦ inl same
        | inr (inl put) ↦ inr (inl (record {
          byte = put.0;
          here = here;
          one = put.1;
          has = put.2;
          was = put.3;
          is = put.4;
        }))
        | inr (inr set) ↦ inr (inr (record { here = here; is = set.0; some = set.1 }))
      ]
  by false e =
      inl
      (same_byte (old address) (new address) (touches.others address (eqb-false address unit e)).memory bank location)

-- a byte that may be put is possible, if it isn't that of a lock byte
is_possible : (first unit location byte : ℕ) (records : List Record) (stands : Standing) → standing_of records ≡ stands
    → named_unit stands ≡ Some unit
    → MayPut stands location byte → (IsApart 1 location → ⊥)
    → IsPossible first unit 1 location (orders_of records) byte
is_possible first unit location byte records standings.Idle at is_named may lock = absurd may
is_possible first unit location byte records (standings.Began order) at is_named may lock = absurd may
is_possible first unit location byte records (standings.Opened order) at is_named (inr opens) lock =
    absurd (lock (inl (omega arith, opens.0)))
is_possible first unit location byte records (standings.Left left) at is_named may lock =
    absurd (lock (inl (omega arith, may.0)))
is_possible first unit location byte records (standings.Opened order) at is_named (inl update) lock =
    let newest = open_order records order at in
    let here : order.unit ≡ unit = cc in
    let has : byte_for order unit 1 location ≡ Some byte =
    subst (λ (a : ℕ). byte_for order a 1 location ≡ Some byte) here (byte_for_here order location byte update) in
    let P : Option ℕ → Type 0 = λ found. MayHold InDoubt found (IsPossible first unit 1 location newest.0) byte in
    rw newest.1 (subst P (sym has) (inr refl))

-- a frame by which the named unit may be enabled, or one of the writes put that may be
pub after_touch : (zero old new : World) (records : List Record) (lost : List ℕ) (writes : List (ℕ × ℕ)) (unit : ℕ)
    → IsSentence records
    → named_unit (standing_of records) ≡ Some unit
    → ((location byte : ℕ) → Has writes location byte → MayPut (standing_of records) location byte)
    → Puts writes unit old new → IsFine zero records lost old → IsFine zero records lost new
after_touch zero old new records lost writes unit sentence is_named may touches fine = record {
  fits = record {
    places =
        λ address bank location.
        places address bank location (changed writes unit old new touches address bank location);
    bytes =
        λ address bank location first byte lock was is.
        bytes address bank location first byte lock was is (changed writes unit old new touches address bank location);
    locks = λ address bank above closed.
        locks address bank above closed (changed writes unit old new touches address bank 2);
    indicators = λ address closed. indicators address closed (changed writes unit old new touches address 1 1);
  };
  only = λ address on. enabled address on (address == unit) refl;
} where
  opened : (address : ℕ) → address ≡ unit → HasBeenOpened address records
  opened address here = named_opened records address sentence (is_named ∙ ap Some (sym here))

  places : (address bank location : ℕ)
      → (byte_at new address bank location ≡ byte_at old address bank location)
      ⊎ IsPut writes unit address bank location old new ⊎ IsIndicated unit address bank location old new
      → is_some (byte_at new address bank location) ≡ is_some (byte_at zero address bank location)
  places address bank location (inl same) = ap is_some same ∙ fine.fits.places address bank location
  places address bank location (inr (inr set)) = set.some ∙ fine.fits.places address bank location
  places address bank location (inr (inl put)) =
      let was : is_some (byte_at old address bank location) ≡ true = put.was in
      ap is_some put.is ∙ sym was ∙ fine.fits.places address bank location

  bytes : (address bank location first byte : ℕ) → (IsApart bank location → ⊥)
      → byte_at zero address bank location ≡ Some first
      → byte_at new address bank location ≡ Some byte
      → (byte_at new address bank location ≡ byte_at old address bank location)
      ⊎ IsPut writes unit address bank location old new ⊎ IsIndicated unit address bank location old new
      → IsPossible first address bank location (orders_of records) byte
  bytes address bank location first byte lock was is (inl same) =
      fine.fits.bytes address bank location first byte lock was (sym same ∙ is)
  bytes address bank location first byte lock was is (inr (inr set)) = absurd (lock (inr set.is))
  bytes address bank location first byte lock was is (inr (inl put)) =
      let both : Some put.byte ≡ Some byte = sym put.is ∙ is in
      let same : put.byte ≡ byte = cc in
      let at : IsPossible first unit 1 location (orders_of records) put.byte =
      is_possible first unit location put.byte records (standing_of records) refl is_named
      (may location put.byte put.has) (λ e. lock (subst (λ (b : ℕ). IsApart b location) (sym put.one) e)) in
      rw (put.here, put.one, ← same) at

  locks : (address bank : ℕ) → 1 ≤ bank → (bank ≡ 1 → HasBeenOpened address records → ⊥)
      → (byte_at new address bank 2 ≡ byte_at old address bank 2)
      ⊎ IsPut writes unit address bank 2 old new ⊎ IsIndicated unit address bank 2 old new
      → MayRelock (IsAmong lost address) bank 2 (byte_at zero address bank 2) (byte_at new address bank 2)
  locks address bank above closed (inl same) =
      relock_then (byte_at zero address bank 2) (byte_at old address bank 2) (byte_at new address bank 2)
      (fine.fits.locks address bank above closed) (inl same)
  locks address bank above closed (inr (inl put)) = absurd (closed put.one (opened address put.here))
  locks address bank above closed (inr (inr set)) = absurd (omega (arith, set.is.1))

  indicators : (address : ℕ) → (HasBeenOpened address records → ⊥)
      → (byte_at new address 1 1 ≡ byte_at old address 1 1)
      ⊎ IsPut writes unit address 1 1 old new ⊎ IsIndicated unit address 1 1 old new
      → byte_at new address 1 1 ≡ byte_at zero address 1 1
  indicators address closed (inl same) = same ∙ fine.fits.indicators address closed
  indicators address closed (inr (inl put)) = absurd (closed (opened address put.here))
  indicators address closed (inr (inr set)) = absurd (closed (opened address set.here))

  enabled : (address : ℕ) → is_enabled new address ≡ true → (here : Bool) → (address == unit) ≡ here
      → named_unit (standing_of records) ≡ Some address
  enabled address on true e = is_named ∙ ap Some (sym (eqb-true address unit e))
  enabled address on false e =
      fine.only address
      (was_open (old address) (new address) (touches.others address (eqb-false address unit e)).off on)

after_enable : (zero old new : World) (records : List Record) (lost : List ℕ) (unit : ℕ) (answer : Option ℕ)
    → IsSentence records
    → named_unit (standing_of records) ≡ Some unit
    → Carry old (Enable unit) answer new → IsFine zero records lost old → IsFine zero records lost new
after_enable zero old new records lost unit answer sentence is_named carry fine =
    let touches =
    enable_safe (IsAmong lost) [] unit [] old old new answer (others_off records unit old is_named fine.only) Stays
    carry in
    after_touch zero old new records lost [] unit sentence is_named (λ location byte has. absurd has) touches fine

after_write : (zero old new since : World) (records : List Record) (lost : List ℕ) (sent : List Exchange) (byte : ℕ)
    (answer : Option ℕ)
    → IsSentence records
    → Leads WorldStep (IsAmong lost) sent since old → IsSafeWrite sent (standing_of records) byte
    → Carry old (Write byte) answer new
    → IsFine zero records lost old → IsFine zero records lost new
after_write zero old new since records lost sent byte answer sentence run safe carry fine =
    let writes : List (ℕ × ℕ) = (safe.location, byte) ∷ [] in
    let touches =
    guarded_safe (IsAmong lost) writes safe.unit safe.location byte sent (inl (refl, refl)) safe.selected since old new
    answer (others_off records safe.unit old safe.is_named fine.only) run carry in
    after_touch zero old new records lost writes safe.unit sentence safe.is_named may touches fine where
      may : (location value : ℕ) → Has ((safe.location, byte) ∷ []) location value
          → MayPut (standing_of records) location value
      may location value (inl is) = rw (← is.0, ← is.1) safe.may
      may location value (inr never) = absurd never

-- a safe frame
pub after_sent : (zero old new since : World) (records : List Record) (lost : List ℕ) (sent : List Exchange)
    (frame : Frame) (answer : Option ℕ)
    → IsSentence records
    → Leads WorldStep (IsAmong lost) sent since old → IsSafeFrame sent (standing_of records) frame
    → Carry old frame answer new
    → IsFine zero records lost old → IsFine zero records lost new
after_sent zero old new since records lost sent (Enable unit) answer sentence run safe carry fine =
    after_enable zero old new records lost unit answer sentence safe carry fine
after_sent zero old new since records lost sent (Write byte) answer sentence run safe carry fine =
    after_write zero old new since records lost sent byte answer sentence run safe carry fine
after_sent zero old new since records lost sent (Dtr0 byte) answer sentence run safe carry fine =
    after_passive zero old new records lost (Dtr0 byte) answer tt carry fine
after_sent zero old new since records lost sent (Dtr1 byte) answer sentence run safe carry fine =
    after_passive zero old new records lost (Dtr1 byte) answer tt carry fine
after_sent zero old new since records lost sent (AskDtr0 asked) answer sentence run safe carry fine =
    after_passive zero old new records lost (AskDtr0 asked) answer tt carry fine
after_sent zero old new since records lost sent (AskDtr1 asked) answer sentence run safe carry fine =
    after_passive zero old new records lost (AskDtr1 asked) answer tt carry fine
after_sent zero old new since records lost sent (Read asked) answer sentence run safe carry fine =
    after_passive zero old new records lost (Read asked) answer tt carry fine
after_sent zero old new since records lost sent _ answer sentence run safe carry fine = absurd safe

-- A loss of power

same_some : (old : Option ℕ) → is_some (relocked old) ≡ is_some old
same_some None = refl
same_some (Some byte) = refl

pub after_loss : (zero old new : World) (records : List Record) (lost : List ℕ) (unit : ℕ)
    → LosesPower old unit new → IsFine zero records lost old → IsFine zero records (unit ∷ lost) new
after_loss zero old new records lost unit loses fine = record {
  fits = record {
    places = λ address bank location.
        places address bank location ((powered_at old unit new loses address).bytes bank location);
    bytes = λ address bank location first byte lock was is.
        bytes address bank location first byte lock was is
        ((powered_at old unit new loses address).bytes bank location);
    locks = λ address bank above closed. locks address bank (fine.fits.locks address bank above closed)
        ((powered_at old unit new loses address).bytes bank 2);
    indicators = λ address closed. indicators address closed ((powered_at old unit new loses address).bytes 1 1);
  };
  only = λ address on. fine.only address (on_before address on (after_power old unit new loses address));
} where
  Changes : ℕ → ℕ → ℕ → Type 0
  Changes address bank location =
      (byte_at new address bank location ≡ byte_at old address bank location)
      ⊎ ((unit ≡ address) × (1 ≤ bank) × (location ≡ 2)
      × (byte_at new address bank location ≡ relocked (byte_at old address bank location)))

  places : (address bank location : ℕ) → Changes address bank location
      → is_some (byte_at new address bank location) ≡ is_some (byte_at zero address bank location)
  places address bank location (inl same) = ap is_some same ∙ fine.fits.places address bank location
  places address bank location (inr (here, some, lock, is)) =
      ap is_some is ∙ same_some (byte_at old address bank location) ∙ fine.fits.places address bank location

  bytes : (address bank location first byte : ℕ) → (IsApart bank location → ⊥)
      → byte_at zero address bank location ≡ Some first → byte_at new address bank location ≡ Some byte
      → Changes address bank location → IsPossible first address bank location (orders_of records) byte
  bytes address bank location first byte lock was is (inl same) =
      fine.fits.bytes address bank location first byte lock was (sym same ∙ is)
  bytes address bank location first byte lock was is (inr (here, some, at, now)) = absurd (lock (inl (some, at)))

  indicators : (address : ℕ) → (HasBeenOpened address records → ⊥) → Changes address 1 1
      → byte_at new address 1 1 ≡ byte_at zero address 1 1
  indicators address closed (inl same) = same ∙ fine.fits.indicators address closed
  indicators address closed (inr (here, some, at, now)) = absurd (omega (arith, at))

  locks : (address bank : ℕ)
      → MayRelock (IsAmong lost address) bank 2 (byte_at zero address bank 2) (byte_at old address bank 2)
      → Changes address bank 2
      → MayRelock (IsAmong (unit ∷ lost) address) bank 2 (byte_at zero address bank 2) (byte_at new address bank 2)
  locks address bank (inl before) (inl same) = inl (same ∙ before)
  locks address bank (inr (was, one, lock, is)) (inl same) = inr (inr was, one, lock, same ∙ is)
  locks address bank (inl before) (inr (here, one, lock, is)) = inr (inl here, one, lock, is ∙ ap relocked before)
  locks address bank (inr (was, more, again, is)) (inr (here, one, lock, now)) =
      inr (inl here, one, lock, now ∙ ap relocked is ∙ relocked_twice (byte_at zero address bank 2))

  on_before : (address : ℕ) → is_enabled new address ≡ true
      → (new address ≡ old address) ⊎ ((is_open (new address) ≡ false) × (dtr1_in (new address) ≡ Some 1 → ⊥))
      → is_enabled old address ≡ true
  on_before address on (inl same) = sym (ap is_open same) ∙ on
  on_before address on (inr gone) = let never = gone.0 in cc

-- A record that may be kept leaves a world that fits.
use Rattle.std.proofs.Common.{arith, ◌≡◌, ◌⊎◌, inl, inr, refl, sym, ap, subst, ◌∙◌, ℕ, Bool, true, false, ◌==◌, List, [], ◌∷◌}
use Rattle.std.proofs.Common.{Option, Some, None}
use Rattle.std.proofs.lemmas.Bool.{eqb-true}
use Rattle.std.specs.List.{AllByRecursion}
use Rattle.dali_bank.specs.Order.{Contents, update_at}
use Rattle.dali_bus.specs.World.{World, byte_at, byte_in, is_enabled}
use Rattle.dali_bus.proofs.OpenLemmas.{is_open}
use Rattle.dali_journal.specs.declared.record.Code.TheVariants.{Done, Short, Format, Silent, Doubt, DoubtOpen}
use Rattle.dali_journal.specs.declared.record.Record.{Record}
use Rattle.dali_journal.specs.declared.record.Record.TheVariants.{Began, Opened, Ended, Closed}
use Rattle.dali_journal.specs.declared.standing.Standing.{Standing}
use Rattle.dali_journal.specs.declared.standing.Standing.TheVariants as standings
use Rattle.dali_journal.specs.declared.kept.Progress.{Progress}
use Rattle.dali_journal.specs.declared.kept.Progress.TheVariants as reached
use Rattle.dali_journal.specs.Sentence.{Allows, next_standing, standing_of, named_unit}
use Rattle.dali_journal.specs.Orders.{orders_of, come_to}
use Rattle.dali_write.specs.Findings.{IsWritten}
use Rattle.dali_write.specs.Worlds.{IsAmong, Shows}
use Rattle.dali_bus.specs.Power.{MayRelock}
use Rattle.dali_write.specs.declared.ask.Verdict.{Verdict}
use Rattle.dali_write.proofs.RestLemmas.{Shown, rests_on_too}
use Rattle.dali_trace.specs.Grounds.{verdict_of, IsSeen, RestsIfAny, Grounds}
use Rattle.dali_trace.specs.Possible.{Applied, Untouched, InDoubt, byte_for, MayHold, IsPossible}
use Rattle.dali_trace.specs.Fits.{Fits, HasBeenOpened, IsApart}
use Rattle.dali_trace.specs.WhenKept.{Holds}
use Rattle.dali_laws.proofs.StandingLemmas.{begun_order, open_order, HasByte, byte_for_or_none}

-- what a world shows, in two parts
pub shown_byte : (lost : List ℕ) (now : World) (unit location byte : ℕ)
    → Shows (IsAmong lost) now unit location byte → Holds lost now unit location byte
shown_byte lost now unit location byte shows =
    subst (λ (o : Option ℕ). MayRelock (IsAmong lost unit) 1 location (Some byte) o)
    (sym (ap (λ gear. byte_in gear 1 location) shows.is)) shows.byte_is

pub shown_off : (lost : List ℕ) (now : World) (unit location byte : ℕ)
    → Shows (IsAmong lost) now unit location byte → is_enabled now unit ≡ false
shown_off lost now unit location byte shows = ap is_open shows.is ∙ shows.off

-- if it isn't the lock byte
pub not_lock : (lost : Type 0) (location : ℕ) (old new : Option ℕ) → (location ≡ 2 → ⊥)
    → MayRelock lost 1 location old new → new ≡ old
not_lock lost location old new other (inl same) = same
not_lock lost location old new other (inr relocks) = absurd (other relocks.2)

-- what all updates show, the one for a location shows
at_update : (P : ℕ → ℕ → Type 0) (updates : List (ℕ × ℕ)) (location byte : ℕ)
    → AllByRecursion (λ update. P update.0 update.1) updates
    → update_at updates location ≡ Some byte → P location byte
at_update P [] location byte all e = cc
at_update P (update ∷ updates) location byte all e =
    by (λ found. at_update P updates location byte all.1 found) (update.0 == location) refl where
      by : (update_at updates location ≡ Some byte → P location byte) → (x : Bool) → (update.0 == location) ≡ x
          → P location byte
      by more true p =
          let found : Some update.1 ≡ Some byte = rw p at e in
          let is : update.1 ≡ byte = cc in
          let at : update.0 ≡ location = eqb-true update.0 location p in
          subst (λ l. P l byte) at (subst (λ b. P update.0 b) is all.0)
      by more false p = more (rw p at e)

-- more may be possible, and more opened
changed_fits : (zero now : World) (records more : List Record) (been : List ℕ)
    → ((address bank location first byte : ℕ) → (IsApart bank location → ⊥)
    → byte_at now address bank location ≡ Some byte
    → IsPossible first address bank location (orders_of records) byte
    → IsPossible first address bank location (orders_of more) byte)
    → ((address : ℕ) → HasBeenOpened address records → HasBeenOpened address more) → Fits zero records been now
    → Fits zero more been now
changed_fits zero now records more been possible opened fits = record {
  places = fits.places;
  bytes =
      λ address bank location first byte lock was is.
      possible address bank location first byte lock is (fits.bytes address bank location first byte lock was is);
  locks = λ address bank above closed. fits.locks address bank above (λ one was. closed one (opened address was));
  indicators = λ address closed. fits.indicators address (λ was. closed (opened address was));
}

-- from untouched to in doubt
doubted : (found : Option ℕ) (before : ℕ → Type 0) (byte : ℕ) → MayHold Untouched found before byte
    → MayHold InDoubt found before byte
doubted None before byte may = may
doubted (Some update) before byte may = inl may

-- from in doubt to done, if the byte is there
written : (found : Option ℕ) (before : ℕ → Type 0) (byte : ℕ) → ((update : ℕ) → found ≡ Some update → byte ≡ update)
    → MayHold InDoubt found before byte
    → MayHold Applied found before byte
written None before byte is may = may
written (Some update) before byte is may = is update refl

-- the newest order comes from one progress to another
abbrev Comes : World → Progress → Progress → Contents → Type 0
Comes now old new order =
    (older : List (Contents × Progress)) (address bank location first byte : ℕ)
    → (IsApart bank location → ⊥) → byte_at now address bank location ≡ Some byte
    → IsPossible first address bank location ((order, old) ∷ older) byte
    → IsPossible first address bank location ((order, new) ∷ older) byte

comes_fit : (zero now : World) (records : List Record) (been : List ℕ) (entry : Record) (order : Contents)
    (old new : Progress)
    → ((older : List (Contents × Progress)) × orders_of records ≡ (order, old) ∷ older)
    → orders_of (entry ∷ records) ≡ come_to new (orders_of records)
    → ((address : ℕ) → HasBeenOpened address records → HasBeenOpened address (entry ∷ records))
    → Comes now old new order → Fits zero records been now → Fits zero (entry ∷ records) been now
comes_fit zero now records been entry order old new newest came opened comes fits =
    let so : orders_of (entry ∷ records) ≡ (order, new) ∷ newest.0 = came ∙ ap (come_to new) newest.1 in
    changed_fits zero now records (entry ∷ records) been
    (λ address bank location first byte lock is possible.
    let P : List (Contents × Progress) → Type 0 = λ orders. IsPossible first address bank location orders byte in
    subst P (sym so) (comes newest.0 address bank location first byte lock is (subst P newest.1 possible)))
    opened fits

-- the bytes of an order that is done
done_comes : (lost : List ℕ) (now : World) (order : Contents)
    → IsWritten (Shows (IsAmong lost) now order.unit) order.updates
    → Comes now reached.Open (reached.Ended Done) order
done_comes lost now order done older address bank location first byte lock is possible =
    written (byte_for order address bank location) (IsPossible first address bank location older) byte
    (λ update found. by update found (byte_for_or_none order address bank location)) possible where
      by : (update : ℕ) → byte_for order address bank location ≡ Some update
          → (byte_for order address bank location ≡ None) ⊎ ((other : ℕ) × HasByte order address bank location other)
          → byte ≡ update
      by update found (inl none) = cc
      by update found (inr (other, has)) =
          let holds : byte_at now order.unit 1 location ≡ Some other =
          not_lock (IsAmong lost order.unit) location (Some other) (byte_at now order.unit 1 location)
          (λ at. lock (inl (omega (arith, has.one), at)))
          (shown_byte lost now order.unit location other
          (at_update (Shows (IsAmong lost) now order.unit) order.updates location other done.1 has.is)) in
          let there : byte_at now address bank location ≡ Some other =
          subst (λ a. byte_at now a bank location ≡ Some other) has.unit
          (subst (λ b. byte_at now order.unit b location ≡ Some other) (sym has.one) holds) in
          let both = has.for in
          cc

pub keeps_fitting : (zero now : World) (lost been : List ℕ) (records : List Record) (entry : Record) (stands : Standing)
    → standing_of records ≡ stands → Allows stands entry
    → Grounds (Shows (IsAmong lost) now) stands entry → Fits zero records been now
    → Fits zero (entry ∷ records) been now
keeps_fitting zero now lost been records (Began order moment) stands at allowed grounds fits =
    changed_fits zero now records (Began order moment ∷ records) been
    (λ address bank location first byte lock is possible. by (byte_for order address bank location)
    (IsPossible first address bank location (orders_of records)) byte possible)
    (λ address opened. opened) fits where
      by : (found : Option ℕ) (before : ℕ → Type 0) (byte : ℕ) → before byte → MayHold Untouched found before byte
      by None before byte may = may
      by (Some update) before byte may = may
keeps_fitting zero now lost been records (Opened unit) (standings.Began order) at allowed grounds fits =
    comes_fit zero now records been (Opened unit) order reached.Begun reached.Open (begun_order records order at) refl
    (λ address opened. inr opened)
    (λ older address bank location first byte lock is possible.
    doubted (byte_for order address bank location) (IsPossible first address bank location older) byte possible)
    fits
keeps_fitting zero now lost been records (Ended Short) (standings.Began order) at allowed grounds fits =
    comes_fit zero now records been (Ended Short) order reached.Begun (reached.Ended Short)
    (begun_order records order at) refl
    (λ address opened. opened)
    (λ older address bank location first byte lock is possible. possible) fits
keeps_fitting zero now lost been records (Ended Format) (standings.Began order) at allowed grounds fits =
    comes_fit zero now records been (Ended Format) order reached.Begun (reached.Ended Format)
    (begun_order records order at)
    refl (λ address opened. opened)
    (λ older address bank location first byte lock is possible. possible) fits
keeps_fitting zero now lost been records (Ended Silent) (standings.Began order) at allowed grounds fits =
    comes_fit zero now records been (Ended Silent) order reached.Begun (reached.Ended Silent)
    (begun_order records order at)
    refl (λ address opened. opened)
    (λ older address bank location first byte lock is possible. possible) fits
keeps_fitting zero now lost been records (Ended Done) (standings.Opened order) at allowed grounds fits =
    comes_fit zero now records been (Ended Done) order reached.Open (reached.Ended Done) (open_order records order at)
    refl
    (λ address opened. opened)
    (done_comes lost now order grounds) fits
keeps_fitting zero now lost been records (Ended Doubt) (standings.Opened order) at allowed grounds fits =
    comes_fit zero now records been (Ended Doubt) order reached.Open (reached.Ended Doubt)
    (open_order records order at) refl
    (λ address opened. opened)
    (λ older address bank location first byte lock is possible. possible) fits
keeps_fitting zero now lost been records (Ended DoubtOpen) (standings.Opened order) at allowed grounds fits =
    comes_fit zero now records been (Ended DoubtOpen) order reached.Open (reached.Ended DoubtOpen)
    (open_order records order at) refl (λ address opened. opened)
    (λ older address bank location first byte lock is possible. possible) fits
keeps_fitting zero now lost been records (Closed unit) (standings.Left left) at allowed grounds fits =
    changed_fits zero now records (Closed unit ∷ records) been
    (λ address bank location first byte lock is possible. possible)
    (λ address opened. opened) fits
keeps_fitting zero now lost been records _ _ at allowed grounds fits = absurd allowed

-- a unit that isn't enabled is none that is
not_both : {A : Type 0} (now : World) (unit address : ℕ) → is_enabled now unit ≡ false → Some unit ≡ Some address
    → is_enabled now address ≡ true → A
not_both now unit address off same on =
    let here : unit ≡ address = cc in
    let off_there : is_enabled now address ≡ false = rw here at off in cc

pub keeps_only : (lost : List ℕ) (now : World) (stands : Standing) (entry : Record) → Allows stands entry
    → Grounds (Shows (IsAmong lost) now) stands entry
    → ((address : ℕ) → is_enabled now address ≡ true → named_unit stands ≡ Some address)
    → (address : ℕ) → is_enabled now address ≡ true → named_unit (next_standing stands entry) ≡ Some address
keeps_only lost now standings.Idle (Began order moment) allowed grounds only address on = let none =
    only address on in cc
keeps_only lost now (standings.Began order) (Opened unit) allowed grounds only address on =
    let none : None ≡ Some address = only address on in cc
keeps_only lost now (standings.Began order) (Ended code) allowed grounds only address on = only address on
keeps_only lost now (standings.Opened order) (Ended Done) allowed grounds only address on =
    not_both now order.unit address (shown_off lost now order.unit 2 0xFF grounds.0) (only address on) on
keeps_only lost now (standings.Opened order) (Ended Doubt) allowed grounds only address on =
    not_both now order.unit address (shown_off lost now order.unit grounds.0 grounds.1 grounds.2) (only address on) on
keeps_only lost now (standings.Opened order) (Ended DoubtOpen) allowed grounds only address on = only address on
keeps_only lost now (standings.Left unit) (Closed closed) allowed grounds only address on =
    not_both now unit address (shown_off lost now unit grounds.0 grounds.1 grounds.2) (only address on) on
keeps_only lost now _ _ allowed grounds only address on = absurd allowed

-- if the grounds of a record hold by one way of showing, they hold by another that shows no less
told_too : (P Q : ℕ → ℕ → Type 0) (updates : List (ℕ × ℕ)) (told : Option Verdict) → Shown P Q
    → RestsIfAny P updates told
    → RestsIfAny Q updates told
told_too P Q updates None f rests = tt
told_too P Q updates (Some verdict) f rests =
    rests_on_too P Q (IsSeen P) (IsSeen Q) updates verdict f (λ seen. (seen.0, seen.1, f seen.0 seen.1 seen.2)) rests

pub grounds_too : (P Q : ℕ → ℕ → ℕ → Type 0) → ((unit : ℕ) → Shown (P unit) (Q unit))
    → (stands : Standing) (entry : Record)
    → Grounds P stands entry → Grounds Q stands entry
grounds_too P Q f standings.Idle entry grounds = tt
grounds_too P Q f (standings.Began order) entry grounds =
    told_too (P order.unit) (Q order.unit) order.updates (verdict_of entry) (f order.unit) grounds
grounds_too P Q f (standings.Opened order) entry grounds =
    told_too (P order.unit) (Q order.unit) order.updates (verdict_of entry) (f order.unit) grounds
grounds_too P Q f (standings.Left unit) entry grounds =
    told_too (P unit) (Q unit) [] (verdict_of entry) (f unit) grounds

-- A unit that fits over one stay and over the next fits over both.
use Rattle.std.proofs.Common.{◌≡◌, inl, inr, refl, sym, ap, subst, ◌∙◌, ℕ, Bool, true, false, ◌==◌, List, [], ◌∷◌}
use Rattle.std.proofs.Common.{◌++◌, append_assoc, true≢false, ◌≤◌, arith, Option, Some, None, is_some, if◌then◌else◌}
use Rattle.std.proofs.lemmas.Bool.{eqb-true}
use Rattle.dali_bank.specs.Order.{Contents}
use Rattle.dali_bus.specs.World.{World, Gear, byte_at, byte_in}
use Rattle.dali_bus.specs.Power.{MayRelock}
use Rattle.dali_journal.specs.declared.kept.Progress.{Progress}
use Rattle.dali_journal.specs.declared.record.Record.{Record}
use Rattle.dali_journal.specs.declared.record.Record.TheVariants.{Began, Opened, Ended, Closed}
use Rattle.dali_journal.specs.declared.kept.Progress.TheVariants as reached
use Rattle.dali_journal.specs.declared.standing.Standing.{Standing}
use Rattle.dali_journal.specs.declared.standing.Standing.TheVariants as standings
use Rattle.dali_journal.specs.Sentence.{Allows, next_standing, standing_of, IsSentence}
use Rattle.dali_journal.specs.Orders.{orders_of, come_to}
use Rattle.dali_write.specs.Worlds.{IsAmong, KeepsAt}
use Rattle.dali_journal.specs.declared.record.Code.{Code}
use Rattle.dali_journal.specs.declared.record.Code.TheVariants.{DoubtOpen}
use Rattle.dali_trace.specs.Trace.{is_at_work}
use Rattle.dali_trace.specs.Possible.{mark_of, byte_for, IsPossible}
use Rattle.dali_trace.specs.Fits.{Fits, HasBeenOpened, IsLockByte, IsApart}
use Rattle.dali_laws.specs.Stays.{among, bare, only_at, UnitFits}
use Rattle.dali_write.proofs.PowerLemmas.{relock_then}
use Rattle.dali_laws.proofs.AppliedLemmas.{fits_applied}
use Rattle.dali_laws.proofs.SafeLemmas.{sentence_own, standing_joined}
use Rattle.dali_laws.proofs.BareLemmas.{hold_too, without_bare, bare_alike, bare_sentence, sentence_of, sentence_too}

-- The unit at the address alone

-- of those who stay each is as it is in the whole world
whole_there : (staying : ℕ → Bool) (now : World) (address : ℕ) → staying address ≡ true
    → among staying now address ≡ now address
whole_there staying now address stays = ap (λ (here : Bool). if here then now address else None) stays

module _ (staying : ℕ → Bool) (address : ℕ) (zero now : World) (records : List Record) (lost : List ℕ)
    (stays : staying address ≡ true) (fits : Fits zero records lost (among staying now)) where
  same : (other bank location : ℕ) → (other == address) ≡ true
      → byte_at (among staying now) other bank location ≡ byte_at now other bank location
  same other bank location e =
      ap (λ (unit : Option Gear). byte_in unit bank location)
      (whole_there staying now other (ap staying (eqb-true other address e) ∙ stays))

  only_fits : Fits (only_at address zero) records lost (only_at address now)
  only_fits = record {
    places = λ other bank location. places other bank location (other == address) refl;
    bytes = λ other bank location first byte lock was is.
        bytes other bank location first byte lock (other == address) refl was is;
    locks = λ other bank above closed. locks other bank above closed (other == address) refl;
    indicators = λ other closed. indicators other closed (other == address) refl;
  } where
    places : (other bank location : ℕ) (here : Bool) → (other == address) ≡ here
        → is_some (byte_in (if here then now other else None) bank location)
        ≡ is_some (byte_in (if here then zero other else None) bank location)
    places other bank location true e =
        ap is_some (sym (same other bank location e)) ∙ fits.places other bank location
    places other bank location false e = refl

    bytes : (other bank location first byte : ℕ) → (IsApart bank location → ⊥) → (here : Bool)
        → (other == address) ≡ here → byte_in (if here then zero other else None) bank location ≡ Some first
        → byte_in (if here then now other else None) bank location ≡ Some byte
        → IsPossible first other bank location (orders_of records) byte
    bytes other bank location first byte lock true e was is =
        fits.bytes other bank location first byte lock was (same other bank location e ∙ is)
    bytes other bank location first byte lock false e was is = cc

    locks : (other bank : ℕ) → 1 ≤ bank → (bank ≡ 1 → HasBeenOpened other records → ⊥) → (here : Bool)
        → (other == address) ≡ here
        → MayRelock (IsAmong lost other) bank 2 (byte_in (if here then zero other else None) bank 2)
        (byte_in (if here then now other else None) bank 2)
    locks other bank above closed true e =
        relock_then (byte_at zero other bank 2) (byte_at (among staying now) other bank 2) (byte_at now other bank 2)
        (fits.locks other bank above closed) (inl (sym (same other bank 2 e)))
    locks other bank above closed false e = inl refl

    indicators : (other : ℕ) → (HasBeenOpened other records → ⊥) → (here : Bool) → (other == address) ≡ here
        → byte_in (if here then now other else None) 1 1 ≡ byte_in (if here then zero other else None) 1 1
    indicators other closed true e = sym (same other 1 1 e) ∙ fits.indicators other closed
    indicators other closed false e = refl

pub fits_each : (staying : ℕ → Bool) (address : ℕ) (zero now : World) (records : List Record) (lost : List ℕ)
    → staying address ≡ true → Fits zero records lost (among staying now) → UnitFits address zero records lost now
fits_each staying address zero now records lost stays fits =
    let here = only_fits staying address zero now records lost stays fits in
    (here, fits_applied (only_at address zero) records lost (only_at address now) here)

-- The orders of both

come_joined : (progress : Progress) (own older : List (Contents × Progress)) (newest : Contents × Progress)
    (rest : List (Contents × Progress)) → own ≡ newest ∷ rest
    → come_to progress (own ++ older) ≡ come_to progress own ++ older
come_joined progress own older newest rest is = rw is refl

-- an order is at work when one is opened or ends
opens_at_work : (stands : Standing) (unit : ℕ) → Allows stands (Opened unit) → is_at_work stands ≡ true
opens_at_work (standings.Began order) unit allowed = refl
opens_at_work standings.Idle unit allowed = absurd allowed
opens_at_work (standings.Opened order) unit allowed = absurd allowed
opens_at_work (standings.Left left) unit allowed = absurd allowed

ends_at_work : (stands : Standing) (code : Code) → Allows stands (Ended code) → is_at_work stands ≡ true
ends_at_work (standings.Began order) code allowed = refl
ends_at_work (standings.Opened order) code allowed = refl
ends_at_work standings.Idle code allowed = absurd allowed
ends_at_work (standings.Left left) code allowed = absurd allowed

opened_before : (stands : Standing) (unit : ℕ) → is_at_work (next_standing stands (Opened unit)) ≡ true
    → is_at_work stands ≡ true
opened_before (standings.Began order) unit works = refl
opened_before standings.Idle unit works = works
opened_before (standings.Opened order) unit works = refl
opened_before (standings.Left left) unit works = works

none_after_end : (stands : Standing) (code : Code) → is_at_work (next_standing stands (Ended code)) ≡ false
none_after_end standings.Idle code = refl
none_after_end (standings.Began order) code = refl
none_after_end (standings.Opened order) DoubtOpen = refl
none_after_end (standings.Opened order) code = refl
none_after_end (standings.Left left) code = refl

none_after_closed : (stands : Standing) (unit : ℕ) → is_at_work (next_standing stands (Closed unit)) ≡ false
none_after_closed standings.Idle unit = refl
none_after_closed (standings.Began order) unit = refl
none_after_closed (standings.Opened order) unit = refl
none_after_closed (standings.Left left) unit = refl

-- one that is at work after records at rest began among the own ones
some_order : (own older : List Record) → is_at_work (standing_of older) ≡ false
    → is_at_work (standing_of (own ++ older)) ≡ true
    → (newest : Contents × Progress) × (rest : List (Contents × Progress)) × (orders_of own ≡ newest ∷ rest)
some_order [] older rests works = absurd (true≢false (sym works ∙ rests))
some_order (Began order moment ∷ own) older rests works = ((order, reached.Begun), orders_of own, refl)
some_order (Opened unit ∷ own) older rests works =
    let before = some_order own older rests (opened_before (standing_of (own ++ older)) unit works) in
    ((before.0.0, reached.Open), before.1, ap (come_to reached.Open) before.2)
some_order (Ended code ∷ own) older rests works =
    absurd (true≢false (sym works ∙ none_after_end (standing_of (own ++ older)) code))
some_order (Closed unit ∷ own) older rests works =
    absurd (true≢false (sym works ∙ none_after_closed (standing_of (own ++ older)) unit))

orders_joined : (own older : List Record) → is_at_work (standing_of older) ≡ false → IsSentence (own ++ older)
    → orders_of (own ++ older) ≡ orders_of own ++ orders_of older
orders_joined [] older rests sentence = refl
orders_joined (Began order moment ∷ own) older rests sentence =
    ap (◌∷◌ (order, reached.Begun)) (orders_joined own older rests sentence.0)
orders_joined (Closed unit ∷ own) older rests sentence = orders_joined own older rests sentence.0
orders_joined (Opened unit ∷ own) older rests sentence =
    let some = some_order own older rests (opens_at_work (standing_of (own ++ older)) unit sentence.1) in
    ap (come_to reached.Open) (orders_joined own older rests sentence.0)
    ∙ come_joined reached.Open (orders_of own) (orders_of older) some.0 some.1 some.2
orders_joined (Ended code ∷ own) older rests sentence =
    let some = some_order own older rests (ends_at_work (standing_of (own ++ older)) code sentence.1) in
    ap (come_to (reached.Ended code)) (orders_joined own older rests sentence.0)
    ∙ come_joined (reached.Ended code) (orders_of own) (orders_of older) some.0 some.1 some.2

possible_joined : (own older : List (Contents × Progress)) (address bank location first middle byte : ℕ)
    → IsPossible first address bank location older middle → IsPossible middle address bank location own byte
    → IsPossible first address bank location (own ++ older) byte
possible_joined [] older address bank location first middle byte before is =
    subst (IsPossible first address bank location older) (sym is) before
possible_joined (newest ∷ own) older address bank location first middle byte before is =
    hold_too (mark_of newest.1) (byte_for newest.0 address bank location) _ _ byte
    (possible_joined own older address bank location first middle byte before) is

-- The units that were opened, or lost their power, in both

opened_own : (address : ℕ) (own older : List Record) → HasBeenOpened address own → HasBeenOpened address (own ++ older)
opened_own address [] older opened = absurd opened
opened_own address (Opened unit ∷ own) older (inl here) = inl here
opened_own address (Opened unit ∷ own) older (inr before) = inr (opened_own address own older before)
opened_own address (other ∷ own) older opened = opened_own address own older opened

opened_more : (address : ℕ) (own less more : List Record) → (HasBeenOpened address less → HasBeenOpened address more)
    → HasBeenOpened address (own ++ less) → HasBeenOpened address (own ++ more)
opened_more address [] less more f opened = f opened
opened_more address (Opened unit ∷ own) less more f (inl here) = inl here
opened_more address (Opened unit ∷ own) less more f (inr before) = inr (opened_more address own less more f before)
opened_more address (other ∷ own) less more f opened = opened_more address own less more f opened

opened_bare : (address : ℕ) (newest : List Record) → HasBeenOpened address (bare newest) → HasBeenOpened address newest
opened_bare address [] opened = opened
opened_bare address (Opened unit ∷ newest) (inl here) = inl here
opened_bare address (Opened unit ∷ newest) (inr before) = inr (opened_bare address newest before)
opened_bare address (Began order moment ∷ newest) opened = opened_bare address newest opened
opened_bare address (Ended code ∷ newest) opened = opened_bare address newest opened
opened_bare address (Closed unit ∷ newest) opened = opened_bare address newest opened

opened_older : (address : ℕ) (own older : List Record) → HasBeenOpened address older
    → HasBeenOpened address (own ++ older)
opened_older address [] older opened = opened
opened_older address (Opened unit ∷ own) older opened = inr (opened_older address own older opened)
opened_older address (other ∷ own) older opened = opened_older address own older opened

among_own : (address : ℕ) (lost before : List ℕ) → IsAmong lost address → IsAmong (lost ++ before) address
among_own address [] before among = absurd among
among_own address (first ∷ lost) before (inl here) = inl here
among_own address (first ∷ lost) before (inr later) = inr (among_own address lost before later)

among_older : (address : ℕ) (lost before : List ℕ) → IsAmong before address → IsAmong (lost ++ before) address
among_older address [] before among = among
among_older address (first ∷ lost) before among = inr (among_older address lost before among)

relock_too : {A B : Type 0} {bank location : ℕ} {old new : Option ℕ} → (A → B) → MayRelock A bank location old new
    → MayRelock B bank location old new
relock_too f (inl same) = inl same
relock_too f (inr (lost, above, lock, is)) = inr (f lost, above, lock, is)

-- Both stays, of worlds whose memory stays between them, lock bytes apart where a unit lost its power

still_some : {lost : Type 0} {bank location : ℕ} (old new : Option ℕ) → MayRelock lost bank location old new
    → is_some new ≡ is_some old
still_some old new (inl same) = ap is_some same
still_some None new (inr (gone, above, lock, is)) = ap is_some is
still_some (Some byte) new (inr (gone, above, lock, is)) = ap is_some is

-- a place that is no lock byte is as it was
still_same : {lost : Type 0} {bank location : ℕ} {old new : Option ℕ} → (IsLockByte bank location → ⊥)
    → MayRelock lost bank location old new → new ≡ old
still_same lock (inl same) = same
still_same lock (inr (gone, above, here, is)) = absurd (lock (above, here))

module _ (zero middle first now : World) (oldest newest own : List Record) (before gone lost : List ℕ)
    (idle : standing_of oldest ≡ standings.Idle) (rests : is_at_work (standing_of newest) ≡ false)
    (sentence : IsSentence (own ++ (newest ++ oldest))) (was : Fits zero (newest ++ oldest) before middle)
    (kept : (address bank location : ℕ) → MayRelock (IsAmong gone address) bank location
    (byte_at middle address bank location) (byte_at first address bank location))
    (is : Fits first (own ++ bare newest) lost now) where
  abbrev older : List Record
  older = newest ++ oldest

  opened_then : (address : ℕ) → HasBeenOpened address (own ++ bare newest) → HasBeenOpened address (own ++ older)
  opened_then address =
      opened_more address own (bare newest) older
      (λ opened. opened_own address newest oldest (opened_bare address newest opened))

  all_rest : is_at_work (standing_of older) ≡ false
  all_rest = ap is_at_work (standing_joined newest oldest idle) ∙ rests

  -- the orders for that address are the own ones: the others have no bytes
  own_possible : (address bank location first byte : ℕ)
      → IsPossible first address bank location (orders_of (own ++ bare newest)) byte
      → IsPossible first address bank location (orders_of own) byte
  own_possible address bank location first byte may =
      let alike = bare_alike newest rests in
      let all =
      sentence_own (own ++ newest) oldest idle (subst IsSentence (sym (append_assoc own newest oldest)) sentence) in
      let so = sentence_too own newest (bare newest) alike (bare_sentence newest (sentence_of own newest all)) all in
      without_bare (orders_of own) newest address bank location first byte
      (subst (λ (orders : List (Contents × Progress)). IsPossible first address bank location orders byte)
      (orders_joined own (bare newest) (ap is_at_work alike.stand ∙ rests) so) may)

  joined : Fits zero (own ++ older) (lost ++ (gone ++ before)) now
  joined = record {
    places = λ address bank location.
        is.places address bank location
        ∙ still_some (byte_at middle address bank location) (byte_at first address bank location)
        (kept address bank location)
        ∙ was.places address bank location;
    bytes = λ address bank location held byte lock stood stands.
        bytes address bank location held byte lock stood stands (byte_at middle address bank location) refl;
    locks = λ address bank above closed.
        relock_then (byte_at zero address bank 2) (byte_at first address bank 2) (byte_at now address bank 2)
        (relock_then (byte_at zero address bank 2) (byte_at middle address bank 2) (byte_at first address bank 2)
        (relock_too (λ among. among_older address lost (gone ++ before) (among_older address gone before among))
        (was.locks address bank above (λ one opened. closed one (opened_older address own older opened))))
        (relock_too (λ among. among_older address lost (gone ++ before) (among_own address gone before among))
        (kept address bank 2)))
        (relock_too (among_own address lost (gone ++ before))
        (is.locks address bank above (λ one opened. closed one (opened_then address opened))));
    indicators = λ address closed.
        is.indicators address (λ opened. closed (opened_then address opened))
        ∙ still_same (λ is. omega (arith, is.1)) (kept address 1 1)
        ∙ was.indicators address (λ opened. closed (opened_older address own older opened));
  } where
    bytes : (address bank location held byte : ℕ) → (IsApart bank location → ⊥)
        → byte_at zero address bank location ≡ Some held → byte_at now address bank location ≡ Some byte
        → (between : Option ℕ) → byte_at middle address bank location ≡ between
        → IsPossible held address bank location (orders_of (own ++ older)) byte
    bytes address bank location held byte lock stood stands None none =
        let there : false ≡ true =
        sym (ap is_some none) ∙ was.places address bank location ∙ ap is_some stood in cc
    bytes address bank location held byte lock stood stands (Some between) some =
        subst (λ (orders : List (Contents × Progress)). IsPossible held address bank location orders byte)
        (sym (orders_joined own older all_rest sentence))
        (possible_joined (orders_of own) (orders_of older) address bank location held between byte
        (was.bytes address bank location held between lock stood some)
        (own_possible address bank location between byte (is.bytes address bank location between byte lock
        (still_same (λ is. lock (inl is)) (kept address bank location) ∙ some) stands)))

kept_alone : (address : ℕ) (gone : List ℕ) (middle first : World) → KeepsAt (IsAmong gone) middle first address
    → (other bank location : ℕ)
    → MayRelock (IsAmong gone other) bank location (byte_at (only_at address middle) other bank location)
    (byte_at (only_at address first) other bank location)
kept_alone address gone middle first keeps other bank location = by (other == address) refl where
  by : (here : Bool) → (other == address) ≡ here
      → MayRelock (IsAmong gone other) bank location (byte_in (if here then middle other else None) bank location)
      (byte_in (if here then first other else None) bank location)
  by true e = rw (eqb-true other address e) (keeps.memory bank location)
  by false e = inl refl

pub fits_both : (address : ℕ) (zero middle first now : World) (oldest newest own : List Record)
    (before gone lost : List ℕ) → standing_of oldest ≡ standings.Idle → is_at_work (standing_of newest) ≡ false
    → IsSentence (own ++ (newest ++ oldest)) → UnitFits address zero (newest ++ oldest) before middle
    → KeepsAt (IsAmong gone) middle first address → UnitFits address first (own ++ bare newest) lost now
    → UnitFits address zero (own ++ (newest ++ oldest)) (lost ++ (gone ++ before)) now
fits_both address zero middle first now oldest newest own before gone lost idle rests sentence was keeps is =
    let both =
    joined (only_at address zero) (only_at address middle) (only_at address first) (only_at address now) oldest newest
    own before gone lost idle rests sentence was.0 (kept_alone address gone middle first keeps) is.0 in (
      both,
      fits_applied (only_at address zero) (own ++ (newest ++ oldest)) (lost ++ (gone ++ before))
          (only_at address now) both,
    )

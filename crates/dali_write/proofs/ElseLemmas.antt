-- The other units while a session is at work with one.
use Rattle.std.proofs.Common.{◌≡◌, ◌≢◌, inl, inr, refl, sym, ap, subst, ◌∙◌, ℕ, Bool, true, false, List, [], ◌∷◌, map}
use Rattle.std.proofs.Common.{Some}
use Rattle.std.specs.Prelude.{◌==◌, if◌then◌else◌, ⊤}
use Rattle.std.proofs.lemmas.Bool.{eqb-false, ne_eqb}
use Rattle.std.specs.List.{AllByRecursion}
use Rattle.dali_frame.specs.declared.forward.Frame.{Frame}
use Rattle.dali_frame.specs.declared.forward.Frame.TheVariants.{Dtr0, Dtr1, Dtr2, Write, WriteSilent, Enable, AskDtr0}
use Rattle.dali_frame.specs.declared.forward.Frame.TheVariants.{AskDtr1, AskDtr2, Read, Other}
use Rattle.dali_gear.specs.declared.fate.Fate.{Fate}
use Rattle.dali_gear.specs.Fate.{is_lost, next_fate}
use Rattle.dali_bus.specs.World.{Gear}
use Rattle.dali_gear.specs.UnitState.{BankState, UnitState, after_frame, gear_of}
use Rattle.dali_gear.specs.SimState.{SimState, unit_after, world_of, AreApart}
use Rattle.dali_gear.specs.SimSteps.{fate_keeps}
use Rattle.dali_gear.proofs.SimLemmas.{AreApart-map}
use Rattle.dali_write.specs.Exchanges.{Exchange}
use Rattle.dali_write.specs.declared.ask.Ask.{Ask}
use Rattle.dali_write.specs.declared.ask.Ask.TheVariants.{Send}
use Rattle.dali_write.specs.declared.ask.Verdict.TheVariants.{Closed, NotClosed}
use Rattle.dali_write.specs.Plans.{close}
use Rattle.dali_write.specs.Tries.{Wants}
use Rattle.dali_write.specs.Worlds.{OnlyEnabled}
use Rattle.dali_write.proofs.GearLemmas.{IsOff}
use Rattle.dali_write.specs.Guards.{IsGuarded}
use Rattle.dali_write.specs.Losses.{IsElse, IsAlone}
use Rattle.dali_write.specs.Successes.{HasBank}
use Rattle.dali_write.proofs.OneFrameLemmas.{IsFor, alone_then}
use Rattle.dali_write.proofs.DriftLemmas.{drifts_alone, drifts_bank, drifts_apart}
use Rattle.dali_write.proofs.GuardLemmas.{closing_guarded}
use Rattle.dali_write.proofs.DeterminedLemmas.{frame_wanted}
use Rattle.dali_write.proofs.AloneLemmas.{alone_of}
use Rattle.dali_write.proofs.RunLemmas.{Leads}
use Rattle.dali_gear.specs.SimState.{SimStep}

-- a frame that is meant for another unit changes no bank of a unit that isn't enabled
else_bank : (refuses : Bool) (at : ℕ) (unit : UnitState) (frame : Frame) → IsFor at frame → unit.address ≢ at
    → unit.enabled ≡ false → (after_frame refuses unit frame).bank1 ≡ unit.bank1
else_bank refuses at unit (Dtr0 b) is other off = refl
else_bank refuses at unit (Dtr1 b) is other off = refl
else_bank refuses at unit (Dtr2 b) is other off = refl
else_bank refuses at unit (Write b) is other off = rw off refl
else_bank refuses at unit (WriteSilent b) is other off = rw off refl
else_bank refuses at unit (Enable to) is other off = rw (ne_eqb to unit.address (λ e. other (sym e ∙ is))) refl
else_bank refuses at unit (AskDtr0 to) is other off = refl
else_bank refuses at unit (AskDtr1 to) is other off = refl
else_bank refuses at unit (AskDtr2 to) is other off = refl
else_bank refuses at unit (Read to) is other off = rw (ne_eqb to unit.address (λ e. other (sym e ∙ is))) refl
else_bank refuses at unit (Other w) is other off = refl

fate_bank : (fate : Fate) (at : ℕ) (unit : UnitState) (frame : Frame) → IsFor at frame → IsElse at unit
    → (unit_after fate frame unit).bank1 ≡ unit.bank1
fate_bank fate at unit frame is other = by (is_lost fate unit.address)
  where
    by : (b : Bool) → (if b then unit else after_frame fate.refuse unit frame).bank1 ≡ unit.bank1
    by true = refl
    by false = else_bank fate.refuse at unit frame is other.0 other.1

all_banks : (fate : Fate) (at address : ℕ) (bank : BankState) (units : List UnitState) (frame : Frame) → IsFor at frame
    → AllByRecursion (IsElse at) units → HasBank address bank units
    → HasBank address bank (map (unit_after fate frame) units)
all_banks fate at address bank [] frame is all has = absurd has
all_banks fate at address bank (unit ∷ units) frame is all (inl here) =
    inl (fate_keeps fate frame unit ∙ here.0, fate_bank fate at unit frame is all.0 ∙ here.1)
all_banks fate at address bank (unit ∷ units) frame is all (inr later) =
    inr (all_banks fate at address bank units frame is all.1 later)

bank_after : (fate : Fate) (at address : ℕ) (bank : BankState) (unit : UnitState) (units : List UnitState)
    (frame : Frame)
    → IsFor at frame → address ≢ at → IsAlone at unit units
    → HasBank address bank units → HasBank address bank (map (unit_after fate frame) units)
bank_after fate at address bank unit [] frame is other alone has = absurd alone
bank_after fate at address bank unit (first ∷ units) frame is other (inl mine) (inl here) =
    absurd (other (sym here.0 ∙ ap (λ (u : UnitState). u.address) mine.0 ∙ mine.1))
bank_after fate at address bank unit (first ∷ units) frame is other (inl mine) (inr later) =
    inr (all_banks fate at address bank units frame is mine.2 later)
bank_after fate at address bank unit (first ∷ units) frame is other (inr further) (inl here) =
    inl (fate_keeps fate frame first ∙ here.0, fate_bank fate at first frame is further.0 ∙ here.1)
bank_after fate at address bank unit (first ∷ units) frame is other (inr further) (inr later) =
    inr (bank_after fate at address bank unit units frame is other further.1 later)

-- all of the frames are meant for the unit
abbrev AllAre : ℕ → List Exchange → Type 0
AllAre at [] = ⊤
AllAre at (x ∷ told) = IsFor at x.frame × AllAre at told

for_of : (at : ℕ) (writes : List (ℕ × ℕ)) (told : List Exchange) (frame : Frame) → IsGuarded writes at told frame
    → IsFor at frame
for_of at writes told (Dtr0 b) guarded = tt
for_of at writes told (Dtr1 b) guarded = tt
for_of at writes told (AskDtr0 to) guarded = guarded
for_of at writes told (AskDtr1 to) guarded = guarded
for_of at writes told (Read to) guarded = guarded
for_of at writes told (Enable to) guarded = guarded.0
for_of at writes told (Write b) guarded = tt
for_of at writes told (Dtr2 b) guarded = absurd guarded
for_of at writes told (WriteSilent b) guarded = absurd guarded
for_of at writes told (AskDtr2 to) guarded = absurd guarded
for_of at writes told (Other w) guarded = absurd guarded

closing_all : (at : ℕ) (told : List Exchange) (ask : Ask) → Wants at (close Closed NotClosed) told ask → AllAre at told
closing_all at [] ask wants = tt
closing_all at (x ∷ told) ask wants =
    let before = frame_wanted told x at (close Closed NotClosed) ask wants in (
      for_of at ((2, 0xFF) ∷ []) told x.frame (closing_guarded told at x.frame before),
      closing_all at told (Send x.frame) before,
    )

-- along such frames
record Along (at address : ℕ) (bank : BankState) (last : SimState) : Type 0 where
  now : UnitState
  alone : IsAlone at now last.units
  has : HasBank address bank last.units

along : (loses : ℕ → Type 0) (at address : ℕ) (bank : BankState) (unit : UnitState) (told : List Exchange)
    (first last : SimState)
    → Leads SimStep loses told first last → (loses at → ⊥) → (loses address → ⊥) → AllAre at told → address ≢ at
    → IsAlone at unit first.units → HasBank address bank first.units → Along at address bank last
along loses at address bank unit [] first last run keeps_power also all other alone has =
    record {
      now = unit;
      alone = drifts_alone loses at unit first last keeps_power run alone;
      has = drifts_bank loses address bank first last also run has;
    }
along loses at address bank unit (x ∷ told) first last run keeps_power also all other alone has =
    let before = along loses at address bank unit told first run.0 run.2 keeps_power also all.1 other alone has in
    record {
      now = _;
      alone =
          drifts_alone loses at _ run.1 last keeps_power run.4
          (alone_then at run.0 before.now x.frame x.answer run.1 run.3 all.0 before.alone);
      has =
          drifts_bank loses address bank run.1 last also run.4
          (subst (HasBank address bank) (sym run.3.units) (bank_after (next_fate run.0.fates) at address bank before.now
          run.0.units x.frame all.0 other before.alone before.has));
    }

-- a session that closes one unit, if neither it nor this other one loses its power
pub closing_keeps_bank : (loses : ℕ → Type 0) (at address : ℕ) (bank : BankState) (unit : UnitState)
    (told : List Exchange) (ask : Ask) (first last : SimState)
    → Leads SimStep loses told first last → (loses at → ⊥) → (loses address → ⊥)
    → Wants at (close Closed NotClosed) told ask → address ≢ at → IsAlone at unit first.units
    → HasBank address bank first.units → HasBank address bank last.units
closing_keeps_bank loses at address bank unit told ask first last run keeps_power also wants other alone has =
    (along loses at address bank unit told first last run keeps_power also (closing_all at told ask wants) other alone
    has).has

-- units that are apart stay so
pub run_apart : (loses : ℕ → Type 0) (told : List Exchange) (first last : SimState)
    → Leads SimStep loses told first last
    → AreApart first.units → AreApart last.units
run_apart loses [] first last run apart = drifts_apart loses first last run apart
run_apart loses (x ∷ told) first last run apart =
    drifts_apart loses run.1 last run.4
    (subst AreApart (sym run.3.units)
    (AreApart-map _ (fate_keeps (next_fate run.0.fates) x.frame) run.0.units
    (run_apart loses told first run.0 run.2 apart)))

-- if the one isn't enabled either, none is
all_off : (at address : ℕ) (units : List UnitState) → AllByRecursion (IsElse at) units → IsOff (world_of units address)
all_off at address [] all = refl
all_off at address (unit ∷ units) all = by (address == unit.address) (all_off at address units all.1)
  where
    by : (b : Bool) → IsOff (world_of units address) → IsOff (if b then Some (gear_of unit) else world_of units address)
    by true rest = all.0.1
    by false rest = rest

pub none_on : (at address : ℕ) (unit : UnitState) (units : List UnitState) → IsAlone at unit units
    → unit.enabled ≡ false → IsOff (world_of units address)
none_on at address unit [] alone off = absurd alone
none_on at address unit (first ∷ units) (inl here) off = by (address == first.address)
  where
    by : (b : Bool) → IsOff (if b then Some (gear_of first) else world_of units address)
    by true = ap (λ (u : UnitState). u.enabled) here.0 ∙ off
    by false = all_off at address units here.2
none_on at address unit (first ∷ units) (inr further) off =
    by (address == first.address) (none_on at address unit units further.1 off)
  where
    by : (b : Bool) → IsOff (world_of units address)
        → IsOff (if b then Some (gear_of first) else world_of units address)
    by true rest = further.0.1
    by false rest = rest

-- the unit at an address, if no other is enabled
there : (address : ℕ) (bank : BankState) (units : List UnitState) → HasBank address bank units
    → (gear : Gear) × (world_of units address ≡ Some gear)
there address bank [] has = absurd has
there address bank (unit ∷ units) has = by (λ later. there address bank units later) (address == unit.address) refl has
  where
    by : (HasBank address bank units → (gear : Gear) × (world_of units address ≡ Some gear)) → (b : Bool)
        → (address == unit.address) ≡ b → HasBank address bank (unit ∷ units)
        → (gear : Gear) × (world_of (unit ∷ units) address ≡ Some gear)
    by more true e has = (gear_of unit, rw e refl)
    by more false e (inl here) = absurd (eqb-false address unit.address e (sym here.0))
    by more false e (inr later) = let rest = more later in (rest.0, rw e rest.1)

not_else : {A : Type 0} (address : ℕ) (bank : BankState) (units : List UnitState)
    → AllByRecursion (IsElse address) units
    → HasBank address bank units → A
not_else address bank [] all has = absurd has
not_else address bank (unit ∷ units) all (inl here) = absurd (all.0.0 here.0)
not_else address bank (unit ∷ units) all (inr later) = not_else address bank units all.1 later

pub same_bank : (address : ℕ) (bank : BankState) (unit : UnitState) (units : List UnitState)
    → IsAlone address unit units → HasBank address bank units → unit.bank1 ≡ bank
same_bank address bank unit [] alone has = absurd alone
same_bank address bank unit (first ∷ units) (inl mine) (inl here) =
    ap (λ (u : UnitState). u.bank1) (sym mine.0) ∙ here.1
same_bank address bank unit (first ∷ units) (inl mine) (inr later) = not_else address bank units mine.2 later
same_bank address bank unit (first ∷ units) (inr further) (inl here) = absurd (further.0.0 here.0)
same_bank address bank unit (first ∷ units) (inr further) (inr later) =
    same_bank address bank unit units further.1 later

pub alone_with : (address : ℕ) (bank : BankState) (units : List UnitState) → AreApart units
    → OnlyEnabled address (world_of units) → HasBank address bank units
    → (unit : UnitState) × IsAlone address unit units × (unit.bank1 ≡ bank)
alone_with address bank units apart only has =
    let gear = there address bank units has in
    let alone = alone_of address units gear.0 apart only gear.1 in
    (alone.0, alone.1, same_bank address bank alone.0 units alone.1 has)

-- Facts that stay sure of the unit at hand over a bus that alters answers.
use Rattle.std.proofs.Common.{◌≡◌, ◌⊎◌, refl, sym, ap, subst, ◌∙◌, inl, inr, ℕ, true, false, List, []}
use Rattle.std.proofs.Common.{Option, Some, None, map, arith}
use Rattle.std.specs.Prelude.{Bool, ⊤}
use Rattle.std.proofs.lemmas.Bool.{both_ways}
use Rattle.dali_frame.specs.declared.forward.Frame.{Frame}
use Rattle.dali_frame.specs.declared.forward.Frame.TheVariants.{Dtr0, Dtr1, Dtr2, Write, WriteSilent, Enable, AskDtr0}
use Rattle.dali_frame.specs.declared.forward.Frame.TheVariants.{AskDtr1, AskDtr2, Read, Other}
use Rattle.dali_bus.specs.World.{World, Gear, IfThere}
use Rattle.dali_bus.specs.Hears.{Hears, Obeys, up}
use Rattle.dali_bus.specs.Carry.{Carry, MayHear, Heard, WorldStep, BusEvent, Carried, Powered}
use Rattle.dali_bus.proofs.ChainLemmas.{shown_chain}
use Rattle.dali_write.specs.Exchanges.{Exchange}
use Rattle.dali_write.specs.Requests.{select_requests}
use Rattle.dali_write.specs.Tries.{Trying}
use Rattle.dali_write.specs.Worlds.{OnlyEnabled, memory_at, Written, Run}
use Rattle.dali_write.specs.Noise.{Noisy, NoisyCarry, NoisyStep, as_noisy}
use Rattle.dali_write.proofs.GearLemmas.{asked1, asked0, carry_dtr1, IsQuiet, end_steady, dtr0_in}
use Rattle.dali_write.proofs.GearLemmas.{memory_of, LeavesDtr1}
use Rattle.dali_write.proofs.PowerLemmas.{drifts_have}
use Rattle.dali_write.proofs.ShapeLemmas.{Got, asked_requests, selected, questioned, jumped}
use Rattle.dali_write.specs.declared.request.Wish.TheVariants.{Exactly, Nothing}
use Rattle.dali_write.proofs.RunLemmas.{Leads, Drifts, Stays, Loses}
use Rattle.dali_write.proofs.TruthLemmas.{HasBank, HasPlace, off_bank, off_place, was_on, off_write_here, write_here}
use Rattle.dali_write.proofs.TruthLemmas.{write_answered, off_not_on, stands_selected, same_or_not}

-- Losses of power

pub noisy_drifts : {made : Bool} {loses : ℕ → Type 0} (unit : ℕ) (first last : Noisy)
    → Drifts (NoisyStep made unit) loses first last
    → Drifts WorldStep loses first.world last.world
noisy_drifts unit first last Stays = Stays
noisy_drifts unit first last (Loses {mid = mid} address of_these drifts lost) =
    Loses address of_these (noisy_drifts unit first mid drifts) lost.0

drifts_unset : {made : Bool} {loses : ℕ → Type 0} (unit : ℕ) (first last : Noisy)
    → Drifts (NoisyStep made unit) loses first last
    → last.unset ≡ first.unset
drifts_unset unit first last Stays = refl
drifts_unset unit first last (Loses {mid = mid} address of_these drifts lost) =
    lost.1 ∙ drifts_unset unit first mid drifts

-- a unit that is enabled has this location of bank 1 selected
abbrev pub IsAt : ℕ → Option Gear → Type 0
IsAt location gear = HasBank gear × HasPlace location gear

pub at_drifts : {made : Bool} {loses : ℕ → Type 0} (location unit : ℕ) (first last : Noisy)
    → Drifts (NoisyStep made unit) loses first last → IsAt location (first.world unit) → IsAt location (last.world unit)
at_drifts location unit first last drifts at =
    let d = noisy_drifts unit first last drifts in (
      drifts_have HasBank off_bank unit first.world last.world d at.0,
      drifts_have (HasPlace location) (off_place location) unit first.world last.world d at.1,
    )

pub bank_drifts : {made : Bool} {loses : ℕ → Type 0} (unit : ℕ) (first last : Noisy)
    → Drifts (NoisyStep made unit) loses first last
    → HasBank (first.world unit) → HasBank (last.world unit)
bank_drifts unit first last drifts bank =
    drifts_have HasBank off_bank unit first.world last.world (noisy_drifts unit first last drifts) bank

-- A frame that sets a register, and the question after it

heard_bank : (unit : ℕ) (old new : Option Gear) → IfThere (λ before after. Heard unit before (Dtr1 1) after) old new
    → HasBank new
heard_bank unit None None heard = λ on. cc
heard_bank unit (Some old) (Some new) heard = λ on.
    let h = heard.1 in
    ap Some ((end_steady h.obeyed new h.ends).dtr1 ∙ ap (λ (g : Gear). g.dtr1) h.obeys.0)
heard_bank unit None (Some new) heard = absurd heard
heard_bank unit (Some old) None heard = absurd heard

heard_place : (unit location : ℕ) (old new : Option Gear)
    → IfThere (λ before after. Heard unit before (Dtr0 location) after) old new → HasPlace location new
heard_place unit location None None heard = λ bank. cc
heard_place unit location (Some old) (Some new) heard = λ bank.
    let h = heard.1 in
    ap Some ((end_steady h.obeyed new h.ends).dtr0 ∙ ap (λ (g : Gear). g.dtr0) h.obeys.0)
heard_place unit location None (Some new) heard = absurd heard
heard_place unit location (Some old) None heard = absurd heard

pub noisy_as : {made : Bool} (unit : ℕ) (old new : Noisy) (x : Exchange) (frame : Frame) → x.frame ≡ frame
    → NoisyCarry made unit old x.frame x.answer new → NoisyCarry made unit old frame x.answer new
noisy_as {made} unit old new x frame is carry =
    subst (λ (f : Frame). NoisyCarry made unit old f x.answer new) is carry

-- the answer that the unit gave, if none may be altered
truly : {made : Bool} (unit : ℕ) (old new : Noisy) (frame : Frame) (answer : Option ℕ) (byte : ℕ) → old.unset ≡ true
    → answer ≡ Some byte → (c : NoisyCarry made unit old frame answer new) → Carry old.world frame (Some byte) new.world
truly unit old new frame answer byte unset is c =
    subst (λ (a : Option ℕ). Carry old.world frame a new.world) (sym (c.unaltered unset) ∙ is) c.carries

bank_kept : (old : World) (frame : Frame) (given : Option ℕ) (new : World) (unit : ℕ) → LeavesDtr1 frame
    → IsQuiet unit frame → Carry old frame given new → HasBank (old unit) → HasBank (new unit)
bank_kept old frame given new unit leaves quiet carry bank = λ on.
    carry_dtr1 old frame given new leaves carry unit ∙ bank (was_on old new frame given unit quiet carry on)

pub bank_sure : {made : Bool} {loses : ℕ → Type 0} (unit : ℕ) (w0 w1 w2 w3 : Noisy) (x1 x2 : Exchange)
    → Got x1 (Dtr1 1) Nothing
    → Got x2 (AskDtr1 unit) (Exactly 1) → NoisyCarry made unit w0 x1.frame x1.answer w1
    → Drifts (NoisyStep made unit) loses w1 w2 → NoisyCarry made unit w2 x2.frame x2.answer w3 → HasBank (w3.world unit)
bank_sure {made} {loses} unit w0 w1 w2 w3 x1 x2 got1 got2 c1 drifts c2 = by w1.unset refl
  where
    by : (unset : Bool) → w1.unset ≡ unset → HasBank (w3.world unit)
    by false is =
        let n1 = noisy_as unit w0 w1 x1 (Dtr1 1) got1.frame_is c1 in
        let n2 = noisy_as unit w2 w3 x2 (AskDtr1 unit) got2.frame_is c2 in
        let one = heard_bank unit (w0.world unit) (w1.world unit) (n1.settled is) in
        bank_kept w2.world (AskDtr1 unit) n2.given w3.world unit tt tt n2.carries
        (bank_drifts unit w1 w2 drifts one)
    by true is =
        let n2 = noisy_as unit w2 w3 x2 (AskDtr1 unit) got2.frame_is c2 in
        λ on. asked1 w2.world unit 1 w3.world
        (truly unit w2 w3 (AskDtr1 unit) x2.answer 1 (drifts_unset unit w1 w2 drifts ∙ is) got2.meets n2)

-- a question about a register
abbrev IsQuestion : Frame → Type 0
IsQuestion (AskDtr0 to) = ⊤
IsQuestion (AskDtr1 to) = ⊤
IsQuestion other = ⊥

question_same : (at : ℕ) (old : Gear) (frame : Frame) (answer : Option ℕ) (new : Gear) → IsQuestion frame
    → Obeys at old frame answer new → new ≡ old
question_same at old (AskDtr0 to) answer new asks (inl obeys) = obeys.1.0
question_same at old (AskDtr0 to) answer new asks (inr obeys) = obeys.1.0
question_same at old (AskDtr1 to) answer new asks (inl obeys) = obeys.1.0
question_same at old (AskDtr1 to) answer new asks (inr obeys) = obeys.1.0
question_same at old (Dtr0 byte) answer new asks obeys = absurd asks
question_same at old (Dtr1 byte) answer new asks obeys = absurd asks
question_same at old (Dtr2 byte) answer new asks obeys = absurd asks
question_same at old (AskDtr2 to) answer new asks obeys = absurd asks
question_same at old (Read to) answer new asks obeys = absurd asks
question_same at old (Write byte) answer new asks obeys = absurd asks
question_same at old (WriteSilent byte) answer new asks obeys = absurd asks
question_same at old (Enable to) answer new asks obeys = absurd asks
question_same at old (Other word) answer new asks obeys = absurd asks

pub question_dtr0 : (at : ℕ) (old : Option Gear) (frame : Frame) (new : Option Gear) → IsQuestion frame
    → MayHear at old frame new → dtr0_in new ≡ dtr0_in old
question_dtr0 at None frame None asks hears = refl
question_dtr0 at (Some old) frame (Some new) asks (inl same) = ap (λ (g : Gear). Some g.dtr0) same
question_dtr0 at (Some old) frame (Some new) asks (inr heard) =
    let h = heard.1 in
    ap Some ((end_steady h.obeyed new h.ends).dtr0
    ∙ ap (λ (g : Gear). g.dtr0) (question_same at old frame heard.0 h.obeyed asks h.obeys))
question_dtr0 at None frame (Some new) asks hears = absurd hears
question_dtr0 at (Some old) frame None asks hears = absurd hears

place_kept : (old : World) (frame : Frame) (location : ℕ) (given : Option ℕ) (new : World) (unit : ℕ)
    → IsQuestion frame → LeavesDtr1 frame
    → Carry old frame given new → HasPlace location (old unit) → HasPlace location (new unit)
place_kept old frame location given new unit asks leaves carry place = λ bank.
    question_dtr0 unit (old unit) frame (new unit) asks (carry.units unit)
    ∙ place (sym (carry_dtr1 old frame given new leaves carry unit) ∙ bank)

-- DTR0 is the location, or what the unit tells of it is true
abbrev PlaceOrUnset : ℕ → ℕ → Noisy → Type 0
PlaceOrUnset unit location state = HasPlace location (state.world unit) ⊎ (state.unset ≡ true)

place_set : {made : Bool} (unit location : ℕ) (old new : Noisy) (x : Exchange) → Got x (Dtr0 location) Nothing
    → NoisyCarry made unit old x.frame x.answer new → PlaceOrUnset unit location new
place_set unit location old new x got c = by new.unset refl
  where
    by : (unset : Bool) → new.unset ≡ unset → PlaceOrUnset unit location new
    by false is =
        let n = noisy_as unit old new x (Dtr0 location) got.frame_is c in
        inl (heard_place unit location (old.world unit) (new.world unit) (n.settled is))
    by true is = inr is

place_drifts : {made : Bool} {loses : ℕ → Type 0} (unit location : ℕ) (first last : Noisy)
    → Drifts (NoisyStep made unit) loses first last → PlaceOrUnset unit location first → PlaceOrUnset unit location last
place_drifts unit location first last drifts (inl place) =
    inl (drifts_have (HasPlace location) (off_place location) unit first.world last.world
    (noisy_drifts unit first last drifts) place)
place_drifts unit location first last drifts (inr is) = inr (drifts_unset unit first last drifts ∙ is)

-- the question about DTR1 leaves it so
place_stays : {made : Bool} (unit location : ℕ) (old new : Noisy) (x : Exchange) → Got x (AskDtr1 unit) (Exactly 1)
    → NoisyCarry made unit old x.frame x.answer new → PlaceOrUnset unit location old → PlaceOrUnset unit location new
place_stays {made} unit location old new x got c place = by place new.unset refl
  where
    n : NoisyCarry made unit old (AskDtr1 unit) x.answer new
    n = noisy_as unit old new x (AskDtr1 unit) got.frame_is c

    by : PlaceOrUnset unit location old → (unset : Bool) → new.unset ≡ unset → PlaceOrUnset unit location new
    by (inl place) unset is =
        inl (place_kept old.world (AskDtr1 unit) location n.given new.world unit tt tt n.carries place)
    by (inr was) false is = absurd (both_ways old.unset (n.settled is) was)
    by (inr was) true is = inr is

-- and after the question about DTR0 the unit is there
told_at : {made : Bool} {loses : ℕ → Type 0} (unit location : ℕ) (old new last : Noisy) (x : Exchange)
    → Got x (AskDtr0 unit) (Exactly location) → NoisyCarry made unit old x.frame x.answer new
    → Drifts (NoisyStep made unit) loses new last → HasBank (old.world unit) → PlaceOrUnset unit location old
    → IsAt location (last.world unit)
told_at unit location old new last x got c drifts bank place =
    let n = noisy_as unit old new x (AskDtr0 unit) got.frame_is c in
    let there : HasPlace location (new.world unit) = elim place [
      | inl place ↦ place_kept old.world (AskDtr0 unit) location n.given new.world unit tt tt n.carries place
      | inr is ↦ λ bank. asked0 old.world unit location new.world
          (truly unit old new (AskDtr0 unit) x.answer location is got.meets n)
    ] in
    at_drifts location unit new last drifts
    (bank_kept old.world (AskDtr0 unit) n.given new.world unit tt tt n.carries bank, there)

-- one frame that leaves DTR1
pub step_bank : {made : Bool} {loses : ℕ → Type 0} (unit : ℕ) (w0 w1 w2 : Noisy) (x : Exchange)
    (frame : Frame) → x.frame ≡ frame
    → LeavesDtr1 frame → IsQuiet unit frame → NoisyCarry made unit w0 x.frame x.answer w1
    → Drifts (NoisyStep made unit) loses w1 w2 → HasBank (w0.world unit) → HasBank (w2.world unit)
step_bank unit w0 w1 w2 x frame is leaves quiet c drifts bank =
    let n = noisy_as unit w0 w1 x frame is c in
    bank_drifts unit w1 w2 drifts (bank_kept w0.world frame n.given w1.world unit leaves quiet n.carries bank)

-- both registers were set and asked back
pub selects_noisy : (made : Bool) (loses : ℕ → Type 0) (unit location : ℕ) (tried : List Exchange) (first last : Noisy)
    → Leads (NoisyStep made unit) loses tried first last → Trying (select_requests unit location) tried []
    → IsAt location (last.world unit)
selects_noisy made loses unit location tried first last run try =
    let s = selected unit location tried try in
    let r4 = subst (λ (t : List Exchange). Leads (NoisyStep made unit) loses t first last) s.is run in
    let r3 = r4.2 in
    let r2 = r3.2 in
    let r1 = r2.2 in
    let bank = bank_drifts unit r2.1 r3.0 r2.4
    (bank_sure unit r1.0 r1.1 r2.0 r2.1 s.x1 s.x2 s.got1 s.got2 r1.3 r1.4 r2.3) in
    told_at unit location r4.0 r4.1 last s.x4 s.got4 r4.3 r4.4
    (step_bank unit r3.0 r3.1 r4.0 s.x3 (Dtr0 location) s.got3.frame_is tt tt r3.3 r3.4 bank)
    (place_drifts unit location r3.1 r4.0 r3.4 (place_set unit location r3.0 r3.1 s.x3 s.got3 r3.3))

-- both were asked, at a unit that a write left there
pub asked_noisy : (made : Bool) (loses : ℕ → Type 0) (unit before location : ℕ) (tried : List Exchange)
    (first last : Noisy)
    → IsAt before (first.world unit)
    → Leads (NoisyStep made unit) loses tried first last → (moved : Bool) → (moved ≡ true → before ≡ location)
    → Trying (asked_requests moved unit location) tried []
    → IsAt location (last.world unit)
asked_noisy made loses unit before location tried first last at run true is try =
    let s = questioned unit location tried try in
    let r2 = subst (λ (t : List Exchange). Leads (NoisyStep made unit) loses t first last) s.is run in
    let r1 = r2.2 in
    let at0 = at_drifts before unit first r1.0 r1.2 at in
    let n1 = noisy_as unit r1.0 r1.1 s.x1 (AskDtr1 unit) s.got1.frame_is r1.3 in
    let n2 = noisy_as unit r2.0 r2.1 s.x2 (AskDtr0 unit) s.got2.frame_is r2.3 in
    let at1 : IsAt before (r1.1.world unit) = (
      bank_kept r1.0.world (AskDtr1 unit) n1.given r1.1.world unit tt tt n1.carries at0.0,
      place_kept r1.0.world (AskDtr1 unit) before n1.given r1.1.world unit tt tt n1.carries at0.1,
    ) in
    let at2 = at_drifts before unit r1.1 r2.0 r1.4 at1 in
    let at3 : IsAt before (r2.1.world unit) = (
      bank_kept r2.0.world (AskDtr0 unit) n2.given r2.1.world unit tt tt n2.carries at2.0,
      place_kept r2.0.world (AskDtr0 unit) before n2.given r2.1.world unit tt tt n2.carries at2.1,
    ) in
    subst (λ (l : ℕ). IsAt l (last.world unit)) (is refl) (at_drifts before unit r2.1 last r2.4 at3)
asked_noisy made loses unit before location tried first last at run false is try =
    let s = jumped unit location tried try in
    let r3 = subst (λ (t : List Exchange). Leads (NoisyStep made unit) loses t first last) s.is run in
    let r2 = r3.2 in
    let r1 = r2.2 in
    let bank1 = step_bank unit r1.0 r1.1 r2.0 s.x1 (Dtr0 location) s.got1.frame_is tt tt r1.3 r1.4
    (at_drifts before unit first r1.0 r1.2 at).0 in
    let bank2 = step_bank unit r2.0 r2.1 r3.0 s.x2 (AskDtr1 unit) s.got2.frame_is tt tt r2.3 r2.4 bank1 in
    let place1 = place_drifts unit location r1.1 r2.0 r1.4 (place_set unit location r1.0 r1.1 s.x1 s.got1 r1.3) in
    let place2 = place_drifts unit location r2.1 r3.0 r2.4
    (place_stays unit location r2.0 r2.1 s.x2 s.got2 r2.3 place1) in
    told_at unit location r3.0 r3.1 last s.x3 s.got3 r3.3 r3.4 bank2 place2

-- A write at a unit that has the location selected if it is enabled

pub here_at : (unit location byte : ℕ) (old new : Option Gear) → IsAt location old → MayHear unit old (Write byte) new
    → (memory_of new ≡ memory_of old) ⊎ Written location byte (memory_of old) (memory_of new)
here_at unit location byte None None at hears = inl refl
here_at unit location byte None (Some new) at hears = absurd hears
here_at unit location byte (Some old) None at hears = absurd hears
here_at unit location byte (Some old) (Some new) at hears = by old.enabled refl
  where
    by : (on : Bool) → old.enabled ≡ on
        → (Some new.memory ≡ Some old.memory) ⊎ Written location byte (Some old.memory) (Some new.memory)
    by false off = inl (off_write_here unit (Some old) byte (Some new) off hears)
    by true on =
        let has = stands_selected location old (Some old) refl on at.0 at.1 in
        elim (write_here unit old location byte new has.0 has.1 hears) [
          | inl same ↦ inl (ap Some same)
          | inr stored_it ↦ inr stored_it
        ]

-- a write that was answered moved DTR0 on, and left DTR1
write_moves : (at : ℕ) (old : Gear) (byte v : ℕ) (new : Gear) → Hears at old (Write byte) (Some v) new
    → old.dtr1 ≡ 1 → (new.dtr1 ≡ 1) × (new.dtr0 ≡ up old.dtr0)
write_moves at old byte v new h one = grind (arith, end_steady h.obeyed new h.ends)

pub record IsStored (location byte unit : ℕ) (old new : World) : Type 0 where
  pub written : Written location byte (memory_at old unit) (memory_at new unit)
  pub at : IsAt (up location) (new unit)

-- a write that was answered is stored
pub answered_at : (unit location byte v : ℕ) (old new : World) → IsAt location (old unit) → OnlyEnabled unit old
    → Carry old (Write byte) (Some v) new → IsStored location byte unit old new
answered_at unit location byte v old new at only carry =
    let a = carry.answers in
    let answered = write_answered a.address a.before byte v a.after a.hears in
    elim (same_or_not a.address unit) [
      | inr other ↦ absurd (off_not_on old a.address a.before a.was answered.0 (only a.address other))
      | inl same ↦
          let was : old unit ≡ Some a.before = rw same at a.was in
          let is : new unit ≡ Some a.after = rw same at a.is in
          let has = stands_selected location a.before (old unit) was answered.0 at.0 at.1 in
          let moves = write_moves a.address a.before byte v a.after a.hears has.1 in
          record {
            written = rw (was, is) (answered.1 location has.0 has.1);
            at = rw is ((λ on. ap Some moves.0), (λ bank. ap Some (moves.1 ∙ ap up has.0)));
          }
    ]

-- what a bus does that alters none, one that may alter them does too
plain_step : (made : Bool) (unit : ℕ) (old : World) (event : BusEvent) (new : World) → WorldStep old event new
    → NoisyStep made unit (as_noisy old) event (as_noisy new)
plain_step made unit old (Carried frame answer) new carry =
    record {
      given = answer;
      carries = carry;
      altered = λ made_up accesses. refl;
      unaltered = λ unset. refl;
      settled = λ set. absurd (both_ways true set refl);
    }
plain_step made unit old (Powered address) new lost = (lost, refl)

pub plain_run : (made : Bool) {loses : ℕ → Type 0} (unit : ℕ) (told : List Exchange) (first last : World)
    → Run WorldStep loses told first last → Run (NoisyStep made unit) loses told (as_noisy first) (as_noisy last)
plain_run made unit told first last run =
    record {
      past = run.past;
      told_is = run.told_is;
      among = run.among;
      chain = record {
        states = map as_noisy run.chain.states;
        steps = shown_chain WorldStep (NoisyStep made unit) as_noisy (plain_step made unit) first run.past last
            run.chain.states
            run.chain.steps;
      };
    }

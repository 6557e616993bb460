-- Checked reads tell the truth, and guarded writes are safe.
use Rattle.std.proofs.Common.{◌≡◌, ◌⊎◌, refl, ap, subst, ◌∙◌, inl, inr, ℕ, true, false, List, [], ◌∷◌, ◌++◌}
use Rattle.std.proofs.Common.{Option, Some, None, arith}
use Rattle.std.specs.Prelude.{◌≢◌, Bool}
use Rattle.std.proofs.Math.Dec.{eqb}
use Rattle.std.proofs.lemmas.Bool.{eqb-true, eqb-false}
use Rattle.dali_frame.specs.declared.forward.Frame.{Frame}
use Rattle.dali_frame.specs.declared.forward.Frame.TheVariants.{Dtr0, AskDtr0, AskDtr1, Read, Write}
use Rattle.dali_bus.specs.World.{World, Gear, byte_in}
use Rattle.dali_bus.proofs.OpenLemmas.{is_open}
use Rattle.dali_bus.specs.Hears.{Hears, MayEnd, Stores}
use Rattle.dali_bus.specs.Hears.{selected as selected_byte}
use Rattle.dali_bus.specs.Carry.{Carry, MayHear, Heard}
use Rattle.dali_write.specs.Exchanges.{Exchange}
use Rattle.dali_write.specs.Requests.{select_requests}
use Rattle.dali_write.specs.Tries.{Trying}
use Rattle.dali_write.specs.Worlds.{Shows, KeepsAt, Asked, Selects, OnlyEnabled, MayWrite}
use Rattle.dali_write.specs.Worlds.{memory_at, Written}
use Rattle.dali_write.proofs.GearLemmas.{asked1, asked0, carry_dtr1, carry_stays, IsQuiet, passing_keeps, end_steady}
use Rattle.dali_write.proofs.GearLemmas.{dtr0_in, dtr1_in, IsOff, memory_of}
use Rattle.dali_write.proofs.PowerLemmas.{drifts_have, drifts_keep, keeps_then, stays_keeps}
use Rattle.dali_write.proofs.ShapeLemmas.{Got, selected, questioned}
use Rattle.dali_write.specs.declared.request.Wish.TheVariants.{Exactly}
use Rattle.dali_write.proofs.AskedLemmas.{Sent}
use Rattle.dali_write.proofs.RunLemmas.{Leads, Drifts, Stays}
use Rattle.dali_bus.specs.Carry.{WorldStep}

-- a run in two parts
pub split : (loses : ℕ → Type 0) (newer older : List Exchange) (first last : World)
    → Leads WorldStep loses (newer ++ older) first last
    → (mid : World) × Leads WorldStep loses older first mid × Leads WorldStep loses newer mid last
split loses [] older first last run = (last, run, Stays)
split loses (x ∷ newer) older first last run = grind (arith, split _ newer older first run.0 run.2)

pub carried : (old new : World) (x : Exchange) (frame : Frame) (answer : Option ℕ) → x.frame ≡ frame → x.answer ≡ answer
    → Carry old x.frame x.answer new → Carry old frame answer new
carried old new x frame answer f a carry = grind arith

carried_any : (old new : World) (x : Exchange) (frame : Frame) → x.frame ≡ frame → Carry old x.frame x.answer new
    → Carry old frame x.answer new
carried_any old new x frame f carry = subst (λ (g : Frame). Carry old g x.answer new) f carry

-- The state that a unit still has after some of the frames, as long as it keeps its power

-- one that is enabled has the bank
abbrev pub HasBank : Option Gear → Type 0
HasBank gear = is_open gear ≡ true → dtr1_in gear ≡ Some 1

-- one that has the bank has the location
abbrev pub HasPlace : ℕ → Option Gear → Type 0
HasPlace location gear = dtr1_in gear ≡ Some 1 → dtr0_in gear ≡ Some location

pub off_bank : (gear : Option Gear) → is_open gear ≡ false → (dtr1_in gear ≡ Some 1 → ⊥) → HasBank gear
off_bank gear off gone on = let never = off in cc

pub off_place : (location : ℕ) (gear : Option Gear) → is_open gear ≡ false → (dtr1_in gear ≡ Some 1 → ⊥)
    → HasPlace location gear
off_place location gear off gone bank = absurd (gone bank)

pub was_on : (old new : World) (frame : Frame) (answer : Option ℕ) (unit : ℕ) → IsQuiet unit frame
    → Carry old frame answer new → is_open (new unit) ≡ true → is_open (old unit) ≡ true
was_on old new frame answer unit quiet carry on = grind (arith, is_open, carry_stays)

-- the unit told that DTR0 is the location, and no frame came since
asked_last : (loses : ℕ → Type 0) (unit location : ℕ) (old new last : World) (x : Exchange)
    → HasBank (old unit) → Got x (AskDtr0 unit) (Exactly location) → Carry old x.frame x.answer new
    → Drifts WorldStep loses new last → HasBank (last unit) × HasPlace location (last unit)
asked_last loses unit location old new last x bank got carry drifts =
    let c = carried old new x (AskDtr0 unit) (Some location) got.frame_is got.meets carry in
    let bank_then : HasBank (new unit) = λ on.
    carry_dtr1 old (AskDtr0 unit) (Some location) new tt c unit
    ∙ bank (was_on old new (AskDtr0 unit) (Some location) unit tt c on) in
    let place_then : HasPlace location (new unit) = λ has. asked0 old unit location new c in (
      drifts_have HasBank off_bank unit new last drifts bank_then,
      drifts_have (HasPlace location) (off_place location) unit new last drifts place_then,
    )

-- the unit told that DTR1 is 01h
asked_first : (loses : ℕ → Type 0) (unit : ℕ) (old new last : World) (x : Exchange)
    → Got x (AskDtr1 unit) (Exactly 1) → Carry old x.frame x.answer new → Drifts WorldStep loses new last
    → HasBank (last unit)
asked_first loses unit old new last x got carry drifts =
    let one = asked1 old unit 1 new (carried old new x (AskDtr1 unit) (Some 1) got.frame_is got.meets carry) in
    drifts_have HasBank off_bank unit new last drifts (λ on. one)

-- after the four frames the unit has selected the location
pub selects_run : (loses : ℕ → Type 0) (unit location : ℕ) (tried : List Exchange) (first last : World)
    → Leads WorldStep loses tried first last → Trying (select_requests unit location) tried []
    → HasBank (last unit) × HasPlace location (last unit)
selects_run loses unit location tried first last run try =
    let s = selected unit location tried try in
    let r4 = subst (λ (t : List Exchange). Leads WorldStep loses t first last) s.is run in
    let r3 = r4.2 in
    let r2 = r3.2 in
    let bank2 = asked_first loses unit r2.0 r2.1 r3.0 s.x2 s.got2 r2.3 r2.4 in
    let c3 = carried_any r3.0 r3.1 s.x3 (Dtr0 location) s.got3.frame_is r3.3 in
    let bank3 : HasBank (r3.1 unit) = λ on.
    carry_dtr1 r3.0 (Dtr0 location) s.x3.answer r3.1 tt c3 unit
    ∙ bank2 (was_on r3.0 r3.1 (Dtr0 location) s.x3.answer unit tt c3 on) in
    asked_last loses unit location r4.0 r4.1 last s.x4 (drifts_have HasBank off_bank unit r3.1 r4.0 r3.4 bank3) s.got4
    r4.3 r4.4

-- if both registers were asked back, the unit has selected the location if it is enabled
pub asked_run : (loses : ℕ → Type 0) (unit location : ℕ) (tried : List Exchange) (first last : World)
    → Leads WorldStep loses tried first last → Asked unit location tried
    → HasBank (last unit) × HasPlace location (last unit)
asked_run loses unit location tried first last run (inl try) =
    let s = questioned unit location tried try in
    let r2 = subst (λ (t : List Exchange). Leads WorldStep loses t first last) s.is run in
    let r1 = r2.2 in
    asked_last loses unit location r2.0 r2.1 last s.x2
    (asked_first loses unit r1.0 r1.1 r2.0 s.x1 s.got1 r1.3 r1.4) s.got2 r2.3 r2.4
asked_run loses unit location tried first last run (inr try) =
    selects_run loses unit location tried first last run try

-- what an answered read tells of a unit that has bank 1 selected
abbrev IsRead : Gear → ℕ → Gear → Type 0
IsRead old v new =
    old.dtr1 ≡ 1 → (selected_byte old ≡ Some v) × (new.enabled ≡ false) × (new.memory ≡ old.memory)

answers_read : (at : ℕ) (old : Gear) (to v : ℕ) (new : Gear) → Hears at old (Read to) (Some v) new
    → (to ≡ at) × IsRead old v new
answers_read at old to v new h = grind (arith, end_steady h.obeyed new h.ends)

-- what a read tells of a unit that has the bank and the location
pub shown : (old : World) (unit location byte : ℕ) (new : World) → Carry old (Read unit) (Some byte) new
    → dtr1_in (old unit) ≡ Some 1 → dtr0_in (old unit) ≡ Some location
    → (byte_in (new unit) 1 location ≡ Some byte) × (is_open (new unit) ≡ false)
shown old unit location byte new carry bank place = grind (arith, answers_read, dtr1_in, dtr0_in)

-- and that it was there when the read reached the unit
pub held_then : (old : World) (unit location byte : ℕ) (new : World) → Carry old (Read unit) (Some byte) new
    → dtr1_in (old unit) ≡ Some 1 → dtr0_in (old unit) ≡ Some location → byte_in (old unit) 1 location ≡ Some byte
held_then old unit location byte new carry bank place = grind (arith, answers_read, dtr1_in, dtr0_in)

pub shows_now : {loses : ℕ → Type 0} (world : World) (unit location byte : ℕ) (gear : Option Gear) → world unit ≡ gear
    → (byte_in gear 1 location ≡ Some byte) × (is_open gear ≡ false) → Shows loses world unit location byte
shows_now world unit location byte None is holds = let never = holds.0 in cc
shows_now world unit location byte (Some gear) is holds = grind arith

pub run_keeps : {loses : ℕ → Type 0} (told : List Exchange) (first last : World) (address : ℕ)
    → Sent (IsQuiet address) told
    → Leads WorldStep loses told first last → KeepsAt loses first last address
run_keeps [] first last address quiet run = drifts_keep first last run address
run_keeps (x ∷ told) first last address quiet run =
    grind (
      arith,
      keeps_then first run.0 last address (run_keeps told first run.0 address quiet.1 run.2) (keeps_then
          run.0 run.1 last address (stays_keeps run.0 run.1 address (carry_stays run.0 x.frame x.answer run.1 address
          quiet.0 run.3)) (drifts_keep run.1 last run.4 address)),
    )

-- a unit that isn't enabled stores nothing
off_write : (at : ℕ) (old : Gear) (byte : ℕ) (new : Gear) → old.enabled ≡ false → Heard at old (Write byte) new
    → new.memory ≡ old.memory
off_write at old byte new off heard = grind (arith, end_steady, passing_keeps)

pub off_write_here : (at : ℕ) (old : Option Gear) (byte : ℕ) (new : Option Gear) → IsOff old
    → MayHear at old (Write byte) new → memory_of new ≡ memory_of old
off_write_here at None byte None off hears = refl
off_write_here at (Some old) byte (Some new) off (inl same) = ap (λ (g : Gear). Some g.memory) same
off_write_here at (Some old) byte (Some new) off (inr heard) = ap Some (off_write at old byte new off heard)
off_write_here at None byte (Some new) off hears = absurd hears
off_write_here at (Some old) byte None off hears = absurd hears

pub same_or_not : (a b : ℕ) → (a ≡ b) ⊎ (a ≢ b)
same_or_not a b = grind (arith, eqb, eqb-true, eqb-false)

-- the unit stored the byte where it had selected
stored_there : (old : Gear) (location byte : ℕ) (obeyed new : Gear) → old.dtr0 ≡ location → old.dtr1 ≡ 1
    → Stores byte old obeyed → MayEnd obeyed new
    → Written location byte (Some old.memory) (Some new.memory)
stored_there old location byte obeyed new zero one stores ends = grind (arith, end_steady obeyed new ends)

pub write_here : (at : ℕ) (old : Gear) (location byte : ℕ) (new : Gear) → old.dtr0 ≡ location → old.dtr1 ≡ 1
    → (new ≡ old) ⊎ Heard at old (Write byte) new
    → (new.memory ≡ old.memory) ⊎ Written location byte (Some old.memory) (Some new.memory)
write_here at old location byte new zero one (inl same) = inl (ap (λ (g : Gear). g.memory) same)
write_here at old location byte new zero one (inr heard) = grind (arith, stored_there, end_steady, passing_keeps)

-- a unit that answers a write was enabled, and has stored the byte
pub write_answered : (at : ℕ) (old : Gear) (byte v : ℕ) (new : Gear) → Hears at old (Write byte) (Some v) new
    → (old.enabled ≡ true)
    × ((location : ℕ) → old.dtr0 ≡ location → old.dtr1 ≡ 1 → Written location byte (Some old.memory) (Some new.memory))
write_answered at old byte v new h = grind (arith, stored_there)

pub off_not_on : (world : World) (address : ℕ) (gear : Gear) → world address ≡ Some gear → gear.enabled ≡ true
    → IsOff (world address) → ⊥
off_not_on world address gear is on off = let e : gear.enabled ≡ false = rw is at off in cc

pub stands_selected : (location : ℕ) (gear : Gear) (seen : Option Gear) → seen ≡ Some gear → gear.enabled ≡ true
    → HasBank seen → HasPlace location seen → (gear.dtr0 ≡ location) × (gear.dtr1 ≡ 1)
stands_selected location gear seen is on bank place = grind (arith, is_open, dtr1_in, dtr0_in)

-- a unit that is enabled after it was made sure to have selected the location has it selected
selected_after : (loses : ℕ → Type 0) (told : List Exchange) (first before : World) (unit location : ℕ) (gear : Gear)
    → Leads WorldStep loses told first before → Selects unit location told → before unit ≡ Some gear
    → gear.enabled ≡ true
    → (gear.dtr0 ≡ location) × (gear.dtr1 ≡ 1)
selected_after loses told first before unit location gear run selects is on =
    let r = split loses selects.0 selects.1 first before
    (subst (λ (t : List Exchange). Leads WorldStep loses t first before) selects.2 run) in
    let has = asked_run loses unit location selects.0 r.0 before r.2 selects.3 in
    stands_selected location gear (before unit) is on has.0 has.1

-- the unit that answered is the only one that can be enabled
answer_here : (loses : ℕ → Type 0) (told : List Exchange) (first before : World) (unit location byte v : ℕ)
    (last : World) → Leads WorldStep loses told first before → Selects unit location told
    → OnlyEnabled unit before → Carry before (Write byte) (Some v) last
    → Written location byte (memory_at before unit) (memory_at last unit)
answer_here loses told first before unit location byte v last run selects only carry =
    let a = carry.answers in
    let answered = write_answered a.address a.before byte v a.after a.hears in
    elim (same_or_not a.address unit) [
      | inr other ↦ absurd (off_not_on before a.address a.before a.was answered.0 (only a.address other))
      | inl same ↦
          let was : before unit ≡ Some a.before = rw same at a.was in
          let is : last unit ≡ Some a.after = rw same at a.is in
          let at = selected_after _ told first before unit location a.before run selects was answered.0 in
          rw (was, is) (answered.1 location at.0 at.1)
    ]

-- at the unit itself, whether it is enabled or not
here_on : (loses : ℕ → Type 0) (told : List Exchange) (first before last : World) (unit location byte : ℕ)
    → Leads WorldStep loses told first before → Selects unit location told → (old : Option Gear) → before unit ≡ old
    → (new : Option Gear) → last unit ≡ new → MayHear unit old (Write byte) new
    → (memory_of new ≡ memory_of old) ⊎ Written location byte (memory_of old) (memory_of new)
here_on loses told first before last unit location byte run selects None was None is hears = inl refl
here_on loses told first before last unit location byte run selects None was (Some new) is hears = absurd hears
here_on loses told first before last unit location byte run selects (Some old) was None is hears = absurd hears
here_on loses told first before last unit location byte run selects (Some old) was (Some new) is hears =
    by old.enabled refl
  where
    by : (on : Bool) → old.enabled ≡ on
        → (Some new.memory ≡ Some old.memory) ⊎ Written location byte (Some old.memory) (Some new.memory)
    by false off = inl (off_write_here unit (Some old) byte (Some new) off hears)
    by true on =
        let at = selected_after _ told first before unit location old run selects was on in
        elim (write_here unit old location byte new at.0 at.1 hears) [
          | inl same ↦ inl (ap Some same)
          | inr stored_it ↦ inr stored_it
        ]

pub write_safe : (loses : ℕ → Type 0) (told : List Exchange) (first before last : World) (unit location byte : ℕ)
    (answer : Option ℕ) → Leads WorldStep loses told first before → Selects unit location told → OnlyEnabled unit before
    → Carry before (Write byte) answer last
    → MayWrite before unit location byte answer last
write_safe loses told first before last unit location byte answer run selects only carry =
    grind (
      arith,
      off_write_here,
      here_on _ told first before last unit location byte run selects (before unit) refl
          (last unit) refl (carry.units unit),
      answer_here,
    )

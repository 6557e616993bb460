-- The effect of frames on one unit.
use Rattle.std.proofs.Common.{◌≡◌, ◌⊎◌, refl, sym, ap, ◌∙◌, inl, inr, ℕ, false, Option, Some, None, is_some}
use Rattle.std.specs.Prelude.{◌≢◌, ⊤}
use Rattle.std.specs.Option.{option_map}
use Rattle.dali_frame.specs.declared.forward.Frame.{Frame}
use Rattle.dali_frame.specs.declared.forward.Frame.TheVariants.{Dtr0, Dtr1, Dtr2, Write, WriteSilent, Enable, AskDtr0}
use Rattle.dali_frame.specs.declared.forward.Frame.TheVariants.{AskDtr1, AskDtr2, Read, Other}
use Rattle.dali_bus.specs.World.{World, Gear, Memory, byte_in}
use Rattle.dali_bus.proofs.OpenLemmas.{is_open}
use Rattle.dali_bus.specs.Hears.{Hears, Obeys, MayEnd, AnswersRegister, Ignores, PassesBy}
use Rattle.dali_bus.specs.Carry.{Carry, MayHear, Heard}
use Rattle.dali_write.specs.Worlds.{memory_at}

-- the memory of the unit, if there is one
abbrev pub memory_of : Option Gear → Option Memory
memory_of unit = option_map (λ gear. gear.memory) unit

-- there is no unit, or it isn't write-enabled
abbrev pub IsOff : Option Gear → Type 0
IsOff gear = is_open gear ≡ false

-- the memory stays, and it isn't newly enabled
pub record Keeps (old new : Gear) : Type 0 where
  pub memory : new.memory ≡ old.memory
  pub off : old.enabled ≡ false → new.enabled ≡ false

-- and the registers stay
pub record Steady (old new : Gear) : Type 0 where
  pub dtr0 : new.dtr0 ≡ old.dtr0
  pub dtr1 : new.dtr1 ≡ old.dtr1
  pub keeps : Keeps old new

pub same_steady : (old new : Gear) → new ≡ old → Steady old new
same_steady old new same =
    rw same (record { dtr0 = refl; dtr1 = refl; keeps = record { memory = refl; off = λ off. off } })

pub end_steady : (old new : Gear) → MayEnd old new → Steady old new
end_steady old new (inl same) = same_steady old new same
end_steady old new (inr ended) =
    rw ended (record { dtr0 = refl; dtr1 = refl; keeps = record { memory = refl; off = λ off. refl } })

keeps_on : (a b c : Gear) → Keeps a b → Keeps b c → Keeps a c
keeps_on a b c first then = record { memory = then.memory ∙ first.memory; off = λ off. then.off (first.off off) }

-- the frame writes nothing, and doesn't enable the unit at this address
abbrev pub IsQuiet : ℕ → Frame → Type 0
IsQuiet at (Dtr0 b) = ⊤
IsQuiet at (Dtr1 b) = ⊤
IsQuiet at (Dtr2 b) = ⊤
IsQuiet at (Write b) = ⊥
IsQuiet at (WriteSilent b) = ⊥
IsQuiet at (Enable to) = to ≢ at
IsQuiet at (AskDtr0 to) = ⊤
IsQuiet at (AskDtr1 to) = ⊤
IsQuiet at (AskDtr2 to) = ⊤
IsQuiet at (Read to) = ⊤
IsQuiet at (Other w) = ⊥

same_keeps : (old new : Gear) → new ≡ old → Keeps old new
same_keeps old new same = (same_steady old new same).keeps

pub passing_keeps : (old new : Gear) (answer : Option ℕ) → PassesBy old answer new → Keeps old new
passing_keeps old new answer passes = rw passes.2 (record { memory = refl; off = λ off. off })

obeying_keeps : (at : ℕ) (old : Gear) (frame : Frame) (answer : Option ℕ) (new : Gear) → IsQuiet at frame
    → Obeys at old frame answer new → Keeps old new
obeying_keeps at old (Dtr0 b) answer new quiet obeys = rw obeys.0 (record { memory = refl; off = λ off. off })
obeying_keeps at old (Dtr1 b) answer new quiet obeys = rw obeys.0 (record { memory = refl; off = λ off. off })
obeying_keeps at old (Dtr2 b) answer new quiet obeys = rw obeys.0 (record { memory = refl; off = λ off. off })
obeying_keeps at old (Write b) answer new quiet obeys = absurd quiet
obeying_keeps at old (WriteSilent b) answer new quiet obeys = absurd quiet
obeying_keeps at old (Enable to) answer new quiet (inl obeys) = absurd (quiet obeys.0)
obeying_keeps at old (Enable to) answer new quiet (inr obeys) = same_keeps old new obeys.0
obeying_keeps at old (AskDtr0 to) answer new quiet (inl obeys) = same_keeps old new obeys.1.0
obeying_keeps at old (AskDtr0 to) answer new quiet (inr obeys) = same_keeps old new obeys.1.0
obeying_keeps at old (AskDtr1 to) answer new quiet (inl obeys) = same_keeps old new obeys.1.0
obeying_keeps at old (AskDtr1 to) answer new quiet (inr obeys) = same_keeps old new obeys.1.0
obeying_keeps at old (AskDtr2 to) answer new quiet (inl obeys) = same_keeps old new obeys.1.0
obeying_keeps at old (AskDtr2 to) answer new quiet (inr obeys) = same_keeps old new obeys.1.0
obeying_keeps at old (Read to) answer new quiet (inl (is, inl read)) =
    rw read.2 (record { memory = refl; off = λ off. refl })
obeying_keeps at old (Read to) answer new quiet (inl (is, inr (inl nothing))) = passing_keeps old new answer nothing.1
obeying_keeps at old (Read to) answer new quiet (inl (is, inr (inr aside))) = passing_keeps old new None aside.2
obeying_keeps at old (Read to) answer new quiet (inr obeys) = same_keeps old new obeys.1.0
obeying_keeps at old (Other w) answer new quiet obeys = absurd quiet

pub hearing_keeps : (at : ℕ) (old : Gear) (frame : Frame) (new : Gear) → IsQuiet at frame → Heard at old frame new
    → Keeps old new
hearing_keeps at old frame new quiet heard =
    let h = heard.1 in
    keeps_on old h.obeyed new (obeying_keeps at old frame heard.0 h.obeyed quiet h.obeys)
    (end_steady h.obeyed new h.ends).keeps

-- a quiet frame at one address
quiet_here : (at : ℕ) (old : Option Gear) (frame : Frame) (new : Option Gear) → IsQuiet at frame
    → MayHear at old frame new
    → (memory_of new ≡ memory_of old) × (IsOff old → IsOff new)
quiet_here at None frame None quiet hears = (refl, λ off. off)
quiet_here at (Some old) frame (Some new) quiet (inl same) =
    let k = same_keeps old new same in (ap Some k.memory, k.off)
quiet_here at (Some old) frame (Some new) quiet (inr heard) =
    let k = hearing_keeps at old frame new quiet heard in (ap Some k.memory, k.off)
quiet_here at None frame (Some new) quiet hears = absurd hears
quiet_here at (Some old) frame None quiet hears = absurd hears

-- the unit keeps its memory, and isn't newly enabled
pub record StaysAt (old new : World) (address : ℕ) : Type 0 where
  pub memory : memory_at new address ≡ memory_at old address
  pub off : IsOff (old address) → IsOff (new address)

pub carry_stays : (old : World) (frame : Frame) (answer : Option ℕ) (new : World) (address : ℕ) → IsQuiet address frame
    → Carry old frame answer new → StaysAt old new address
carry_stays old frame answer new address quiet carry =
    let both = quiet_here address (old address) frame (new address) quiet (carry.units address) in
    record { memory = both.0; off = both.1 }

-- the byte at a place of a memory
abbrev byte_by : Option Memory → ℕ → ℕ → Option ℕ
byte_by None bank location = None
byte_by (Some memory) bank location = memory bank location

-- a unit holds what its memory holds
by_memory : (unit : Option Gear) (bank location : ℕ)
    → byte_in unit bank location ≡ byte_by (memory_of unit) bank location
by_memory None bank location = refl
by_memory (Some gear) bank location = refl

-- if the memory stays, each place does
pub same_byte : (old new : Option Gear) → memory_of new ≡ memory_of old → (bank location : ℕ)
    → byte_in new bank location ≡ byte_in old bank location
same_byte old new same bank location =
    by_memory new bank location
    ∙ (ap (λ (m : Option Memory). byte_by m bank location) same ∙ sym (by_memory old bank location))

-- and the unit is still there
pub same_there : (old new : Option Gear) → memory_of new ≡ memory_of old → is_some new ≡ is_some old
same_there None None same = refl
same_there None (Some new) same = cc
same_there (Some old) None same = cc
same_there (Some old) (Some new) same = refl

-- The registers of a unit

abbrev pub dtr0_in : Option Gear → Option ℕ
dtr0_in None = None
dtr0_in (Some gear) = Some gear.dtr0

abbrev pub dtr1_in : Option Gear → Option ℕ
dtr1_in None = None
dtr1_in (Some gear) = Some gear.dtr1

-- the frame sets no DTR1
abbrev pub LeavesDtr1 : Frame → Type 0
LeavesDtr1 (Dtr0 byte) = ⊤
LeavesDtr1 (AskDtr0 to) = ⊤
LeavesDtr1 (AskDtr1 to) = ⊤
LeavesDtr1 (Read to) = ⊤
LeavesDtr1 other = ⊥

obeys_dtr1 : (at : ℕ) (old : Gear) (frame : Frame) (answer : Option ℕ) (new : Gear) → LeavesDtr1 frame
    → Obeys at old frame answer new → new.dtr1 ≡ old.dtr1
obeys_dtr1 at old (Dtr0 byte) answer new leaves obeys = ap (λ (g : Gear). g.dtr1) obeys.0
obeys_dtr1 at old (AskDtr0 to) answer new leaves (inl obeys) = ap (λ (g : Gear). g.dtr1) obeys.1.0
obeys_dtr1 at old (AskDtr0 to) answer new leaves (inr obeys) = ap (λ (g : Gear). g.dtr1) obeys.1.0
obeys_dtr1 at old (AskDtr1 to) answer new leaves (inl obeys) = ap (λ (g : Gear). g.dtr1) obeys.1.0
obeys_dtr1 at old (AskDtr1 to) answer new leaves (inr obeys) = ap (λ (g : Gear). g.dtr1) obeys.1.0
obeys_dtr1 at old (Read to) answer new leaves (inl (is, inl read)) = ap (λ (g : Gear). g.dtr1) read.2
obeys_dtr1 at old (Read to) answer new leaves (inl (is, inr (inl nothing))) = ap (λ (g : Gear). g.dtr1) nothing.1.2
obeys_dtr1 at old (Read to) answer new leaves (inl (is, inr (inr aside))) = ap (λ (g : Gear). g.dtr1) aside.2.2
obeys_dtr1 at old (Read to) answer new leaves (inr obeys) = ap (λ (g : Gear). g.dtr1) obeys.1.0
obeys_dtr1 at old (Dtr1 byte) answer new leaves obeys = absurd leaves
obeys_dtr1 at old (Dtr2 byte) answer new leaves obeys = absurd leaves
obeys_dtr1 at old (AskDtr2 to) answer new leaves obeys = absurd leaves
obeys_dtr1 at old (Write byte) answer new leaves obeys = absurd leaves
obeys_dtr1 at old (WriteSilent byte) answer new leaves obeys = absurd leaves
obeys_dtr1 at old (Enable to) answer new leaves obeys = absurd leaves
obeys_dtr1 at old (Other word) answer new leaves obeys = absurd leaves

hears_dtr1 : (at : ℕ) (old : Option Gear) (frame : Frame) (new : Option Gear) → LeavesDtr1 frame
    → MayHear at old frame new → dtr1_in new ≡ dtr1_in old
hears_dtr1 at None frame None leaves hears = refl
hears_dtr1 at (Some old) frame (Some new) leaves (inl same) = ap (λ (g : Gear). Some g.dtr1) same
hears_dtr1 at (Some old) frame (Some new) leaves (inr heard) =
    let h = heard.1 in
    ap Some ((end_steady h.obeyed new h.ends).dtr1 ∙ obeys_dtr1 at old frame heard.0 h.obeyed leaves h.obeys)
hears_dtr1 at None frame (Some new) leaves hears = absurd hears
hears_dtr1 at (Some old) frame None leaves hears = absurd hears

pub carry_dtr1 : (old : World) (frame : Frame) (answer : Option ℕ) (new : World) → LeavesDtr1 frame
    → Carry old frame answer new → (unit : ℕ) → dtr1_in (new unit) ≡ dtr1_in (old unit)
carry_dtr1 old frame answer new leaves carry unit =
    hears_dtr1 unit (old unit) frame (new unit) leaves (carry.units unit)

-- the unit that answers a query
answers_ask1 : (at : ℕ) (old : Gear) (to v : ℕ) (new : Gear) → Hears at old (AskDtr1 to) (Some v) new
    → (to ≡ at) × (old.dtr1 ≡ v) × Steady old new
answers_ask1 at old to v new h = told h.obeys where
  told : ((to ≡ at) × AnswersRegister old.dtr1 old (Some v) h.obeyed) ⊎ ((to ≢ at) × Ignores old (Some v) h.obeyed)
      → (to ≡ at) × (old.dtr1 ≡ v) × Steady old new
  told (inl (is, tells)) = let value = tells.1 in (is, cc, rw tells.0 at (end_steady h.obeyed new h.ends))
  told (inr (isnt, ignores)) = let never = ignores.1 in cc

answers_ask0 : (at : ℕ) (old : Gear) (to v : ℕ) (new : Gear) → Hears at old (AskDtr0 to) (Some v) new
    → (to ≡ at) × (old.dtr0 ≡ v) × Steady old new
answers_ask0 at old to v new h = told h.obeys where
  told : ((to ≡ at) × AnswersRegister old.dtr0 old (Some v) h.obeyed) ⊎ ((to ≢ at) × Ignores old (Some v) h.obeyed)
      → (to ≡ at) × (old.dtr0 ≡ v) × Steady old new
  told (inl (is, tells)) = let value = tells.1 in (is, cc, rw tells.0 at (end_steady h.obeyed new h.ends))
  told (inr (isnt, ignores)) = let never = ignores.1 in cc

-- the unit that was asked for a register, and told it, has it
pub asked1 : (old : World) (unit v : ℕ) (new : World) → Carry old (AskDtr1 unit) (Some v) new
    → dtr1_in (new unit) ≡ Some v
asked1 old unit v new carry =
    let a = carry.answers in
    let told = answers_ask1 a.address a.before unit v a.after a.hears in
    rw told.0 (ap dtr1_in a.is ∙ ap Some (told.2.dtr1 ∙ told.1))

pub asked0 : (old : World) (unit v : ℕ) (new : World) → Carry old (AskDtr0 unit) (Some v) new
    → dtr0_in (new unit) ≡ Some v
asked0 old unit v new carry =
    let a = carry.answers in
    let told = answers_ask0 a.address a.before unit v a.after a.hears in
    rw told.0 (ap dtr0_in a.is ∙ ap Some (told.2.dtr0 ∙ told.1))

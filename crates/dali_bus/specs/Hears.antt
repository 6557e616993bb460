-- The effects that a frame may have on a unit that hears it, and its possible answers.
--
-- Everything not named stays as it is. A unit may refuse a write, for its lock byte or for any other reason. A frame
-- that it doesn't carry out may move DTR0 on all the same. And its write enable may end at any frame. At a place that
-- its memory leaves out, since it changes by itself, a read or a write may get any answer.
use Rattle.std.specs.Prelude.{◌≡◌, ◌≢◌, ◌≤◌, ℕ, ◌+◌, true, false, ◌⊎◌, Option, Some, None, IsSome, IsNone, ◌==◌, ⊤}
use Rattle.std.specs.Prelude.{is_some, if◌then◌else◌}
use Rattle.dali_frame.specs.declared.forward.Frame.{Frame}
use Rattle.dali_frame.specs.declared.forward.Frame.TheVariants.{Dtr0, Dtr1, Dtr2, Write, WriteSilent, Enable, AskDtr0}
use Rattle.dali_frame.specs.declared.forward.Frame.TheVariants.{AskDtr1, AskDtr2, Read, Other}
use Rattle.dali_bus.specs.World.{Gear, Memory, stored}

-- DTR0 after it moved on: it stays at FFh
abbrev pub up : ℕ → ℕ
up dtr0 = if dtr0 == 0xFF then 0xFF else dtr0 + 1

-- DTR0 moved on, or stayed
abbrev pub MayGoUp : ℕ → ℕ → Type 0
MayGoUp old new = (new ≡ up old) ⊎ (new ≡ old)

-- the byte at the place that DTR1 and DTR0 name, if it exists
abbrev pub selected : Gear → Option ℕ
selected gear = gear.memory gear.dtr1 gear.dtr0

-- it stays as it was and doesn't answer
abbrev pub Ignores : Gear → Option ℕ → Gear → Type 0
Ignores old answer new = (new ≡ old) × (answer ≡ None)

-- it stays as it was and answers this register
abbrev pub AnswersRegister : ℕ → Gear → Option ℕ → Gear → Type 0
AnswersRegister register old answer new = (new ≡ old) × (answer ≡ Some register)

-- it doesn't carry the command out, and doesn't answer: DTR0 may move on
abbrev pub PassesBy : Gear → Option ℕ → Gear → Type 0
PassesBy old answer new = (dtr0 : ℕ) × MayGoUp old.dtr0 dtr0 × (new ≡ record old { dtr0 = dtr0 }) × (answer ≡ None)

-- the place that DTR1 and DTR0 name may be left out: what is done there changes nothing that the memory tells of
abbrev pub PassesLeftOut : Gear → Gear → Type 0
PassesLeftOut old new = (2 ≤ old.dtr1) × IsNone (selected old) × PassesBy old None new

-- the place is the indicator byte of bank 1
abbrev pub IsIndicator : ℕ → ℕ → Type 0
IsIndicator bank location = (bank ≡ 1) × (location ≡ 1)

-- a unit may set the indicator byte of its bank 1, if that exists, by itself
abbrev pub MayIndicate : Memory → Memory → Type 0
MayIndicate old new =
    (bank location : ℕ) → (new bank location ≡ old bank location)
    ⊎ (IsIndicator bank location × (is_some (new bank location) ≡ is_some (old bank location)))

-- It was write-enabled, and has stored the byte at the place that DTR1 and DTR0 named and nowhere else, but that it may
-- have set its indicator byte.
abbrev pub Stores : ℕ → Gear → Gear → Type 0
Stores byte old new =
    (old.enabled ≡ true) × IsSome (selected old)
    × ((memory : Memory) × MayIndicate (stored old.memory old.dtr1 old.dtr0 byte) memory
    × (new ≡ record old { dtr0 = up old.dtr0; memory = memory }))

-- it answers the byte at the place that DTR1 and DTR0 named, and isn't write-enabled any more
abbrev pub ReadsByte : Gear → Option ℕ → Gear → Type 0
ReadsByte old answer new =
    IsSome (selected old) × (answer ≡ selected old) × (new ≡ record old { dtr0 = up old.dtr0; enabled = false })

-- the place that DTR1 and DTR0 named doesn't exist
abbrev pub ReadsNothing : Gear → Option ℕ → Gear → Type 0
ReadsNothing old answer new = IsNone (selected old) × PassesBy old answer new

-- what the unit at this address may do with the frame, before its write enable may end
abbrev pub Obeys : ℕ → Gear → Frame → Option ℕ → Gear → Type 0
Obeys at old (Dtr0 byte) answer new = (new ≡ record old { dtr0 = byte }) × (answer ≡ None)
Obeys at old (Dtr1 byte) answer new = (new ≡ record old { dtr1 = byte }) × (answer ≡ None)
Obeys at old (Dtr2 byte) answer new = (new ≡ record old { dtr2 = byte }) × (answer ≡ None)
Obeys at old (Write byte) answer new =
    (Stores byte old new × (answer ≡ Some byte)) ⊎ PassesBy old answer new
    ⊎ ((old.enabled ≡ true) × PassesLeftOut old new)
Obeys at old (WriteSilent byte) answer new = (Stores byte old new ⊎ PassesBy old None new) × (answer ≡ None)
Obeys at old (Enable to) answer new =
    ((to ≡ at) × (new ≡ record old { enabled = true }) × (answer ≡ None)) ⊎ Ignores old answer new
Obeys at old (AskDtr0 to) answer new =
    ((to ≡ at) × AnswersRegister old.dtr0 old answer new) ⊎ ((to ≢ at) × Ignores old answer new)
Obeys at old (AskDtr1 to) answer new =
    ((to ≡ at) × AnswersRegister old.dtr1 old answer new) ⊎ ((to ≢ at) × Ignores old answer new)
Obeys at old (AskDtr2 to) answer new =
    ((to ≡ at) × AnswersRegister old.dtr2 old answer new) ⊎ ((to ≢ at) × Ignores old answer new)
Obeys at old (Read to) answer new =
    ((to ≡ at) × (ReadsByte old answer new ⊎ ReadsNothing old answer new ⊎ PassesLeftOut old new))
    ⊎ ((to ≢ at) × Ignores old answer new)
Obeys at old (Other word) answer new = ⊤

-- the unit is as it was, or its write enable has ended
abbrev pub MayEnd : Gear → Gear → Type 0
MayEnd old new = (new ≡ old) ⊎ (new ≡ record old { enabled = false })

-- the unit at this address, having heard the frame, may give this answer and then be so
pub record Hears (at : ℕ) (old : Gear) (frame : Frame) (answer : Option ℕ) (new : Gear) : Type 0 where
  pub obeyed : Gear
  pub obeys : Obeys at old frame answer obeyed
  pub ends : MayEnd obeyed new

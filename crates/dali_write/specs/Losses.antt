-- The losses of the simulated bus, of frames that are meant for one unit.
use Rattle.std.specs.Prelude.{◌≡◌, ◌≢◌, ℕ, ◌+◌, ◌<◌, ◌==◌, Bool, true, false, ◌&&◌, ◌||◌, is_some, IsSome, IsTrue, ◌⊎◌, List, [], ⊤}
use Rattle.std.specs.Prelude.{◌∷◌, length, slice_get, if◌then◌else◌}
use Rattle.std.specs.List.{list_any, AllByRecursion}
use Rattle.dali_frame.specs.declared.forward.Frame.{Frame}
use Rattle.dali_bus.specs.Carry.{BusEvent, Carried, Powered}
use Rattle.dali_bus.specs.Hears.{up}
use Rattle.dali_gear.specs.declared.fate.Fate.{Fate}
use Rattle.dali_gear.specs.Fate.{is_lost, next_fate}
use Rattle.dali_gear.specs.UnitState.{BankState, UnitState, is_writable}
use Rattle.dali_gear.specs.SimState.{SimState, unit_answer}
use Rattle.dali_write.specs.Requests.{moved_on}
use Rattle.dali_write.specs.declared.access.Access.{Access}
use Rattle.dali_write.specs.declared.access.Access.TheVariants.{ReadFrom, WriteTo, WriteOn}

-- the unit at the address answers the frame
abbrev pub answers_at : ℕ → Fate → Frame → List UnitState → Bool
answers_at address fate frame units =
    list_any (λ unit. (unit.address == address) && is_some (unit_answer fate frame unit)) units

-- the unit doesn't hear the frame, or its answer is lost
abbrev pub is_loss : ℕ → SimState → Frame → Bool
is_loss address state frame =
    is_lost (next_fate state.fates) address
    || ((next_fate state.fates).answer_lost && answers_at address (next_fate state.fates) frame state.units)

-- how many of the frames of a chain, by the states before them, are losses to the unit
abbrev pub losses : ℕ → List BusEvent → List SimState → ℕ
losses address (Carried frame answer ∷ past) (state ∷ states) =
    (if is_loss address state frame then 1 else 0) + losses address past states
losses address (Powered other ∷ past) (state ∷ states) = losses address past states
losses address past states = 0

-- no fate of its frames refuses
abbrev pub Unrefused : List BusEvent → List SimState → Type 0
Unrefused (Carried frame answer ∷ past) (state ∷ states) =
    ((next_fate state.fates).refuse ≡ false) × Unrefused past states
Unrefused (Powered address ∷ past) (state ∷ states) = Unrefused past states
Unrefused past states = ⊤

-- another unit, not enabled
abbrev pub IsElse : ℕ → UnitState → Type 0
IsElse address unit = (unit.address ≢ address) × (unit.enabled ≡ false)

-- this is the unit at the address; no other is there, and no other is enabled
abbrev pub IsAlone : ℕ → UnitState → List UnitState → Type 0
IsAlone address unit [] = ⊥
IsAlone address unit (first ∷ units) =
    ((first ≡ unit) × (unit.address ≡ address) × AllByRecursion (IsElse address) units)
    ⊎ (IsElse address first × IsAlone address unit units)

-- the bank has this many locations from this one on
abbrev pub HasFrom : BankState → ℕ → ℕ → Type 0
HasFrom bank location count = (index : ℕ) → index < count → IsSome (slice_get bank.bytes (moved_on location index))

-- the unit is as a write to this location leaves it: enabled, and with the next location of bank 1 selected
abbrev pub StandsBehind : ℕ → UnitState → Type 0
StandsBehind location unit = (unit.enabled ≡ true) × (unit.dtr1 ≡ 1) × (unit.dtr0 ≡ up location)

-- the unit has the locations to read, or can write the one, and if the access takes it to be just after a write, it is
abbrev pub CanDo : Access → UnitState → Type 0
CanDo (ReadFrom block) unit = HasFrom unit.bank1 block.location block.count
CanDo (WriteTo location byte) unit = IsTrue (is_writable unit.bank1 location)
CanDo (WriteOn before location byte) unit = IsTrue (is_writable unit.bank1 location) × StandsBehind before unit

-- the banks are the same except for the byte at this location
pub record OnlyDiffers (old : BankState) (location : ℕ) (new : BankState) : Type 0 where
  pub others : (other : ℕ) → other ≢ location → slice_get new.bytes other ≡ slice_get old.bytes other
  pub lengths : length new.bytes ≡ length old.bytes
  pub fixed : new.fixed ≡ old.fixed

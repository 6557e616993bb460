-- The effect of exchanges on a world of units.
use Rattle.std.specs.Prelude.{◌≡◌, ◌≢◌, ◌⊎◌, ℕ, false, List, [], ◌∷◌, ◌++◌, Option, Some, None, IsSome, is_some}
use Rattle.std.specs.Option.{option_map}
use Rattle.dali_bus.specs.World.{World, Gear, Memory, stored, byte_at, is_enabled}
use Rattle.dali_bus.specs.Hears.{MayIndicate}
use Rattle.dali_bus.specs.Power.{MayRelock}
use Rattle.dali_bus.specs.Carry.{BusEvent, HasLostPower}
use Rattle.dali_bus.specs.Chain.{Chain}
use Rattle.dali_write.specs.Exchanges.{Exchange, exchanges_of}
use Rattle.dali_write.specs.Requests.{read_requests, questions, select_requests}
use Rattle.dali_write.specs.Tries.{Trying, bytes_of}

-- the address is one of these
abbrev pub IsAmong : List ℕ → ℕ → Type 0
IsAmong [] address = ⊥
IsAmong (first ∷ more) address = (first ≡ address) ⊎ IsAmong more address

-- exchanges, the newest first, lead from the first state to the last: through a chain of states whose frames they are,
-- and in which only units of these addresses lose their power
pub record Run {S : Type 0} (step : S → BusEvent → S → Type 0) (loses : ℕ → Type 0) (told : List Exchange)
    (first last : S) : Type 0 where
  pub past : List BusEvent
  pub told_is : exchanges_of past ≡ told
  pub among : (address : ℕ) → HasLostPower address past → loses address
  pub chain : Chain step first past last

-- the memory of the unit at an address
abbrev pub memory_at : World → ℕ → Option Memory
memory_at world address = option_map (λ gear. gear.memory) (world address)

-- the unit stays there, keeps its memory except for lock bytes if it is one that loses its power, and isn't newly
-- enabled
pub record KeepsAt (loses : ℕ → Type 0) (first last : World) (address : ℕ) : Type 0 where
  pub there : is_some (last address) ≡ is_some (first address)
  pub memory : (bank location : ℕ)
      → MayRelock (loses address) bank location (byte_at first address bank location)
      (byte_at last address bank location)
  pub off : is_enabled first address ≡ false → is_enabled last address ≡ false

-- a checked read, answered by the byte
abbrev pub IsCheckedRead : ℕ → ℕ → ℕ → List Exchange → Type 0
IsCheckedRead unit location byte tried = Trying (read_requests unit location) tried [] × (bytes_of tried ≡ byte ∷ [])

-- the unit has the byte at the location of bank 1, or its lock byte is FFh since it lost its power, and it isn't
-- enabled
pub record Shows (loses : ℕ → Type 0) (world : World) (unit location byte : ℕ) : Type 0 where
  pub gear : Gear
  pub is : world unit ≡ Some gear
  pub byte_is : MayRelock (loses unit) 1 location (Some byte) (gear.memory 1 location)
  pub off : gear.enabled ≡ false

-- the unit told that DTR1 is 01h and then that DTR0 is the location: with nothing between the two, or in the frames
-- that select it
abbrev pub Asked : ℕ → ℕ → List Exchange → Type 0
Asked unit location tried = Trying (questions unit location) tried [] ⊎ Trying (select_requests unit location) tried []

-- the newest exchanges made sure that the unit has selected the location of bank 1
abbrev pub Selects : ℕ → ℕ → List Exchange → Type 0
Selects unit location told =
    (newer : List Exchange) × (older : List Exchange) × (told ≡ newer ++ older) × Asked unit location newer

-- no unit but this one is enabled
abbrev pub OnlyEnabled : ℕ → World → Type 0
OnlyEnabled unit world = (address : ℕ) → address ≢ unit → is_enabled world address ≡ false

-- the memory has the location of bank 1, and the new one holds the byte there and is otherwise the same, but that its
-- indicator byte may be another
abbrev pub Written : ℕ → ℕ → Option Memory → Option Memory → Type 0
Written location byte (Some old) (Some new) = IsSome (old 1 location) × MayIndicate (stored old 1 location byte) new
Written location byte (Some old) None = ⊥
Written location byte None new = ⊥

-- the byte was stored at the location of bank 1 of the unit, or nothing was; an answer says that it was
pub record MayWrite (first : World) (unit location byte : ℕ) (answer : Option ℕ) (last : World) : Type 0 where
  pub others : (address : ℕ) → address ≢ unit → memory_at last address ≡ memory_at first address
  pub here : (memory_at last unit ≡ memory_at first unit)
      ⊎ Written location byte (memory_at first unit) (memory_at last unit)
  pub answered : (told : ℕ) → answer ≡ Some told → Written location byte (memory_at first unit) (memory_at last unit)

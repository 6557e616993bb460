-- A census: each unit is brought into the initialisation state, found and withdrawn, until none compares. Its result,
-- if nothing was lost in it.
use Rattle.std.specs.Prelude.{◌≡◌, ◌≢◌, ℕ, ◌<◌, ◌⊎◌, ◌↔◌, List, [], ◌∷◌, Option, Some, None, IsSome, IsNone, ⊤}
use Rattle.std.specs.Prelude.{length, true, false, zero, suc}
use Rattle.std.specs.List.{slice_index_or}
use Rattle.dali_bus.specs.Chain.{IsChain, AtEachMoment, AtEachState}
use Rattle.dali_address.specs.Units.{Three, Member, Units, IsAt, IsAlone}
use Rattle.dali_address.specs.Obeys.{Does, IsActive}
use Rattle.dali_address.specs.Steps.{Exchange, Step, calls_of}
use Rattle.dali_address.specs.declared.call.Call.{Call}
use Rattle.dali_address.specs.declared.call.Call.TheVariants.{InitialiseAll, Randomise}
use Rattle.dali_address.specs.declared.sharing.Sharing.{Sharing}
use Rattle.dali_address.specs.declared.census.CensusEnd.{CensusEnd}
use Rattle.dali_address.specs.declared.census.CensusEnd.TheVariants.{Apart, Shared, Unclear}

-- its addresses and its initialisation state are as they were
pub record KeepsOn (old new : Member) : Type 0 where
  pub short : new.short ≡ old.short
  pub random : new.random ≡ old.random
  pub search : new.search ≡ old.search
  pub phase : new.phase ≡ old.phase

-- the unit heard the frame, stays in the initialisation state if it is in it, and if it answered, something came back
pub record IsHeard (exchange : Exchange) (old : Member) (new : Option Member) : Type 0 where
  pub answer : Option ℕ
  pub obeyed : Member
  pub does : Does old exchange.call answer obeyed
  pub after : Member
  pub is : new ≡ Some after
  pub on : KeepsOn obeyed after
  pub told : IsSome answer → exchange.answer ≢ None

-- the unit didn't hear the frame, and stays in the initialisation state if it is in it
pub record IsUnheard (old : Member) (new : Option Member) : Type 0 where
  pub after : Member
  pub is : new ≡ Some after
  pub on : KeepsOn old after

-- nothing was lost at this frame: each unit heard it
pub record IsWhole (old : Units) (exchange : Exchange) (new : Units) : Type 0 where
  pub step : Step old exchange new
  pub heard : (number : ℕ) (member : Member) → old number ≡ Some member → IsHeard exchange member (new number)

-- some units didn't hear it, and nothing else was lost
abbrev pub IsHalfHeard : Units → Exchange → Units → Type 0
IsHalfHeard old exchange new = (number : ℕ) (member : Member) → old number ≡ Some member
    → IsHeard exchange member (new number) ⊎ IsUnheard member (new number)

-- RANDOMISE is one of the newest frames, at most this many
abbrev pub IsDrawnWithin : ℕ → List Call → Type 0
IsDrawnWithin zero calls = ⊥
IsDrawnWithin (suc more) [] = ⊥
IsDrawnWithin (suc more) (newest ∷ older) = (newest ≡ Randomise) ⊎ IsDrawnWithin more older

-- nothing was lost at the newest frame. A unit that draws a random address may hear nothing for 100 ms: at 29 ms a
-- frame, the four frames after RANDOMISE
abbrev pub WasHeard : List Exchange → Units → List Units → Type 0
WasHeard (newest ∷ past) units (before ∷ states) =
    IsWhole before newest units ⊎ (IsDrawnWithin 4 (calls_of past) × IsHalfHeard before newest units)
WasHeard past units states = ⊤

-- if INITIALISE of all units came twice, it counted: each unit is in the initialisation state
abbrev pub HasCounted : List Exchange → Units → Type 0
HasCounted (newest ∷ (before ∷ past)) units =
    newest.call ≡ InitialiseAll → before.call ≡ InitialiseAll
    → (number : ℕ) (member : Member) → units number ≡ Some member → IsActive member
HasCounted _ units = ⊤

-- the random address has three bytes, and the short address, if it has one, is 0 to 63
pub record HasAddresses (member : Member) : Type 0 where
  pub high : member.random.high < 256
  pub middle : member.random.middle < 256
  pub low : member.random.low < 256
  pub short : (short : ℕ) → member.short ≡ Some short → short < 64

-- no two units have one random address
abbrev pub NumbersDiffer : Units → Type 0
NumbersDiffer units = (one two : ℕ) (member other : Member) → units one ≡ Some member → units two ≡ Some other
    → member.random ≡ other.random → one ≡ two

-- these frames led from the first units to the last: each unit heard each of them but while it drew, INITIALISE
-- counted, and what was answered came back as something; and no two units have drawn one random address
pub record WasWhole (first : Units) (past : List Exchange) (last : Units) (states : List Units) : Type 0 where
  pub chain : IsChain Step first past last states
  pub heard : AtEachState WasHeard past last states
  pub counted : AtEachMoment HasCounted past last states
  pub addresses : (number : ℕ) (member : Member) → last number ≡ Some member → HasAddresses member
  pub numbers : NumbersDiffer last

abbrev pub highest : Three
highest = record { high = 0xFF; middle = 0xFF; low = 0xFF }

-- each unit has a short address
abbrev pub AllHaveOne : Units → Type 0
AllHaveOne units = (number : ℕ) (member : Member) → units number ≡ Some member → IsSome member.short

-- each unit has a short address, and no two share one
abbrev pub AllHaveTheirOwn : Units → Type 0
AllHaveTheirOwn units = AllHaveOne units × ((short : ℕ) → IsAlone units short)

-- a number is in a list
abbrev pub IsListed : ℕ → List ℕ → Type 0
IsListed number [] = ⊥
IsListed number (first ∷ more) = (number ≡ first) ⊎ IsListed number more

-- no number is in it twice
abbrev pub IsListedOnce : List ℕ → Type 0
IsListedOnce [] = ⊤
IsListedOnce (first ∷ more) = (IsListed first more → ⊥) × IsListedOnce more

-- there are `many` units
pub record AreSoMany (many : ℕ) (units : Units) : Type 0 where
  pub numbers : List ℕ
  pub long : length numbers ≡ many
  pub once : IsListedOnce numbers
  pub each : (number : ℕ) → IsSome (units number) ↔ IsListed number numbers

-- two units have the short address
pub record IsShared (units : Units) (short : ℕ) : Type 0 where
  pub one : ℕ
  pub two : ℕ
  pub others : one ≢ two
  pub at_one : IsAt units short one
  pub at_two : IsAt units short two

-- some unit has no short address
pub record LacksOne (units : Units) : Type 0 where
  pub number : ℕ
  pub member : Member
  pub there : units number ≡ Some member
  pub none : IsNone member.short

-- it names exactly the short addresses that units share, and whether a unit has none
pub record IsSharing (sharing : Sharing) (units : Units) : Type 0 where
  pub shared : (short : ℕ) → short < 64 → slice_index_or sharing.addresses short false ≡ true → IsShared units short
  pub alone : (short : ℕ) → short < 64 → slice_index_or sharing.addresses short false ≡ false → IsAlone units short
  pub missing : sharing.has_missing ≡ true → LacksOne units
  pub complete : sharing.has_missing ≡ false → AllHaveOne units

-- what the end of a census says of the units
abbrev pub IsEndOf : CensusEnd → Units → Type 0
IsEndOf (Apart many) units = AllHaveTheirOwn units × AreSoMany many units
IsEndOf (Shared sharing) units = IsSharing sharing units
IsEndOf Unclear units = ⊤

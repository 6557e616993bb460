-- The state of units that no frame of a giving of addresses changes.
use Rattle.std.specs.Prelude.{◌≡◌, ◌≢◌, ℕ, ◌⊎◌, List, false, Option, Some, ⊤}
use Rattle.std.specs.List.{AllByRecursion}
use Rattle.dali_bus.specs.Chain.{IsChain, AtEachMoment}
use Rattle.dali_address.specs.Units.{Three, Disabled, Member, Units}
use Rattle.dali_address.specs.Steps.{Exchange, Step}
use Rattle.dali_address.specs.declared.call.Call.{Call}
use Rattle.dali_address.specs.declared.call.Call.TheVariants.{InitialiseAll, InitialiseAt, Program, Remove}

-- the frame brings no unit into the initialisation state that has this short address
abbrev pub LeavesUnitsAt : ℕ → Call → Type 0
LeavesUnitsAt own InitialiseAll = ⊥
LeavesUnitsAt own (InitialiseAt short) = short ≢ own
LeavesUnitsAt own _ = ⊤

-- the unit of this number has this short address and this random address, and isn't in the initialisation state
pub record Rests (short : ℕ) (random : Three) (number : ℕ) (units : Units) : Type 0 where
  pub member : Member
  pub there : units number ≡ Some member
  pub has : member.short ≡ Some short
  pub drew : member.random ≡ random
  pub off : member.phase ≡ Disabled

-- Whatever is lost, and whatever comes back: a unit that has a short address and isn't in the initialisation state
-- keeps its short address and its random address, along each chain of frames that bring none at this address into it.
abbrev pub AddressesStay : Type 0
AddressesStay =
    (first : Units) (past : List Exchange) (last : Units) (states : List Units) (short : ℕ)
    → AllByRecursion (λ exchange. LeavesUnitsAt short exchange.call) past → IsChain Step first past last states
    → (random : Three) (number : ℕ) → Rests short random number first
    → AtEachMoment (λ happened units. Rests short random number units) past last states

-- the unit of this number isn't write-enabled, and each place of its memory but lock bytes holds this
pub record Holds (memory : ℕ → ℕ → Option ℕ) (number : ℕ) (units : Units) : Type 0 where
  pub member : Member
  pub there : units number ≡ Some member
  pub shut : member.gear.enabled ≡ false
  pub bytes : (bank location : ℕ) → (bank ≡ 0) ⊎ (location ≢ 2)
      → member.gear.memory bank location ≡ memory bank location

-- Whatever is lost: a unit that isn't write-enabled keeps its memory, lock bytes apart, and doesn't become
-- write-enabled.
abbrev pub MemoriesStay : Type 0
MemoriesStay =
    (first : Units) (past : List Exchange) (last : Units) (states : List Units)
    → IsChain Step first past last states
    → (memory : ℕ → ℕ → Option ℕ) (number : ℕ) → Holds memory number first
    → AtEachMoment (λ happened units. Holds memory number units) past last states

-- the frame gives no short address and takes none away
abbrev pub GivesNone : Call → Type 0
GivesNone (Program short) = ⊥
GivesNone Remove = ⊥
GivesNone _ = ⊤

-- the unit of this number has this short address, or none
pub record HasShort (short : Option ℕ) (number : ℕ) (units : Units) : Type 0 where
  pub member : Member
  pub there : units number ≡ Some member
  pub has : member.short ≡ short

-- Whatever is lost, and whichever units are in the initialisation state: along frames that give none and take none
-- away each unit keeps its short address, or has none as before.
abbrev pub ShortsStay : Type 0
ShortsStay =
    (first : Units) (past : List Exchange) (last : Units) (states : List Units)
    → AllByRecursion (λ exchange. GivesNone exchange.call) past → IsChain Step first past last states
    → (short : Option ℕ) (number : ℕ) → HasShort short number first
    → AtEachMoment (λ happened units. HasShort short number units) past last states

-- Memory that nothing can write: when no unit is write-enabled and no frame may enable one.
use Rattle.std.specs.Prelude.{◌≡◌, ℕ, false, List, IsSome, ⊤}
use Rattle.std.specs.List.{AllByRecursion}
use Rattle.dali_frame.specs.declared.forward.Frame.{Frame}
use Rattle.dali_frame.specs.declared.forward.Frame.TheVariants.{Enable, Other}
use Rattle.dali_bus.specs.World.{World, is_enabled, byte_at}
use Rattle.dali_bus.specs.Power.{MayRelock}
use Rattle.dali_bus.specs.Carry.{BusEvent, Carried, Powered, WorldStep, HasLostPower}
use Rattle.dali_bus.specs.Chain.{IsChain, AtEachMoment}

-- no unit is write-enabled
abbrev pub NoneEnabled : World → Type 0
NoneEnabled world = (address : ℕ) → is_enabled world address ≡ false

-- the frame is ENABLE WRITE MEMORY to a unit of the world, or a word that may mean anything
abbrev pub MayEnable : World → Frame → Type 0
MayEnable world (Enable address) = IsSome (world address)
MayEnable world (Other word) = ⊤
MayEnable world _ = ⊥

-- what happened enables no unit of the world
abbrev pub EnablesNone : World → BusEvent → Type 0
EnablesNone world (Carried frame answer) = ¬ MayEnable world frame
EnablesNone world (Powered address) = ⊤

-- Each place holds what it held at first, except for lock bytes, if the unit lost power: such a one may be FFh.
abbrev pub HoldsAsBefore : World → List BusEvent → World → Type 0
HoldsAsBefore first happened world =
    (address bank location : ℕ)
    → MayRelock (HasLostPower address happened) bank location (byte_at first address bank location)
    (byte_at world address bank location)

-- Along each chain of worlds in which no unit is write-enabled at first and no frame may enable one, each place holds
-- at each moment what it held at first, lock bytes apart if the unit lost power.
abbrev pub UnenabledMemoryStays : Type 0
UnenabledMemoryStays =
    (first : World) (past : List BusEvent) (last : World) (states : List World)
    → NoneEnabled first → AllByRecursion (EnablesNone first) past → IsChain WorldStep first past last states
    → AtEachMoment (HoldsAsBefore first) past last states

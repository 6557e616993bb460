-- Stays: luminaires come and go while the journal is idle, and, if none is at work or left, at any time; and units are
-- read, verified and used by other masters while it is idle. A stay is a part of what happened, for the luminaires that
-- are on the bus from its first moment to its last.
use Rattle.std.specs.Prelude.{◌≡◌, ◌⊎◌, ◌++◌, ◌==◌, ℕ, Bool, true, false, List, [], ◌∷◌, Option, Some, None, IfSome}
use Rattle.std.specs.Prelude.{if◌then◌else◌}
use Rattle.dali_bus.specs.World.{World, is_enabled}
use Rattle.dali_bus.specs.Chain.{IsChain, AtEachMoment}
use Rattle.dali_bus.specs.Unenabled.{NoneEnabled}
use Rattle.dali_journal.specs.declared.record.Record.{Record}
use Rattle.dali_journal.specs.declared.record.Record.TheVariants.{Began}
use Rattle.dali_journal.specs.declared.standing.Standing.{Standing}
use Rattle.dali_journal.specs.declared.standing.Standing.TheVariants as standings
use Rattle.dali_journal.specs.Sentence.{standing_of}
use Rattle.dali_write.specs.Worlds.{OnlyEnabled}
use Rattle.dali_trace.specs.declared.happening.Happening.{Happening}
use Rattle.dali_trace.specs.Trace.{Start, records_of, standing_at, is_at_work, is_busy}
use Rattle.dali_trace.specs.Moves.{Moves}
use Rattle.dali_trace.specs.Fits.{Fits, OnlyNamed, IsApplied}
use Rattle.dali_trace.specs.Moments.{OnlyNamedAt, IsRight}
use Rattle.dali_laws.specs.Powered.{unpowered}

-- The happenings of a stay, the newest first, and the worlds of the whole bus; the short addresses that have the same
-- luminaire, or none, from the first moment to the last; and the reference for these luminaires: a start world, the
-- units that had lost their power, and a start.
pub record Stay : Type 0 where
  pub staying : ℕ → Bool
  pub zero : World
  pub lost : List ℕ
  pub start : Start
  pub first : World
  pub past : List Happening
  pub last : World
  pub states : List World

-- The units that stay, and those that come and go

-- the world with the units at these addresses alone
abbrev pub among : (ℕ → Bool) → World → World
among staying world address = if staying address then world address else None

-- at all other addresses units may come and go: who comes isn't write-enabled
abbrev pub Exchanged : (ℕ → Bool) → World → World → Type 0
Exchanged staying old new =
    (address : ℕ) → (new address ≡ old address) ⊎ ((staying address ≡ false) × (is_enabled new address ≡ false))

-- the same happens to the whole bus, and before it some may have come and gone
abbrev pub MovesAmid : (ℕ → Bool) → World → Happening → World → Type 0
MovesAmid staying old next new = (middle : World) × Exchanged staying old middle × Moves middle next new

-- the unit of the order at work, or a left one
abbrev pub unit_at_work : Standing → Option ℕ
unit_at_work standings.Idle = None
unit_at_work (standings.Began order) = Some order.unit
unit_at_work (standings.Opened order) = Some order.unit
unit_at_work (standings.Left unit) = Some unit

-- at each moment of the stay it is one of those that stay
abbrev pub WorkStays : Stay → Type 0
WorkStays stay =
    AtEachMoment (λ moment now. IfSome (unit_at_work (standing_at stay.start moment))
    (λ unit. stay.staying unit ≡ true)) stay.past stay.last stay.states

-- It goes along a chain of worlds of the whole bus: at first the units that stay fit the reference, and no unit at all
-- is enabled except for the one that the records name; and the unit at work stays.
pub record IsAlong (stay : Stay) : Type 0 where
  pub fits : Fits stay.zero stay.start.records stay.lost (among stay.staying stay.first)
  pub only : OnlyNamed stay.start.records stay.first
  pub work : WorkStays stay
  pub chain : IsChain (MovesAmid stay.staying) stay.first stay.past stay.last stay.states

-- at each of its moments all is right with the units that stay, and no unit at all is enabled but the named one
abbrev pub IsRightThrough : Stay → Type 0
IsRightThrough stay =
    AtEachMoment (λ moment now. OnlyNamedAt stay.zero stay.lost stay.start moment now
    × IsRight stay.zero stay.lost stay.start moment (among stay.staying now)) stay.past stay.last stay.states

-- Where stays begin

-- the same records of orders that have no bytes
abbrev pub bare : List Record → List Record
bare [] = []
bare (Began order moment ∷ older) = Began (record order { updates = [] }) moment ∷ bare older
bare (other ∷ older) = other ∷ bare older

-- nothing is at work
abbrev pub IsAtRest : Start → List Happening → Type 0
IsAtRest start past = (standing_at start past ≡ standings.Idle) ⊎ (is_busy start past ≡ false)

-- A stay begins with all that happened, or at rest, whatever happened before: when the journal is idle, or nothing is
-- to be done or said. It is described by the newest records of the journal, back to where that was idle once. At rest
-- its luminaires may be others than those that the records speak of: then the orders of these have no bytes in them.
pub record Begins (start : Start) (before : List Happening) (stay : Stay) : Type 0 where
  pub newest : List Record
  pub older : List Record
  pub are : records_of start before ≡ newest ++ older
  pub idle : standing_of older ≡ standings.Idle
  pub told : ((stay.start.records ≡ newest) × ((before ≡ []) ⊎ IsAtRest start before))
      ⊎ ((stay.start.records ≡ bare newest) × IsAtRest start before)

-- A stay is a part of what happened, in which units may besides lose their power at any moment. Before it and after it
-- the units may be any.
pub record IsStay (start : Start) (happened : List Happening) (stay : Stay) : Type 0 where
  pub before : List Happening
  pub later : List Happening
  pub is_part : happened ≡ later ++ (unpowered stay.past ++ before)
  pub begins : Begins start before stay
  pub along : IsAlong stay

-- The units when a stay begins at rest: none is write-enabled, or none except for the left one.
abbrev pub IsReady : Standing → World → Type 0
IsReady standings.Idle world = NoneEnabled world
IsReady (standings.Left unit) world = OnlyEnabled unit world
IsReady other world = ⊥

-- they are so wherever nothing is at work in the stay
abbrev pub IsReadyAtRest : Stay → Type 0
IsReadyAtRest stay =
    AtEachMoment (λ moment now. is_at_work (standing_at stay.start moment) ≡ false
    → IsReady (standing_at stay.start moment) now) stay.past stay.last stay.states

-- One luminaire

-- the other is this very address
abbrev pub just : ℕ → ℕ → Bool
just address other = other == address

-- the world with the unit at this address alone
abbrev pub only_at : ℕ → World → World
only_at address = among (just address)

-- the unit at an address fits the one that was there in the start world, with these records, as a world does
abbrev pub UnitFits : ℕ → World → List Record → List ℕ → World → Type 0
UnitFits address zero records lost now =
    Fits (only_at address zero) records lost (only_at address now)
    × IsApplied (only_at address zero) records (only_at address now)

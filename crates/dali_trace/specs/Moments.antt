-- The facts at each moment of a trace, along a chain of worlds.
use Rattle.std.specs.Prelude.{ℕ, List}
use Rattle.dali_bus.specs.World.{World}
use Rattle.dali_bus.specs.Chain.{IsChain, AtEachMoment}
use Rattle.dali_trace.specs.declared.happening.Happening.{Happening}
use Rattle.dali_trace.specs.Trace.{Start, records_of, powered_of}
use Rattle.dali_trace.specs.Legal.{Legal}
use Rattle.dali_trace.specs.Moves.{Moves}
use Rattle.dali_trace.specs.Fits.{Fits, OnlyNamed, IsApplied}
use Rattle.dali_trace.specs.WhenKept.{WhenKept}

-- A chain of worlds along a trace, from a world that fits the start world and the start records, if these units had
-- lost their power before, with no unit enabled but the one that the records name.
pub record Along (zero : World) (lost : List ℕ) (start : Start) (first : World) (past : List Happening) (last : World)
    (states : List World) : Type 0 where
  pub fits : Fits zero start.records lost first
  pub only : OnlyNamed start.records first
  pub chain : IsChain Moves first past last states

-- along each of them, if the trace is legal, this is so at each moment, of the trace up to there and the world there
abbrev pub Always : (World → List ℕ → Start → List Happening → World → Type 0) → Type 0
Always holds =
    (zero first last : World) (lost : List ℕ) (start : Start) (past : List Happening) (states : List World)
    → Legal start past → Along zero lost start first past last states
    → AtEachMoment (holds zero lost start) past last states

-- the world fits
abbrev pub FitsAt : World → List ℕ → Start → List Happening → World → Type 0
FitsAt zero lost start moment now = Fits zero (records_of start moment) (powered_of lost moment) now

-- no unit is enabled but the named one
abbrev pub OnlyNamedAt : World → List ℕ → Start → List Happening → World → Type 0
OnlyNamedAt zero lost start moment now = OnlyNamed (records_of start moment) now

-- every place that is in no doubt holds what it held at the start, with the done orders applied
abbrev pub AppliedAt : World → List ℕ → Start → List Happening → World → Type 0
AppliedAt zero lost start moment now = IsApplied zero (records_of start moment) now

-- all of it: the world fits, no unit is enabled but the named one, each place that is in no doubt is as the journal
-- says, and a record that was just kept is true
abbrev pub IsRight : World → List ℕ → Start → List Happening → World → Type 0
IsRight zero lost start moment now =
    FitsAt zero lost start moment now × OnlyNamedAt zero lost start moment now × AppliedAt zero lost start moment now
    × WhenKept start moment now

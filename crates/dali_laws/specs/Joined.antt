-- The sittings of a program that is switched off and begins anew from its journal, and all that happened in them.
use Rattle.std.specs.Prelude.{⊤, ◌≡◌, List, [], ◌∷◌, ◌++◌}
use Rattle.dali_trace.specs.declared.happening.Happening.{Happening}
use Rattle.dali_trace.specs.declared.happening.Happening.TheVariants.{Stopped}
use Rattle.dali_trace.specs.Trace.{Start, records_of}
use Rattle.dali_trace.specs.Legal.{Legal, IsFinished}
use Rattle.dali_trace.specs.ByPlan.{ByPlan}

-- one sitting: what the program started from, and what happened until it was switched off, the newest first
pub record Sitting : Type 0 where
  pub start : Start
  pub past : List Happening

-- all that happened in the sittings (the newest first), with a stop between each and the one before it
abbrev pub joined : List Sitting → List Happening
joined [] = []
joined (first ∷ []) = first.past
joined (newest ∷ last ∷ older) = newest.past ++ Stopped newest.start.pace ∷ joined (last ∷ older)

-- the first sitting has the plan of the start, and a later one may have another
abbrev pub IsFirstPace : Start → Start → List Sitting → Type 0
IsFirstPace start own [] = own.pace ≡ start.pace
IsFirstPace start own older = ⊤

-- Each sitting's trace is legal, keeps to its plan and leaves no reply due. It starts with the limit of the start, and
-- from the records that the sittings before it left, the first one from those of the start.
abbrev pub FollowOn : Start → List Sitting → Type 0
FollowOn start [] = Legal start []
FollowOn start (newest ∷ older) =
    Legal newest.start newest.past × ByPlan newest.start newest.past × IsFinished newest.past
    × (newest.start.records ≡ records_of start (joined older)) × (newest.start.limit ≡ start.limit)
    × IsFirstPace start newest.start older × FollowOn start older

-- together they are one such trace from the start
abbrev pub IsOneTrace : Start → List Sitting → Type 0
IsOneTrace start sittings =
    Legal start (joined sittings) × ByPlan start (joined sittings) × IsFinished (joined sittings)

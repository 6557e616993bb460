-- The part of its tally that a census keeps.
use Rattle.std.specs.Prelude.{◌≡◌, ℕ, ◌≤◌, ◌⊎◌, List, [], ◌∷◌, Option, Some, None, IsSome, ⊤}
use Rattle.dali_address.specs.Units.{Three, number_of}
use Rattle.dali_address.specs.Places.{three_of}
use Rattle.dali_address.specs.Steps.{Exchange}
use Rattle.dali_address.specs.Tallying.{Counted, Tally, IsQuiet, IsCensus}
use Rattle.dali_address.specs.Marking.{AreMarks, MarksByte}
use Rattle.dali_address.specs.declared.call.Call.{Call}
use Rattle.dali_address.specs.declared.call.Call.TheVariants.{Withdraw}
use Rattle.dali_address.specs.declared.stage.Found.{Found}
use Rattle.dali_address.specs.declared.tallied.Tallied.{Tallied}

-- a random address is that of the unit that was counted last
abbrev pub IsNewest : Option Found → Three → Type 0
IsNewest None random = ⊥
IsNewest (Some newest) random = number_of (three_of newest) ≡ number_of random

-- it is that one, or above
abbrev pub IsInOrder : Option Found → Three → Type 0
IsInOrder None random = ⊤
IsInOrder (Some newest) random = number_of (three_of newest) ≤ number_of random

-- a census may send this now: a unit is withdrawn only if it told its short address just before, and in order
abbrev pub MayTally : Tallied → Call → Type 0
MayTally kept Withdraw = IsSome kept.asked × IsInOrder kept.newest (three_of kept.search)
MayTally kept call = IsQuiet call

-- the unit that was counted last has this random address
abbrev pub IsLastOf : Option Found → List Counted → Type 0
IsLastOf None [] = ⊤
IsLastOf None (newest ∷ older) = ⊥
IsLastOf (Some found) [] = ⊥
IsLastOf (Some found) (newest ∷ older) = newest.random ≡ three_of found

-- it keeps this of the tally: the search address, what came back last, the random address of the unit counted last, and
-- the marks
pub record Stands (kept : Tallied) (tally : Tally) : Type 0 where
  pub search : three_of kept.search ≡ tally.search
  pub asked : kept.asked ≡ tally.asked
  pub newest : IsLastOf kept.newest tally.counted
  pub marks : AreMarks kept.marks tally.counted

-- one more unit was counted
pub record CountsIt (old new : Tallied) : Type 0 where
  pub byte : ℕ
  pub told : old.asked ≡ Some byte
  pub other : IsNewest old.newest (three_of old.search) → ⊥
  pub search : new.search ≡ old.search
  pub asked : new.asked ≡ None
  pub newest : new.newest ≡ Some old.search
  pub marks : MarksByte old.marks byte new.marks

-- the unit that was counted last was withdrawn again
pub record CountsAgain (old new : Tallied) : Type 0 where
  pub again : IsNewest old.newest (three_of old.search)
  pub search : new.search ≡ old.search
  pub asked : new.asked ≡ None
  pub newest : new.newest ≡ old.newest
  pub marks : new.marks ≡ old.marks

abbrev pub Leaves : Tallied → Tallied → Type 0
Leaves old new = CountsIt old new ⊎ CountsAgain old new

-- a tally after one more exchange, which agrees with this
pub record Follows (told : List Exchange) (call : Call) (answer : Option ℕ) (kept : Tallied) : Type 0 where
  pub after : Tally
  pub census : IsCensus (record { call = call; answer = answer } ∷ told) after
  pub stands : Stands kept after

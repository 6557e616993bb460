-- The exchanges of a census, the frame that it wants and its state.
use Rattle.std.specs.Prelude.{◌≡◌, ◌≢◌, ◌+◌, ◌<◌, ◌⊎◌, ℕ, length, List, [], ◌∷◌, None, zero, suc, ⊤}
use Rattle.std.specs.List.{AllByRecursion}
use Rattle.dali_bus.specs.Chain.{IsChain}
use Rattle.dali_address.specs.Units.{Units}
use Rattle.dali_address.specs.Steps.{Exchange, Step, calls_of}
use Rattle.dali_address.specs.Keeps.{GivesNone}
use Rattle.dali_address.specs.Census.{highest, WasWhole, IsEndOf}
use Rattle.dali_address.specs.Tallying.{Tally, IsCensus}
use Rattle.dali_address.specs.Places.{three_of}
use Rattle.dali_address.specs.Marking.{IsSaidBy}
use Rattle.dali_address.specs.Standing.{Stands}
use Rattle.dali_address.specs.Walks.{IsStep, opened, left_in}
use Rattle.dali_address.specs.declared.call.Call.{Call}
use Rattle.dali_address.specs.declared.call.Call.TheVariants.{Compare, AskShort}
use Rattle.dali_address.specs.declared.census.CensusEnd.{CensusEnd}
use Rattle.dali_address.specs.declared.census.CensusEnd.TheVariants.{Unclear}
use Rattle.dali_address.specs.declared.walk.Walk.{Walk}
use Rattle.dali_address.specs.declared.walk.Walk.TheVariants.{Open, Check, Done, Lost}
use Rattle.dali_address.specs.declared.census.Census.{Census}
use Rattle.dali_address.specs.declared.tallied.Tallied.{Tallied}

-- how many silent checks it rests on
abbrev pub care_of : Census → ℕ
care_of census = census.care

-- how many frames it sends at most from here on
abbrev pub left_of : Census → ℕ
left_of census = left_in census.walk census.left

-- the frame may be the one that it wants
abbrev pub IsWanted : Census → Call → Type 0
IsWanted census call = IsStep census.walk census.kept call

-- it has ended so
abbrev pub HasEnded : CensusEnd → Census → Type 0
HasEnded Unclear census = census.walk ≡ Lost
HasEnded end census = (census.walk ≡ Done) × IsSaidBy census.kept.marks end

-- a check whether any unit is left, and none answered
abbrev pub silent_check : Exchange
silent_check = record { call = Compare; answer = None }

-- the newest frames, this many, were such
abbrev pub AreSilent : ℕ → List Exchange → Type 0
AreSilent zero told = ⊤
AreSilent (suc more) [] = ⊥
AreSilent (suc more) (newest ∷ past) = (newest ≡ silent_check) × AreSilent more past

-- a census gives up only after an ask for a short address, or with its 16,001st frame
abbrev pub HasGivenUp : List Exchange → Type 0
HasGivenUp [] = ⊥
HasGivenUp (newest ∷ past) = (newest.call ≡ AskShort) ⊎ (length (newest ∷ past) ≡ 16001)

-- `number` frames of the opening were sent, and nothing was answered
pub record IsOpening (number : ℕ) (kept : Tallied) (told : List Exchange) : Type 0 where
  pub within : number < 13
  pub sent : calls_of told ≡ opened number
  pub stands : Stands kept (record { search = highest; counted = []; asked = None })

-- the opening is over, and its state agrees with its exchanges
pub record IsSearching (kept : Tallied) (told : List Exchange) : Type 0 where
  pub tally : Tally
  pub is : IsCensus told tally
  pub stands : Stands kept tally

-- and with the highest search address the newest frames were `care` checks that no unit answered, at least one
pub record IsThrough (care : ℕ) (kept : Tallied) (told : List Exchange) : Type 0 where
  pub so_far : IsSearching kept told
  pub past : List Exchange
  pub newest : told ≡ silent_check ∷ past
  pub silent : AreSilent care told
  pub put : three_of kept.search ≡ highest

-- and the newest frames were `noes` checks that no unit answered
pub record IsChecking (noes : ℕ) (kept : Tallied) (told : List Exchange) : Type 0 where
  pub so_far : IsSearching kept told
  pub silent : AreSilent noes told

-- the exchanges that it has seen, by its step
abbrev pub HasCome : ℕ → Walk → Tallied → List Exchange → Type 0
HasCome care (Open number) kept told = IsOpening number kept told
HasCome care (Check noes) kept told = IsChecking noes kept told
HasCome care Done kept told = IsThrough care kept told
HasCome care Lost kept told = HasGivenUp told
HasCome care _ kept told = IsSearching kept told

-- a census has seen these exchanges, the newest first
pub record Told (told : List Exchange) (census : Census) : Type 0 where
  pub come : HasCome census.care census.walk census.kept told
  pub sent : census.walk ≢ Lost → length told + census.left ≡ 16000

-- The result of a census stays true, whatever is lost, along frames that give no short address and take none away.
abbrev pub EndStays : Type 0
EndStays =
    (end : CensusEnd) (first : Units) (past : List Exchange) (last : Units) (states : List Units)
    → AllByRecursion (λ exchange. GivesNone exchange.call) past → IsChain Step first past last states
    → IsEndOf end first → IsEndOf end last

-- the end of a census rests on `care` silent checks, or on having given up
abbrev pub IsAfterChecks : CensusEnd → ℕ → List Exchange → Type 0
IsAfterChecks Unclear care told = HasGivenUp told
IsAfterChecks end care told = AreSilent care told

-- the end of a census rests on as many silent checks as it takes care for
abbrev pub ChecksCount : Type 0
ChecksCount =
    (census : Census) (told : List Exchange) (end : CensusEnd) → Told told census → HasEnded end census
    → IsAfterChecks end (care_of census) told

-- If nothing was lost in a census, and no two units drew one random address, then what its end says of the units is so.
abbrev pub CensusIsTrue : Type 0
CensusIsTrue =
    (census : Census) (told : List Exchange) (end : CensusEnd) (first last : Units) (states : List Units)
    → Told told census → HasEnded end census → WasWhole first told last states → IsEndOf end last

-- frames that give no short address led from the first units to the last, and if nothing was lost, the end is so
pub record HasTaken (care : ℕ) (end : CensusEnd) (first last : Units) : Type 0 where
  pub past : List Exchange
  pub states : List Units
  pub chain : IsChain Step first past last states
  pub gives : AllByRecursion (λ exchange. GivesNone exchange.call) past
  pub checks : IsAfterChecks end care past
  pub says : WasWhole first past last states → IsEndOf end last

-- so far, and the census has seen them
pub record IsTaking (care : ℕ) (first last : Units) (census : Census) : Type 0 where
  pub own : census.care ≡ care
  pub past : List Exchange
  pub states : List Units
  pub chain : IsChain Step first past last states
  pub gives : AllByRecursion (λ exchange. GivesNone exchange.call) past
  pub told : Told past census

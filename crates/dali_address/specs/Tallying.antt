-- The account of units that a census gives, frame by frame.
use Rattle.std.specs.Prelude.{◌≡◌, ℕ, ◌<◌, ◌⊎◌, List, [], ◌∷◌, Option, Some, None, ⊤}
use Rattle.dali_address.specs.Units.{Three, number_of}
use Rattle.dali_address.specs.Steps.{Exchange, calls_of}
use Rattle.dali_address.specs.Census.{highest}
use Rattle.dali_address.specs.declared.call.Call.{Call}
use Rattle.dali_address.specs.declared.call.Call.TheVariants.{Terminate, InitialiseAll, InitialiseMissing, InitialiseAt}
use Rattle.dali_address.specs.declared.call.Call.TheVariants.{Randomise, Withdraw, SearchHigh, SearchMiddle}
use Rattle.dali_address.specs.declared.call.Call.TheVariants.{SearchLow, Program, Remove, AskShort}

-- frames that ask, or put the search address
abbrev pub IsQuiet : Call → Type 0
IsQuiet Terminate = ⊥
IsQuiet InitialiseAll = ⊥
IsQuiet InitialiseMissing = ⊥
IsQuiet (InitialiseAt short) = ⊥
IsQuiet Randomise = ⊥
IsQuiet Withdraw = ⊥
IsQuiet (Program short) = ⊥
IsQuiet Remove = ⊥
IsQuiet _ = ⊤

-- the search address after a frame
abbrev pub sought : Three → Call → Three
sought search (SearchHigh byte) = record search { high = byte }
sought search (SearchMiddle byte) = record search { middle = byte }
sought search (SearchLow byte) = record search { low = byte }
sought search _ = search

-- what a census tells of a unit: its random address, and the answer to QUERY SHORT ADDRESS
pub record Counted : Type 0 where
  pub random : Three
  pub told : ℕ

-- one of them
abbrev pub IsIn : Counted → List Counted → Type 0
IsIn one [] = ⊥
IsIn one (counted ∷ more) = (one ≡ counted) ⊎ IsIn one more

-- a census so far: the search address that was put, what was counted, the newest first, and what came back if the
-- newest frame was QUERY SHORT ADDRESS
pub record Tally : Type 0 where
  pub search : Three
  pub counted : List Counted
  pub asked : Option ℕ

-- a frame that only asks or puts the search address
abbrev pub only_asks : Tally → Call → Tally
only_asks tally call = record { search = sought tally.search call; counted = tally.counted; asked = None }

-- a random address is above that of the unit that was counted last
abbrev pub Rises : List Counted → Three → Type 0
Rises [] random = ⊤
Rises (newest ∷ older) random = number_of newest.random < number_of random

-- it is that of the unit that was counted last
abbrev pub Repeats : List Counted → Three → Type 0
Repeats [] random = ⊥
Repeats (newest ∷ older) random = number_of newest.random ≡ number_of random

-- a unit is counted and withdrawn only if it told its short address just before, and in rising order of the random
-- addresses
pub record CountsOne (old new : Tally) : Type 0 where
  pub byte : ℕ
  pub told : old.asked ≡ Some byte
  pub above : Rises old.counted old.search
  pub is : new ≡ record {
    search = old.search;
    counted = record { random = old.search; told = byte } ∷ old.counted;
    asked = None;
  }

-- the unit that was counted last is withdrawn again, and counts no more
pub record CountsNone (old new : Tally) : Type 0 where
  pub again : Repeats old.counted old.search
  pub is : new ≡ record { search = old.search; counted = old.counted; asked = None }

-- the frame with what came back leads from one tally to the next
abbrev pub Leads : Tally → Call → Option ℕ → Tally → Type 0
Leads old Withdraw answer new = CountsOne old new ⊎ CountsNone old new
Leads old AskShort answer new =
    new ≡ record { search = old.search; counted = old.counted; asked = answer }
Leads old call answer new = IsQuiet call × (new ≡ only_asks old call)

-- the frames that open a census, the newest first
abbrev pub opening : List Call
opening =
    SearchHigh 0xFF ∷ (SearchLow 0xFF ∷ (SearchMiddle 0xFF ∷ (SearchHigh 0xFF ∷ (SearchLow 0xFF ∷ (SearchMiddle 0xFF
    ∷ (SearchHigh 0xFF ∷ (Randomise ∷ (Randomise ∷ (InitialiseAll ∷ (InitialiseAll ∷ (Terminate ∷ (Terminate
    ∷ []))))))))))))

-- these exchanges opened a census, in which none was counted yet
pub record HasOpened (told : List Exchange) (tally : Tally) : Type 0 where
  pub sent : calls_of told ≡ opening
  pub is : tally ≡ record { search = highest; counted = []; asked = None }

-- these exchanges, the newest first, are a census so far
abbrev pub IsCensus : List Exchange → Tally → Type 0
IsCensus [] tally = ⊥
IsCensus (newest ∷ past) tally =
    HasOpened (newest ∷ past) tally
    ⊎ ((before : Tally) × IsCensus past before × Leads before newest.call newest.answer tally)

-- Drives over a store one after another, each from what the one before it left there.
use Rattle.std.specs.Prelude.{◌≡◌, ◌⊎◌, ◌++◌, ℕ, List, [], ◌∷◌, Some, ⊤}
use Rattle.dali_trace.specs.Trace.{Start, records_of}
use Rattle.dali_trace.specs.Taken.{taken_orders, begun_orders}
use Rattle.dali_laws.specs.Joined.{Sitting, joined, IsFirstPace, IsOneTrace}
use Rattle.dali_laws.specs.Stays.{Stay, IsRightThrough, IsReadyAtRest}
use Rattle.dali_store.specs.Opened.{Loads, LoadsAlike}
use Rattle.dali_drive.specs.Sittings.{CameToItsEnd, BrokeOff}
use Rattle.dali_drive.specs.Kills.{WasKilled}

-- The same bytes, or others that load to the same records: what is left if no journal was opened.
abbrev pub IsSameFile : ℕ → List ℕ → List ℕ → Type 0
IsSameFile limit old new = (new ≡ old) ⊎ LoadsAlike limit (Some old) new

-- a drive over a store that showed these bytes, what happened in it, and what it left
abbrev pub HasSat : ℕ → ℕ → List ℕ → Sitting → List ℕ → Type 0
HasSat limit most found sitting left =
    CameToItsEnd limit most found sitting left ⊎ BrokeOff limit most found sitting left
    ⊎ WasKilled limit most found sitting left

-- So many drives, the newest first, each from what the one before it left; between them a journal may be opened any
-- number of times with nothing driven.
abbrev pub HaveSat : ℕ → ℕ → List ℕ → List Sitting → List ℕ → Type 0
HaveSat limit most first [] last = IsSameFile limit first last
HaveSat limit most first (newest ∷ older) last =
    (found : List ℕ) × (left : List ℕ) × HaveSat limit most first older found × HasSat limit most found newest left
    × IsSameFile limit left last

-- the first of them has the plan of the start
abbrev pub BeginsBy : Start → List Sitting → Type 0
BeginsBy start [] = ⊤
BeginsBy start (newest ∷ older) = IsFirstPace start newest.start older × BeginsBy start older

-- The guarantees for a bench that is switched off and on again any number of times, while units lose their power, and
-- come and go between the stays: all that the program knows of is one legal trace that keeps to the plans, what is left
-- loads to its records, the orders that were begun are the taken ones, each once, every moment of the stay is right,
-- and whenever the journal is idle in it the units are ready for the next.
pub record ActOnce (start : Start) (sittings : List Sitting) (left : List ℕ) (stay : Stay) : Type 0 where
  pub trace : IsOneTrace start sittings
  pub file : Loads start.limit (records_of start (joined sittings)) left
  pub once : begun_orders (records_of start (joined sittings))
      ≡ taken_orders (joined sittings) ++ begun_orders start.records
  pub right : IsRightThrough stay
  pub ready : IsReadyAtRest stay

-- Why a session gives up, and why one that carries an order out ends in doubt.
use Rattle.std.specs.Prelude.{◌≡◌, ◌≢◌, ◌⊎◌, ◌≤◌, ℕ, List, ◌++◌, length, Option, Some, None}
use Rattle.std.specs.List.{Contains}
use Rattle.dali_write.specs.Exchanges.{Exchange}
use Rattle.dali_write.specs.declared.ask.Verdict.TheVariants.{Doubt}
use Rattle.dali_write.specs.declared.access.Access.{Access}
use Rattle.dali_write.specs.declared.access.Access.TheVariants.{ReadFrom}
use Rattle.dali_write.specs.declared.pace.Pace.{Pace}
use Rattle.dali_write.specs.declared.pace.Pace.TheVariants.{Checked, Short}
use Rattle.dali_write.specs.Requests.{block, access_requests}
use Rattle.dali_write.specs.Plans.{Plan, Finish, Make, expect, give_up, most_once}
use Rattle.dali_write.specs.Tries.{most_tries, Misses, Succeeds}
use Rattle.dali_write.specs.Walks.{Walk}
use Rattle.dali_write.specs.Misses.{IsApt}

-- the newest frames are those of an access that failed, in its place: each of its most tries ended at a miss
pub record EndsInFailure (unit : ℕ) (access : Access) (told : List Exchange) : Type 0 where
  pub tries : List Exchange
  pub older : List Exchange
  pub parts : told ≡ tries ++ older
  pub place : IsApt older access
  pub missed : Misses (access_requests unit access) most_tries tries

-- at some time that was so
pub record HasFailed (unit : ℕ) (told : List Exchange) : Type 0 where
  pub newer : List Exchange
  pub before : List Exchange
  pub parts : told ≡ newer ++ before
  pub access : Access
  pub failure : EndsInFailure unit access before

-- the newest frames are those of a checked read of the location that failed
abbrev pub EndsUnread : ℕ → ℕ → List Exchange → Type 0
EndsUnread unit location told = EndsInFailure unit (ReadFrom (block location 1)) told

-- or of one of the length or of the content format
abbrev pub EndsUnlooked : Pace → ℕ → List Exchange → Type 0
EndsUnlooked Checked unit told = EndsUnread unit 0x00 told ⊎ EndsUnread unit 0x11 told ⊎ EndsUnread unit 0x12 told
EndsUnlooked Short unit told = EndsUnread unit 0x00 told ⊎ EndsInFailure unit (ReadFrom (block 0x11 2)) told

-- After older exchanges the plan was to make an access whose failure isn't made good by reading again; each of its most
-- tries missed; after it the session gave up.
pub record FailedForGood (unit : ℕ) (plan : Plan) (told : List Exchange) : Type 0 where
  pub newer : List Exchange
  pub tries : List Exchange
  pub older : List Exchange
  pub parts : told ≡ newer ++ (tries ++ older)
  pub access : Access
  pub after : Option (List ℕ) → Plan
  pub before : List (Option (List ℕ))
  pub came : Walk unit plan before older (Make access after)
  pub last : after None ≡ give_up
  pub failed : Misses (access_requests unit access) most_tries tries
  pub later : List (Option (List ℕ))
  pub gave_up : Walk unit give_up later newer (Finish Doubt)

-- After older exchanges the plan was to read one of the rows that aren't read again, which must hold its bytes; the
-- read told others; after it the session gave up.
pub record FoundAnother (unit : ℕ) (plan : Plan) (expected : List (ℕ × List ℕ)) (told : List Exchange) : Type 0 where
  pub newer : List Exchange
  pub read : List Exchange
  pub older : List Exchange
  pub parts : told ≡ newer ++ (read ++ older)
  pub location : ℕ
  pub bytes : List ℕ
  pub is_expected : Contains expected (location, bytes)
  pub few : length bytes ≤ most_once
  pub before : List (Option (List ℕ))
  pub after : Plan
  pub came : Walk unit plan before older (expect give_up location bytes after)
  pub found : List ℕ
  pub answered : Succeeds (access_requests unit (ReadFrom (block location (length bytes)))) (Some found) read
  pub another : found ≢ bytes
  pub later : List (Option (List ℕ))
  pub gave_up : Walk unit give_up later newer (Finish Doubt)

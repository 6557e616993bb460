-- Why a session came to no good end: its first access that failed and wasn't read again, or after which it gave up
-- since another byte was read back.
use Rattle.std.specs.Prelude.{◌≡◌, ◌≢◌, ◌≤◌, ℕ, Bool, true, false, ◌==◌, List, [], ◌∷◌, ◌++◌, length, slice_get, Option, Some}
use Rattle.std.specs.Prelude.{None, if◌then◌else◌}
use Rattle.dali_bus.specs.Hears.{up}
use Rattle.dali_write.specs.declared.access.Access.{Access}
use Rattle.dali_write.specs.declared.access.Access.TheVariants.{ReadFrom, WriteTo, WriteOn}
use Rattle.dali_write.specs.declared.ask.Cause.{Cause}
use Rattle.dali_write.specs.declared.ask.Cause.TheVariants.{Unread, Unwritten, Another}
use Rattle.dali_write.specs.declared.block.Block.{Block}
use Rattle.dali_write.specs.Exchanges.{Exchange}
use Rattle.dali_write.specs.Requests.{access_requests, moved_on}
use Rattle.dali_write.specs.Plans.{Plan, Make, plan_after, read_backs, most_once}
use Rattle.dali_write.specs.Tries.{Succeeds}
use Rattle.dali_write.specs.Doubts.{HasFailed}
use Rattle.dali_write.specs.Touches.{Has}

-- the access failed
abbrev pub failure : Access → Cause
failure (ReadFrom block) = Unread block.location
failure (WriteTo location byte) = Unwritten location
failure (WriteOn before location byte) = Unwritten location

-- the byte is the one that has to be there
abbrev pub is_wanted : List (ℕ × ℕ) → ℕ → ℕ → Bool
is_wanted [] location byte = false
is_wanted (own ∷ wanted) location byte =
    if own.0 == location then own.1 == byte else is_wanted wanted location byte

-- the first of the bytes, read from a location on, that isn't the one that has to be there; if each is, the last one
abbrev pub another : List (ℕ × ℕ) → ℕ → List ℕ → Cause
another wanted location [] = Another location 0
another wanted location (byte ∷ []) = Another location byte
another wanted location (byte ∷ next ∷ bytes) =
    if is_wanted wanted location byte then another wanted (up location) (next ∷ bytes) else Another location byte

-- after a read that succeeded, the session goes on by a write only if it gives up
abbrev pub is_write : Plan → Bool
is_write (Make (WriteTo location byte) after) = true
is_write (Make (WriteOn before location byte) after) = true
is_write plan = false

-- and after a read that failed, by a read only if it reads the row again
abbrev pub is_read : Plan → Bool
is_read (Make (ReadFrom block) after) = true
is_read plan = false

abbrev pub cause_by : List (ℕ × ℕ) → Plan → Option (List ℕ) → Option Cause
cause_by updates (Make (ReadFrom block) after) None =
    if is_read (after None) then None else Some (failure (ReadFrom block))
cause_by updates (Make (WriteTo location byte) after) None = Some (failure (WriteTo location byte))
cause_by updates (Make (WriteOn before location byte) after) None = Some (failure (WriteOn before location byte))
cause_by updates (Make (ReadFrom block) after) (Some bytes) =
    if is_write (after (Some bytes)) then Some (another (read_backs updates) block.location bytes) else None
cause_by updates plan outcome = None

-- the first of two causes
abbrev pub first_of : Option Cause → Option Cause → Option Cause
first_of None later = later
first_of (Some cause) later = Some cause

-- after these outcomes, the newest first
abbrev pub cause_after : List (ℕ × ℕ) → Plan → List (Option (List ℕ)) → Option Cause
cause_after updates plan [] = None
cause_after updates plan (outcome ∷ outcomes) =
    first_of (cause_after updates plan outcomes) (cause_by updates (plan_after plan outcomes) outcome)

-- ---- what a cause says of the exchanges

-- Of the bytes of a block, read from its location on, this is the first that is another one than has to be there: those
-- before it are the ones of their places.
pub record IsFirstOther (wanted : List (ℕ × ℕ)) (block : Block) (bytes : List ℕ) (location byte : ℕ) : Type 0 where
  pub before : List ℕ
  pub behind : List ℕ
  pub parts : bytes ≡ before ++ (byte ∷ behind)
  pub place : location ≡ moved_on block.location (length before)
  pub as_wanted : (index own : ℕ) → slice_get before index ≡ Some own → Has wanted (moved_on block.location index) own
  pub other : (own : ℕ) × Has wanted location own × (byte ≢ own)

-- a block was read that isn't read again and has such a byte
pub record ReadAnother (unit : ℕ) (updates : List (ℕ × ℕ)) (told : List Exchange) (location byte : ℕ) : Type 0 where
  pub newer : List Exchange
  pub read : List Exchange
  pub older : List Exchange
  pub parts : told ≡ newer ++ (read ++ older)
  pub block : Block
  pub few : block.count ≤ most_once
  pub bytes : List ℕ
  pub answered : Succeeds (access_requests unit (ReadFrom block)) (Some bytes) read
  pub first : IsFirstOther (read_backs updates) block bytes location byte

-- each try of an access missed, or such a byte was read
abbrev pub IsShown : ℕ → List (ℕ × ℕ) → List Exchange → Cause → Type 0
IsShown unit updates told (Another location byte) = ReadAnother unit updates told location byte
IsShown unit updates told cause = (failed : HasFailed unit told) × (cause ≡ failure failed.access)

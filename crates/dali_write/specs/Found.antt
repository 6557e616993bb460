-- The bytes that a session has found in its accesses so far.
use Rattle.std.specs.Prelude.{◌≡◌, ℕ, Bool, true, false, List, [], ◌++◌, ◌∷◌, Option, Some, None, nat_le, if◌then◌else◌}
use Rattle.dali_write.specs.Exchanges.{Exchange}
use Rattle.dali_write.specs.declared.request.Request.{Request}
use Rattle.dali_write.specs.Blocks.{most_locations}
use Rattle.dali_write.specs.declared.stage.Task.{Task}
use Rattle.dali_write.specs.declared.stage.Task.TheVariants.{Reading, ReadingBlock}
use Rattle.dali_write.specs.Plans.{Plan}
use Rattle.dali_write.specs.declared.ask.Cause.{Cause}
use Rattle.dali_write.specs.Causes.{cause_after}
use Rattle.dali_write.specs.Stages.{plan_of, updates_for}
use Rattle.dali_write.specs.Tries.{Stands}

-- the bytes that an access has read
abbrev pub read_by : Option (List ℕ) → List ℕ
read_by None = []
read_by (Some bytes) = bytes

-- those of accesses that are listed newest first, the oldest first
abbrev pub found : List (Option (List ℕ)) → List ℕ
found [] = []
found (newest ∷ older) = found older ++ read_by newest

-- a session of a block reads no more locations than a block may have
abbrev pub is_small : Task → Bool
is_small (ReadingBlock block) = nat_le block.count most_locations
is_small task = true

-- a session that reads keeps what it has read
abbrev pub keeps : Task → Bool
keeps Reading = true
keeps (ReadingBlock block) = true
keeps task = false

-- what is kept once more bytes were read
abbrev pub kept_after : Task → List ℕ → List ℕ → List ℕ
kept_after task bytes more = if keeps task then bytes ++ more else bytes

-- The exchanges are whole accesses with these outcomes, then missed tries of the access at hand, then the try at hand,
-- whose reads told the bytes `tried`. The session keeps the bytes that the whole accesses read, in their order, and why
-- it comes to no good end.
pub record StandsWith (task : Task) (unit : ℕ) (told : List Exchange) (now : Plan) (misses : ℕ) (left : List Request)
    (tried bytes : List ℕ) (cause : Option Cause) : Type 0 where
  pub outcomes : List (Option (List ℕ))
  pub stands : Stands unit (plan_of task) outcomes told now misses left tried
  pub bytes_are : bytes ≡ (if keeps task then found outcomes else [])
  pub cause_is : cause ≡ cause_after (updates_for task) (plan_of task) outcomes

-- what a session keeps after these exchanges
abbrev pub ReadsSoFar : Task → ℕ → List Exchange → List ℕ → Type 0
ReadsSoFar task unit told bytes =
    (now : Plan) × (misses : ℕ) × (left : List Request) × (tried : List ℕ) × (cause : Option Cause)
    × StandsWith task unit told now misses left tried bytes cause

-- why it comes to no good end, as far as these tell
abbrev pub IsCause : Task → ℕ → List Exchange → Option Cause → Type 0
IsCause task unit told cause =
    (now : Plan) × (misses : ℕ) × (left : List Request) × (tried : List ℕ) × (bytes : List ℕ)
    × StandsWith task unit told now misses left tried bytes cause

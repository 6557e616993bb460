-- The facts in the world when a record is kept.
use Rattle.std.specs.Prelude.{◌≡◌, ℕ, false, List, [], ◌∷◌, Some, None, ⊤}
use Rattle.dali_bus.specs.World.{World, byte_at, is_enabled}
use Rattle.dali_journal.specs.declared.record.Record.{Record}
use Rattle.dali_journal.specs.declared.standing.Standing.{Standing}
use Rattle.dali_journal.specs.Sentence.{Allows, next_standing, named_unit}
use Rattle.dali_write.specs.Worlds.{IsAmong}
use Rattle.dali_bus.specs.Power.{MayRelock}
use Rattle.dali_trace.specs.declared.happening.Happening.{Happening}
use Rattle.dali_trace.specs.declared.happening.Happening.TheVariants.{Kept}
use Rattle.dali_trace.specs.Trace.{Start, standing_at, powered_of}
use Rattle.dali_trace.specs.Grounds.{Grounds}

-- the unit's location in bank 1 holds the byte, or is the lock byte of one of these units, which have lost their power,
-- and FFh since then
abbrev pub Holds : List ℕ → World → ℕ → ℕ → ℕ → Type 0
Holds lost now unit location byte =
    MayRelock (IsAmong lost unit) 1 location (Some byte) (byte_at now unit 1 location)

-- a unit that the records name no more, once this one is kept, isn't enabled: that of an order which ends as Done or
-- Doubt, and a left one that is closed
abbrev pub IsLetGo : World → Standing → Record → Type 0
IsLetGo now stands entry =
    (unit : ℕ) → named_unit stands ≡ Some unit → named_unit (next_standing stands entry) ≡ None
    → is_enabled now unit ≡ false

-- the facts when this record is kept after records of this standing, if these units have lost their power: it may come
-- there, its grounds are so, and the unit that it lets go isn't enabled
pub record TellsTruth (lost : List ℕ) (now : World) (stands : Standing) (entry : Record) : Type 0 where
  pub allowed : Allows stands entry
  pub grounds : Grounds (Holds lost now) stands entry
  pub let_go : IsLetGo now stands entry

-- the record that was just kept, if one was, is true
abbrev pub WhenKept : Start → List Happening → World → Type 0
WhenKept start (Kept entry ∷ past) now = TellsTruth (powered_of [] past) now (standing_at start past) entry
WhenKept start other now = ⊤

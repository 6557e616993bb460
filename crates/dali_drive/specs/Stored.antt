-- The journal of a store, which is opened there, and what a stop leaves of it.
use Rattle.std.specs.Prelude.{◌⊎◌, ℕ, List, Option, Some, None, ⊤}
use Rattle.dali_journal.specs.declared.version.Version.TheVariants.{Two}
use Rattle.dali_journal.specs.declared.record.Record.{Record}
use Rattle.dali_journal.specs.Spelling.{journal_spelling}
use Rattle.dali_journal.specs.JournalState.{JournalState}
use Rattle.dali_store.specs.Stores.{Becomes, IsBetween}
use Rattle.dali_store.specs.Opened.{IsOpened, Loads, LoadsAlike}
use Rattle.dali_drive.specs.declared.stored.StoredFault.{StoredFault}
use Rattle.dali_drive.specs.declared.stored.StoredFault.TheVariants.{Open, Drive}
use Rattle.dali_drive.specs.Desks.{Failures, FailsOpen, ShowsFault}
use Rattle.dali_drive.specs.Transcript.{Streams}

-- the journal of what the store showed, and what it showed once that was opened: its bytes in version 2
pub record IsBegun (limit most : ℕ) (first : Streams) : Type 0 where
  pub journal : JournalState
  pub opened : IsOpened limit most first.journal journal
  pub middle : Option (List ℕ)
  pub written : Becomes first.journal middle (journal_spelling Two journal.records)

-- which streams have failed where this fault comes, as for a drive
abbrev pub StoredShows : StoredFault → Failures → Type 0
StoredShows (Open fault) failed = FailsOpen fault failed
StoredShows (Drive fault) failed = ShowsFault fault failed

-- the bytes in version 2 of the records that a store showed, followed by a first part of what was put until now
abbrev pub IsPartBehind : ℕ → Option (List ℕ) → Option (List ℕ) → List ℕ → Type 0
IsPartBehind limit None new c = ⊤
IsPartBehind limit (Some bytes) new c =
    (records : List Record) × Loads limit records bytes × IsBetween (Some (journal_spelling Two records)) new c

-- what a stop leaves: what it might have left before; or bytes that load to the records that the store showed; or these
-- records' bytes in version 2, followed by a first part of what was put until now
abbrev pub LeavesPart : ℕ → Option (List ℕ) → Option (List ℕ) → (List ℕ → Type 0) → List ℕ → Type 0
LeavesPart limit old new before c =
    before c ⊎ LoadsAlike limit old c ⊎ IsPartBehind limit old new c

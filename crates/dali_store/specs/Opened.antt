-- A store's bytes as a journal, and the effect of opening it.
use Rattle.std.specs.Prelude.{◌≡◌, ◌⊎◌, ◌≤◌, ℕ, List, Option, Some, None, length, ⊤, Bool, true, false}
use Rattle.std.specs.Io.KnownBytes.{Keeps}
use Rattle.dali_journal.specs.declared.record.Record.{Record}
use Rattle.dali_journal.specs.declared.version.Version.{Version}
use Rattle.dali_journal.specs.JournalState.{JournalState, AreKept, HoldsOrders}
use Rattle.dali_journal.specs.Loading.{IsLoadable, IsLoaded, IsLoadFault}
use Rattle.dali_store.specs.declared.opening.OpenFault.{OpenFault}
use Rattle.dali_store.specs.declared.opening.OpenFault.TheVariants.{Store, Journal, Join}
use Rattle.dali_store.specs.declared.store.StoreFault.TheVariants.{Failed, TooBig, NoMemory}
use Rattle.dali_store.specs.Stores.{Shows, IsLonger}

-- the bytes load to these records, in one version or the other
pub record Loads (limit : ℕ) (records : List Record) (bytes : List ℕ) : Type 0 where
  pub version : Version
  pub len : ℕ
  pub kept : AreKept version limit records
  pub loadable : IsLoadable version bytes records len

-- the journal of the bytes that a store shows: at most `most` bytes, of which `counted` count, in this version
pub record IsFound (limit most : ℕ) (seen : Option (List ℕ)) (journal : JournalState) (version : Version)
    (counted total : ℕ) : Type 0 where
  pub bytes : List ℕ
  pub shown : Shows seen bytes
  pub within : length bytes ≤ most
  pub total_is : total ≡ length bytes
  pub loaded : IsLoaded limit bytes journal counted version

-- the journal of what a store shows
pub record IsOpened (limit most : ℕ) (seen : Option (List ℕ)) (journal : JournalState) : Type 0 where
  pub version : Version
  pub counted : ℕ
  pub total : ℕ
  pub found : IsFound limit most seen journal version counted total

-- the known bytes load to some records, and these to the same
abbrev pub LoadsAlike : ℕ → Option (List ℕ) → List ℕ → Type 0
LoadsAlike limit None c = ⊤
LoadsAlike limit (Some bytes) c = (records : List Record) × Loads limit records bytes × Loads limit records c

-- the same of what is known then
abbrev pub StaysAlike : ℕ → Option (List ℕ) → Option (List ℕ) → Type 0
StaysAlike limit old None = ⊤
StaysAlike limit old (Some bytes) = LoadsAlike limit old bytes

-- what a stop may leave while a journal is opened: what it might have left before, or bytes of the same records
abbrev pub LeavesAlike : ℕ → Option (List ℕ) → (List ℕ → Type 0) → List ℕ → Type 0
LeavesAlike limit seen before c = before c ⊎ LoadsAlike limit seen c

-- Why a journal isn't opened. Nothing is changed if the bytes are no journal's, or too many, or there was no memory; a
-- store that failed holds the same bytes, or bytes of the same records. It follows no older ones here.
abbrev pub IsOpenFault : ℕ → ℕ → Option (List ℕ) → Option (List ℕ) → OpenFault → Type 0
IsOpenFault limit most old new (Journal fault) =
    ((bytes : List ℕ) × Shows old bytes × (length bytes ≤ most) × IsLoadFault HoldsOrders limit bytes fault)
    × Keeps old new
IsOpenFault limit most old new (Store TooBig) = IsLonger most old × Keeps old new
IsOpenFault limit most old new (Store NoMemory) = Keeps old new
IsOpenFault limit most old new (Store Failed) = Keeps old new ⊎ StaysAlike limit old new
IsOpenFault limit most old new (Join fault) = ⊥

abbrev pub is_store_failure : OpenFault → Bool
is_store_failure (Store Failed) = true
is_store_failure other = false

-- The journal that is asked about orders: that of a file, after the older ones as in a drive.
use Rattle.std.specs.Prelude.{◌≡◌, ◌⊎◌, ℕ, Bool, List, Option}
use Rattle.dali_journal.specs.declared.behind.JoinFault.{JoinFault}
use Rattle.dali_journal.specs.declared.version.Version.{Version}
use Rattle.dali_journal.specs.JournalState.{JournalState}
use Rattle.dali_drive.specs.Behind.{IsWhole}
use Rattle.dali_input.specs.declared.fault.InputFault.{InputFault}
use Rattle.dali_store.specs.Stores.{Shows}
use Rattle.dali_input.specs.declared.command_fault.Fault.{Fault}
use Rattle.dali_input.specs.declared.command_fault.Fault.TheVariants.{Input}
use Rattle.dali_input.specs.JournalInput.{IsJournalIn, IsUnloaded}
use Rattle.dali_link_commands.specs.declared.older.OlderFault.TheVariants.{Join}
use Rattle.dali_link_commands.specs.Older.{AreJoined, IsOlderFault, IsStoreFailure, fault_unjoined}

-- the journal of these bytes, without a cut record at their end, after the older one, if there is one
pub record IsAsked (older : Option JournalState) (bytes : List ℕ) (journal : JournalState) : Type 0 where
  pub own : JournalState
  pub counted : ℕ
  pub version : Version
  pub loaded : IsJournalIn bytes own counted version
  pub whole : IsWhole older own.limit own journal

-- the bytes that are known of a store are those of such a journal after the older one
abbrev pub IsReadAsked : Option JournalState → Option (List ℕ) → JournalState → Type 0
IsReadAsked older known journal = (bytes : List ℕ) × Shows known bytes × IsAsked older bytes journal

-- the fault of a store that can't be asked: it gave no bytes, or they are no journal's, or none that can follow the
-- older one
abbrev pub IsUnasked : Option JournalState → Option (List ℕ) → Bool → Bool → Fault → Type 0
IsUnasked older known failed failed_now fault =
    ((failure : InputFault) × (fault ≡ Input failure) × IsStoreFailure known failed failed_now failure)
    ⊎ ((bytes : List ℕ) × Shows known bytes × IsUnloaded bytes fault)
    ⊎ ((why : JoinFault) × (fault ≡ fault_unjoined why)
    × ((bytes : List ℕ) × Shows known bytes × IsOlderFault older bytes (Join why)))

-- the same after older ones, of which this is known in the order of their names
abbrev pub IsAskedAmong : Option (List ℕ) → List (Option (List ℕ)) → JournalState → Type 0
IsAskedAmong known knowns journal =
    (older : Option JournalState) × AreJoined knowns older × IsReadAsked older known journal

-- Older journals: which one journal they make, and why they make none.
use Rattle.std.specs.Prelude.{◌≡◌, ◌≢◌, ◌++◌, ◌⊎◌, ℕ, Bool, true, List, [], ◌∷◌, length, map, Option, Some, None, IsSomeAnd}
use Rattle.std.specs.Prelude.{⊤}
use Rattle.std.specs.Borrow.{Bor}
use Rattle.dali_journal.specs.declared.behind.JoinFault.{JoinFault}
use Rattle.dali_journal.specs.declared.behind.JoinFault.TheVariants.{NoMemory}
use Rattle.dali_journal.specs.declared.fault.JournalFault.TheVariants as journals
use Rattle.dali_journal.specs.declared.record.Record.{Record}
use Rattle.dali_journal.specs.declared.standing.Standing.TheVariants.{Idle}
use Rattle.dali_journal.specs.declared.version.Version.{Version}
use Rattle.dali_journal.specs.Behind.{IsJoinFault}
use Rattle.dali_journal.specs.JournalState.{JournalState}
use Rattle.dali_journal.specs.Sentence.{standing_of}
use Rattle.dali_input.specs.declared.fault.InputFault.{InputFault}
use Rattle.dali_input.specs.declared.fault.InputFault.TheVariants.{Memory, File, TooBig}
use Rattle.dali_store.specs.Stores.{IsLonger, Shows}
use Rattle.dali_input.specs.declared.command_fault.Fault.{Fault}
use Rattle.dali_input.specs.declared.command_fault.Fault.TheVariants as faults
use Rattle.dali_link_commands.specs.declared.older.OlderFault.{OlderFault}
use Rattle.dali_link_commands.specs.declared.older.OlderFault.TheVariants.{Unloaded, Cut, AtWork, Join}
use Rattle.dali_input.specs.JournalInput.{IsJournalIn, IsUnloaded, journal_limit}

-- the fault that is reported
abbrev pub fault_older : OlderFault → Fault
fault_older (Unloaded (faults.Input Memory)) = faults.Input Memory
fault_older (Unloaded (faults.Input File)) = faults.Input File
fault_older (Unloaded (faults.Journal journals.NoMemory)) = faults.Input Memory
fault_older (Unloaded other) = faults.Older
fault_older Cut = faults.Older
fault_older AtWork = faults.Older
fault_older (Join NoMemory) = faults.Input Memory
fault_older (Join other) = faults.Older

-- that of journals that are none together
abbrev pub fault_unjoined : JoinFault → Fault
fault_unjoined fault = fault_older (Join fault)

-- the records of the older journal, none if there is none
abbrev pub records_in : Option JournalState → List Record
records_in None = []
records_in (Some older) = older.records

-- the journal of these bytes, all of which count, which is at rest, after the older one: the records of both, at rest
-- too
pub record IsJoinedBehind (older : Option JournalState) (bytes : List ℕ) (journal : JournalState) : Type 0 where
  pub own : JournalState
  pub version : Version
  pub loaded : IsJournalIn bytes own (length bytes) version
  pub rests : standing_of own.records ≡ Idle
  pub records_are : journal.records ≡ own.records ++ records_in older
  pub stands : standing_of journal.records ≡ Idle

-- the journal of these bytes
pub record HasJournal (bytes : List ℕ) : Type 0 where
  pub own : JournalState
  pub counted : ℕ
  pub version : Version
  pub loaded : IsJournalIn bytes own counted version

-- why the bytes can't be used so
abbrev pub IsOlderFault : Option JournalState → List ℕ → OlderFault → Type 0
IsOlderFault older bytes (Unloaded fault) = IsUnloaded bytes fault
IsOlderFault older bytes Cut = (has : HasJournal bytes) × (has.counted ≢ length bytes)
IsOlderFault older bytes AtWork = (has : HasJournal bytes) × (standing_of has.own.records ≢ Idle)
IsOlderFault older bytes (Join fault) =
    (has : HasJournal bytes) × IsJoinFault fault has.own.records (records_in older)

-- the bytes that are known of a store are those of a journal that is at rest, and is joined so after the older one
abbrev pub IsReadBehind : Option JournalState → Option (List ℕ) → JournalState → Type 0
IsReadBehind older known journal = (bytes : List ℕ) × Shows known bytes × IsJoinedBehind older bytes journal

-- why no bytes of a store are durable: it has more than a journal may, memory ran out, which may come at any store, or
-- it has failed
abbrev pub IsStoreFailure : Option (List ℕ) → Bool → Bool → InputFault → Type 0
IsStoreFailure known failed failed_now TooBig = IsLonger journal_limit known × (failed_now ≡ failed)
IsStoreFailure known failed failed_now Memory = failed_now ≡ failed
IsStoreFailure known failed failed_now File = failed_now ≡ true
IsStoreFailure known failed failed_now other = ⊥

-- why a store can't be used after the older one: it gave no bytes, or they can't be used so
abbrev pub IsUnusedFor : Option JournalState → Option (List ℕ) → Bool → Bool → OlderFault → Type 0
IsUnusedFor older known failed failed_now why =
    ((failure : InputFault) × (why ≡ Unloaded (faults.Input failure))
    × IsStoreFailure known failed failed_now failure)
    ⊎ ((bytes : List ℕ) × Shows known bytes × IsOlderFault older bytes why)

-- and the fault that is reported
abbrev pub IsUnusable : Option JournalState → Option (List ℕ) → Bool → Bool → Fault → Type 0
IsUnusable older known failed failed_now fault =
    (why : OlderFault) × (fault ≡ fault_older why) × IsUnusedFor older known failed failed_now why

-- the bytes that are known are those of this journal, which is at rest
pub record IsReadAtRest (known : Option (List ℕ)) (own : JournalState) : Type 0 where
  pub bytes : List ℕ
  pub version : Version
  pub shown : Shows known bytes
  pub loaded : IsJournalIn bytes own (length bytes) version
  pub rests : standing_of own.records ≡ Idle

-- the same of each of these and of each of these journals, in order
abbrev pub AreReadAtRest : List (Option (List ℕ)) → List JournalState → Type 0
AreReadAtRest [] [] = ⊤
AreReadAtRest (known ∷ others) (own ∷ owns) = IsReadAtRest known own × AreReadAtRest others owns
AreReadAtRest others owns = ⊥

-- the records of journals that are named in this order, the newest first: so those of the last one are in front
abbrev pub records_named : List JournalState → List Record
records_named [] = []
records_named (oldest ∷ newer) = records_named newer ++ oldest.records

-- the one journal that they are, with the records of all, and at rest; none if and only if there are none
abbrev pub AreOne : List JournalState → Option JournalState → Type 0
AreOne [] whole = whole ≡ None
AreOne (oldest ∷ newer) whole = IsSomeAnd whole
    (λ journal. (journal.records ≡ records_named (oldest ∷ newer)) × (standing_of journal.records ≡ Idle))

-- each of the known ones is that of a journal at rest, and these are one
pub record AreJoined (knowns : List (Option (List ℕ))) (whole : Option JournalState) : Type 0 where
  pub owns : List JournalState
  pub at_rest : AreReadAtRest knowns owns
  pub are_one : AreOne owns whole

-- The first of the stores that can't be used, for which this fault is reported. Those before it are read, and their
-- journals are one. Those after it are left alone.
pub record IsFirstUnusable {S : Type 0} (seen : S → Option (List ℕ)) (failed : S → Bool) (befores afters : List S)
    (fault : Fault) : Type 0 where
  pub earlier : List S
  pub read : List S
  pub before : S
  pub after : S
  pub later : List S
  pub befores_are : befores ≡ earlier ++ (before ∷ later)
  pub afters_are : afters ≡ read ++ (after ∷ later)
  pub as_many : length read ≡ length earlier
  pub older : Option JournalState
  pub joined : AreJoined (map seen earlier) older
  pub unusable : IsUnusable older (seen before) (failed before) (failed after) fault

-- Of files by their names

-- what the files of these names have, if that is known
abbrev pub held_under : (List ℕ → Option (List ℕ)) → List (Bor (List ℕ)) → List (Option (List ℕ))
held_under has names = map (λ (name : Bor (List ℕ)). has name.now) names

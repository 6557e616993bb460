-- Orders that are driven or followed with the journal of a store, after older journals or none: their records come
-- after those of the store in one journal, and the store keeps its own alone.
use Rattle.std.specs.Prelude.{◌≡◌, ◌+◌, ◌++◌, ℕ, true, false, List, Option, Some, None, IfSome, option_map, drop, length}
use Rattle.dali_bank.specs.Order.{Contents}
use Rattle.dali_frame.specs.declared.forward.Frame.{Frame}
use Rattle.dali_journal.specs.declared.behind.JoinFault.{JoinFault}
use Rattle.dali_journal.specs.declared.record.Record.{Record}
use Rattle.dali_journal.specs.declared.version.Version.TheVariants.{Two}
use Rattle.dali_journal.specs.declared.standing.Standing.TheVariants.{Idle}
use Rattle.dali_journal.specs.Behind.{IsJoinFault}
use Rattle.dali_journal.specs.JournalState.{JournalState, AreKept, order_count}
use Rattle.dali_journal.specs.Orders.{kept_of}
use Rattle.dali_journal.specs.Sentence.{is_begun, standing_of}
use Rattle.dali_journal.specs.Spelling.{header, journal_spelling}
use Rattle.dali_store.specs.declared.opening.OpenFault.{OpenFault}
use Rattle.dali_store.specs.declared.opening.OpenFault.TheVariants.{Join}
use Rattle.dali_store.specs.Opened.{IsOpenFault, LeavesAlike}
use Rattle.dali_trace.specs.declared.happening.Happening.{Happening}
use Rattle.dali_trace.specs.declared.happening.Reply.{Reply}
use Rattle.dali_trace.specs.Replies.{IsReply, IsKnownReply}
use Rattle.dali_trace.specs.Trace.{Start, records_of}
use Rattle.dali_engine.specs.WriterState.{WriterState, start_by}
use Rattle.dali_trace.specs.declared.fault.DriveFault.{DriveFault}
use Rattle.dali_drive.specs.declared.following.Given.{Given}
use Rattle.dali_drive.specs.declared.stored.StoredFault.{StoredFault}
use Rattle.dali_drive.specs.declared.stored.StoredFault.TheVariants.{Open, Drive}
use Rattle.dali_drive.specs.Followed.{IsObservedFollow, IsObservedFollowBreak}
use Rattle.dali_drive.specs.Desks.{Look, IsDurableAt, IsUnfailed, with_journal}
use Rattle.dali_drive.specs.Driven.{BreaksOff, IsDrive}
use Rattle.dali_drive.specs.Observed.{IsObserved, IsObservedBreak}
use Rattle.dali_drive.specs.Stored.{IsBegun}
use Rattle.dali_drive.specs.Transcript.{Streams}
use Rattle.dali_write.specs.declared.pace.Pace.{Pace}

-- the journal of both: its own records and after them the older ones, for as many more orders as its own
pub record IsJoined (older : JournalState) (limit : ℕ) (own whole : JournalState) : Type 0 where
  pub kept : AreKept Two whole.limit whole.records
  pub records_are : whole.records ≡ own.records ++ older.records
  pub limit_is : whole.limit ≡ order_count older + limit

-- the same, if there is an older one
abbrev pub IsWhole : Option JournalState → ℕ → JournalState → JournalState → Type 0
IsWhole None limit own whole = whole ≡ own
IsWhole (Some older) limit own whole = IsJoined older limit own whole

-- the older one is at rest, and no stream of the desk has failed
abbrev pub IsReadyBehind : Option JournalState → Look → Type 0
IsReadyBehind older look = IfSome older (λ journal. standing_of journal.records ≡ Idle) × IsUnfailed look.failed

-- why they are none together
abbrev pub IsUnjoined : JoinFault → JournalState → Option JournalState → Type 0
IsUnjoined fault own None = ⊥
IsUnjoined fault own (Some older) = IsJoinFault fault own.records older.records

-- the journal that the store showed, and after it the older one, if there is one
pub record IsBegunBehind (older : Option JournalState) (limit most : ℕ) (first : Streams) : Type 0 where
  pub begun : IsBegun limit most first
  pub journal : JournalState
  pub whole : IsWhole older limit begun.journal journal

-- that is the journal which was opened, and its store shows its own records now
pub record IsOpenedBehind (older : Option JournalState) (limit most : ℕ) (first last : Streams)
    (journal : JournalState) : Type 0 where
  pub behind : IsBegunBehind older limit most first
  pub journal_is : behind.journal ≡ journal
  pub streams : last ≡ record first { journal = behind.begun.middle }

-- the journal was opened, and can't be joined to the older one
pub record IsUnjoinedAt (fault : JoinFault) (older : Option JournalState) (limit most : ℕ) (first : Streams)
    (last : Look) : Type 0 where
  pub begun : IsBegun limit most first
  pub why : IsUnjoined fault begun.journal older
  pub streams : last.streams ≡ record first { journal = begun.middle }
  pub settled : IsDurableAt last

-- why no journal of both is opened: that of the store isn't, and a stop leaves what it might have left before or the
-- same records; or they are none together
abbrev pub EndsUnopened : Option JournalState → ℕ → ℕ → OpenFault → Look → Look → Type 0
EndsUnopened older limit most (Join fault) first last = IsUnjoinedAt fault older limit most first.streams last
EndsUnopened older limit most fault first last =
    IsOpenFault limit most first.streams.journal last.streams.journal fault
    × (last.streams ≡ with_journal first.streams last.streams)
    × ((c : List ℕ) → last.may_leave c → LeavesAlike limit first.streams.journal first.may_leave c)

-- a drive from that journal, over its store
pub record IsStoredDrive (older : Option JournalState) (limit most : ℕ) (pace : Pace) (orders : List (Contents × ℕ))
    (first : Streams) (writer : WriterState) (last : Streams) : Type 0 where
  pub behind : IsBegunBehind older limit most first
  pub drive : IsDrive (start_by pace behind.journal) orders (record first { journal = behind.begun.middle }) writer last

-- one that broke off, and of which a stop leaves at least what was kept before the step that was broken off
pub record IsStoredBreak (older : Option JournalState) (limit most : ℕ) (pace : Pace) (orders : List (Contents × ℕ))
    (fault : DriveFault) (first : Streams) (last : Look) : Type 0 where
  pub behind : IsBegunBehind older limit most first
  pub breaks : BreaksOff (start_by pace behind.journal) orders fault (record first { journal = behind.begun.middle })
      last.streams last.may_leave

-- why not all was driven
abbrev pub EndsAtFault : Option JournalState → ℕ → ℕ → Pace → List (Contents × ℕ) → StoredFault → Look → Look → Type 0
EndsAtFault older limit most pace orders (Open fault) first last = EndsUnopened older limit most fault first last
EndsAtFault older limit most pace orders (Drive fault) first last =
    IsStoredBreak older limit most pace orders fault first.streams last

pub record IsFollowBehind {G B : Type 0} (gave : G → G → List Given → Type 0) (over : G → Type 0)
    (told : Start → B → B → List Happening → Type 0) (older : Option JournalState) (limit most : ℕ) (pace : Pace)
    (orders : G) (first : Streams) (before : B) (writer : WriterState) (orders_left : G) (last : Streams) (after : B)
    : Type 0 where
  pub behind : IsBegunBehind older limit most first
  pub observed : IsObservedFollow gave over told (start_by pace behind.journal) orders
      (record first { journal = behind.begun.middle }) before writer orders_left last after

pub record IsFollowBehindBreak {G B : Type 0} (gave : G → G → List Given → Type 0)
    (told : Start → B → B → List Happening → Type 0)
    (told_end : Start → B → B → List Happening → DriveFault → Frame → List ℕ → Type 0) (older : Option JournalState)
    (limit most : ℕ) (pace : Pace) (orders : G) (fault : DriveFault) (first : Streams) (before : B) (orders_left : G)
    (last : Streams) (after : B) (may_leave : List ℕ → Type 0) : Type 0 where
  pub behind : IsBegunBehind older limit most first
  pub observed : IsObservedFollowBreak gave told told_end (start_by pace behind.journal) orders fault
      (record first { journal = behind.begun.middle }) before orders_left last after may_leave

-- a drive of a list after an older journal, if there is one
pub record IsDriveBehind {B : Type 0} (told : Start → B → B → List Happening → Type 0) (older : Option JournalState)
    (limit most : ℕ) (pace : Pace) (orders : List (Contents × ℕ)) (first : Streams) (before : B) (writer : WriterState)
    (last : Streams) (after : B) : Type 0 where
  pub behind : IsBegunBehind older limit most first
  pub observed : IsObserved told (start_by pace behind.journal) orders (record first { journal = behind.begun.middle })
      before writer last after

pub record IsDriveBehindBreak {B : Type 0} (told : Start → B → B → List Happening → Type 0)
    (told_end : Start → B → B → List Happening → DriveFault → Frame → List ℕ → Type 0) (older : Option JournalState)
    (limit most : ℕ) (pace : Pace) (orders : List (Contents × ℕ)) (fault : DriveFault) (first : Streams) (before : B)
    (last : Streams) (after : B) (may_leave : List ℕ → Type 0) : Type 0 where
  pub behind : IsBegunBehind older limit most first
  pub observed : IsObservedBreak told told_end (start_by pace behind.journal) orders fault
      (record first { journal = behind.begun.middle }) before last after may_leave

-- why not all was followed
abbrev pub EndsBehind : {G B : Type 0} → (G → G → List Given → Type 0) → (Start → B → B → List Happening → Type 0)
    → (Start → B → B → List Happening → DriveFault → Frame → List ℕ → Type 0) → Option JournalState → ℕ → ℕ → Pace → G
    → StoredFault → Look → B → G → Look → B → Type 0
EndsBehind gave told told_end older limit most pace orders (Open fault) first before orders_left last after =
    EndsUnopened older limit most fault first last × (orders_left ≡ orders) × (after ≡ before)
EndsBehind gave told told_end older limit most pace orders (Drive fault) first before orders_left last after =
    IsFollowBehindBreak gave told told_end older limit most pace orders fault first.streams before orders_left
    last.streams after last.may_leave

-- With older journals each order acts once: none of the older orders is begun again, each gets the reply that they keep
-- for it, or its number is another order's, and the records that the store keeps are a journal by themselves.
pub record ActsOnceBehind (older : JournalState) (limit : ℕ) (start : Start) (past : List Happening) : Type 0 where
  pub own : List Record
  pub records_are : records_of start past ≡ own ++ older.records
  pub alone : AreKept Two limit own
  pub apart : (id : ℕ) → is_begun id older.records ≡ true → is_begun id own ≡ false
  pub known : (order : Contents) (reply : Reply) → is_begun order.id older.records ≡ true
      → IsReply start past order reply → IsKnownReply order (kept_of order.id older.records) reply

-- A store's bytes together with older records

-- the bytes of both as one journal's: those of the older records, followed by the store's without their header
abbrev pub bytes_behind : List Record → List ℕ → List ℕ
bytes_behind older own = journal_spelling Two older ++ drop (length (header Two)) own

-- the same streams, if the journal's bytes are those of both
abbrev pub streams_behind : List Record → Streams → Streams
streams_behind older streams = record streams { journal = option_map (bytes_behind older) streams.journal }

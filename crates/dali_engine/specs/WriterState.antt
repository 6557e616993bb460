-- The view that contracts have of a writer.
use Rattle.std.specs.Prelude.{◌≡◌, ◌⊎◌, ℕ, false, [], length}
use Rattle.dali_bank.specs.Order.{Contents, AreUpdates}
use Rattle.dali_journal.specs.declared.record.Record.TheVariants.{Began}
use Rattle.dali_journal.specs.declared.standing.Standing.{Standing}
use Rattle.dali_journal.specs.declared.standing.Standing.TheVariants as standings
use Rattle.dali_journal.specs.Sentence.{standing_of}
use Rattle.dali_journal.specs.Orders.{orders_of}
use Rattle.dali_journal.specs.JournalState.{JournalState, MayBegin}
use Rattle.dali_write.specs.declared.ask.Verdict.{Verdict}
use Rattle.dali_write.specs.declared.ask.Verdict.TheVariants as verdicts
use Rattle.dali_write.specs.Counts.{opened_limit}
use Rattle.dali_write.specs.declared.session.Session.{Session}
use Rattle.dali_write.specs.Told.{Told, frames_left, unit_of, IsFresh, IsOpened, IsClosing}
use Rattle.dali_engine.specs.declared.phase.Phase.{Phase}
use Rattle.dali_engine.specs.declared.phase.Phase.TheVariants.{Idle, Begins, Checks, Writes, Closes, Says}
use Rattle.dali_trace.specs.Trace.{Start, is_at_work}
use Rattle.dali_trace.specs.Legal.{EndsAs}
use Rattle.dali_engine.specs.Phases.{check_code}
use Rattle.dali_write.specs.declared.pace.Pace.{Pace}

-- its journal, what it is about to do, and the plan that it keeps to
pub record WriterState : Type 0 where
  pub journal : JournalState
  pub phase : Phase
  pub pace : Pace

-- the records and the limit of a journal, and the plan
abbrev pub start_by : Pace → JournalState → Start
start_by pace journal = record { records = journal.records; limit = journal.limit; pace = pace }

-- what a writer starts from
abbrev pub start_of : WriterState → Start
start_of w = start_by w.pace w.journal

-- the journal's standing is as the phase needs it: it may begin the order that waits, the order at work is that of the
-- session, the unit that is closed is the one that was left, and the order that ended is the newest
abbrev pub IsReady : Pace → Phase → JournalState → Type 0
IsReady pace Idle journal = is_at_work (standing_of journal.records) ≡ false
IsReady pace (Begins order moment) journal = (standing_of journal.records ≡ standings.Idle)
    × MayBegin journal (Began order moment)
IsReady pace (Checks order s) journal =
    (standing_of journal.records ≡ standings.Began order) × IsFresh order pace s × AreUpdates order.updates
IsReady pace (Writes order s) journal =
    (standing_of journal.records ≡ standings.Opened order) × IsOpened order pace s × AreUpdates order.updates
IsReady pace (Closes order moment s) journal =
    (standing_of journal.records ≡ standings.Left (unit_of s)) × IsClosing (unit_of s) s
    × MayBegin journal (Began order moment)
IsReady pace (Says id code) journal =
    (is_at_work (standing_of journal.records) ≡ false) × EndsAs id code (orders_of journal.records)

-- what comes after a fresh session for the order that ended so
abbrev pub IsAfterCheck : Pace → Contents → Verdict → Phase → Type 0
IsAfterCheck pace order verdicts.MayOpen phase =
    (s : Session) × (phase ≡ Writes order s) × IsOpened order pace s × Told [] s × AreUpdates order.updates
    × (frames_left s ≡ opened_limit (length order.updates))
IsAfterCheck pace order verdict phase = phase ≡ Says order.id (check_code verdict)

-- what comes first for an order that is taken: a unit that was left is closed
abbrev pub IsFirst : Standing → Contents → ℕ → Phase → Type 0
IsFirst (standings.Left unit) order moment phase =
    (s : Session) × (phase ≡ Closes order moment s) × (unit_of s ≡ unit) × IsClosing unit s × Told [] s
IsFirst standings.Idle order moment phase = phase ≡ Begins order moment
IsFirst (standings.Began other) order moment phase = phase ≡ Begins order moment
IsFirst (standings.Opened other) order moment phase = phase ≡ Begins order moment

-- the first phase with this standing of the journal: an order that was begun is looked at anew, one that was opened is
-- carried out anew, and a unit that was left waits for an order
abbrev pub IsResumed : Pace → Standing → Phase → Type 0
IsResumed pace (standings.Began order) phase =
    (s : Session) × (phase ≡ Checks order s) × IsFresh order pace s × Told [] s × AreUpdates order.updates
IsResumed pace (standings.Opened order) phase =
    (s : Session) × (phase ≡ Writes order s) × IsOpened order pace s × Told [] s × AreUpdates order.updates
IsResumed pace other phase = phase ≡ Idle

-- the writer is at rest: nothing is to be done, or it is as it was made from its journal
abbrev pub IsAtRest : WriterState → Type 0
IsAtRest w = (w.phase ≡ Idle) ⊎ IsResumed w.pace (standing_of w.journal.records) w.phase

-- Which traces describe a writer.
use Rattle.std.specs.Prelude.{◌≡◌, true, false, List, ◌++◌, Some}
use Rattle.dali_write.specs.Exchanges.{Exchange}
use Rattle.dali_write.specs.declared.session.Session.{Session}
use Rattle.dali_write.specs.Told.{Told}
use Rattle.dali_trace.specs.declared.happening.Happening.{Happening}
use Rattle.dali_engine.specs.declared.phase.Phase.{Phase}
use Rattle.dali_engine.specs.declared.phase.Phase.TheVariants.{Idle, Begins, Checks, Writes, Closes, Says}
use Rattle.dali_trace.specs.Trace.{pace_at, Start, records_of, sent_of, sent_since_taken, waiting, waiting_since, is_unsaid, has_ended}
use Rattle.dali_trace.specs.Legal.{Legal, IsFinished}
use Rattle.dali_engine.specs.WriterState.{WriterState}

-- the session has seen the newest of these exchanges
abbrev pub ToldNewest : List Exchange → Session → Type 0
ToldNewest sent s = (told : List Exchange) × (older : List Exchange) × (sent ≡ told ++ older) × Told told s

-- what the trace shows of a phase, beside the records
abbrev pub IsAt : Phase → List Happening → Type 0
IsAt Idle past = is_unsaid past ≡ false
IsAt (Begins order moment) past = (waiting past ≡ Some order) × (waiting_since past ≡ moment)
IsAt (Checks order s) past = ToldNewest (sent_of past) s
IsAt (Writes order s) past = ToldNewest (sent_of past) s
IsAt (Closes order moment s) past =
    (waiting past ≡ Some order) × (waiting_since past ≡ moment) × Told (sent_since_taken past) s
IsAt (Says id code) past = has_ended past ≡ true

-- a legal trace from the start, with no reply due, describes the writer: its records and its limit are the journal's,
-- its plan is the writer's, and it shows what the writer is about to do
pub record Describes (start : Start) (past : List Happening) (writer : WriterState) : Type 0 where
  pub legal : Legal start past
  pub finished : IsFinished past
  pub same : records_of start past ≡ writer.journal.records
  pub limit : start.limit ≡ writer.journal.limit
  pub pace : pace_at start past ≡ writer.pace
  pub place : IsAt writer.phase past

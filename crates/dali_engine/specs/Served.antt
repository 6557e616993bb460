-- The effect of serving an event on a writer, on a bus and on the trace.
use Rattle.std.specs.Prelude.{ℕ, List, [], ◌∷◌, reverse, Option, Some, None}
use Rattle.dali_bus.specs.Carry.{BusEvent}
use Rattle.dali_bus.specs.Chain.{Chain}
use Rattle.dali_journal.specs.declared.record.Record.{Record}
use Rattle.dali_trace.specs.declared.happening.Event.{Event}
use Rattle.dali_trace.specs.declared.happening.Event.TheVariants.{Stop}
use Rattle.dali_trace.specs.declared.happening.Happening.{Happening}
use Rattle.dali_trace.specs.declared.happening.Happening.TheVariants.{Kept, Stopped}
use Rattle.dali_trace.specs.Trace.{Start}
use Rattle.dali_trace.specs.Parts.{Part, AreParts}
use Rattle.dali_trace.specs.Moves.{MovesBy}
use Rattle.dali_trace.specs.Runs.{SendsAllProper, AsksAllProper}
use Rattle.dali_engine.specs.WriterState.{WriterState}
use Rattle.dali_engine.specs.Describes.{Describes}
use Rattle.dali_engine.specs.Follows.{Follows}
use Rattle.dali_write.specs.declared.pace.Pace.{Pace}

-- the trace after a stop, before which this record was still kept, if one was
abbrev pub stopped_after : Pace → Option Record → List Happening → List Happening
stopped_after pace (Some entry) past = Stopped pace ∷ Kept entry ∷ past
stopped_after pace None past = Stopped pace ∷ past

-- A stop that lets through this many bytes, and this record whole, if one: a trace that describes the writer, and that
-- it follows, goes on by the stop's part, and then describes the writer that began anew, and is followed by it.
pub record IsStop (bytes : ℕ) (old : WriterState) (kept : Option Record) (new : WriterState) : Type 0 where
  pub described : (start : Start) (past : List Happening) → Describes start past old
      → Describes start (stopped_after old.pace kept past) new
  pub follows : (start : Start) (past : List Happening) → Describes start past old → Follows start past old
      → Follows start (stopped_after old.pace kept past) new
  pub part : (start : Start) (past : List Happening) → Describes start past old → Follows start past old
      → Part start (Stop bytes) past (stopped_after old.pace kept past)

-- An event that was served, from a bus, a writer and a trace to those after it: the trace went on by the event's part,
-- and describes the writer, is followed by it and leads to the bus, sends proper frames and asks for proper orders, if
-- it did before.
pub record IsServed {S : Type 0} (step : S → BusEvent → S → Type 0) (event : Event) (bus : S) (writer : WriterState)
    (past : List Happening) (new_bus : S) (new_writer : WriterState) (new_past : List Happening) : Type 0 where
  pub described : (start : Start) → Describes start past writer → Describes start new_past new_writer
  pub follows : (start : Start) → Describes start past writer → Follows start past writer
      → Follows start new_past new_writer
  pub part : (start : Start) → Describes start past writer → Follows start past writer
      → Part start event past new_past
  pub proper : SendsAllProper past → SendsAllProper new_past
  pub orders : AsksAllProper past → AsksAllProper new_past
  pub leads : (first : S) → Chain (MovesBy step) first past bus → Chain (MovesBy step) first new_past new_bus

-- Events that were served, from a bus and a writer to those after them and to the trace that they make: it is the
-- joined parts of the events, describes the writer, is followed by it and leads to the bus, if the empty trace
-- described the writer before them and was followed by it.
pub record AreServed {S : Type 0} (step : S → BusEvent → S → Type 0) (events : List Event) (bus : S)
    (writer : WriterState) (new_bus : S) (new_writer : WriterState) (past : List Happening) : Type 0 where
  pub described : (start : Start) → Describes start [] writer → Describes start past new_writer
  pub follows : (start : Start) → Describes start [] writer → Follows start [] writer → Follows start past new_writer
  pub parts : (start : Start) → Describes start [] writer → Follows start [] writer
      → AreParts start (reverse events) past
  pub proper : SendsAllProper past
  pub orders : AsksAllProper past
  pub leads : Chain (MovesBy step) bus past new_bus

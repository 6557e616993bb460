-- The state that a writer keeps inside.
use Rattle.dali_engine.specs.declared.writer.Writer.TheInside.{Inside}
use Rattle.dali_engine.specs.WriterState.{WriterState, IsReady}

abbrev pub writer_state : Inside → WriterState
writer_state w = record { journal = w.journal; phase = w.phase; pace = w.pace }

-- the journal is ready for what the writer is about to do
pub record IsConsistent (w : Inside) : Type 0 where
  pub ready : IsReady w.pace w.phase w.journal

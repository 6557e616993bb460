-- Which writers a trace leaves that keeps to the plans.
use Rattle.std.specs.Prelude.{List, ⊤}
use Rattle.dali_write.specs.Exchanges.{Exchange}
use Rattle.dali_write.specs.Told.{Told}
use Rattle.dali_trace.specs.declared.happening.Happening.{Happening}
use Rattle.dali_engine.specs.declared.phase.Phase.{Phase}
use Rattle.dali_engine.specs.declared.phase.Phase.TheVariants.{Checks, Writes, Closes}
use Rattle.dali_trace.specs.Trace.{Start}
use Rattle.dali_trace.specs.ByPlan.{told_in, ByPlan}
use Rattle.dali_engine.specs.WriterState.{WriterState}

-- the session of the phase has seen these exchanges
abbrev pub WasTold : Phase → List Exchange → Type 0
WasTold (Checks order s) told = Told told s
WasTold (Writes order s) told = Told told s
WasTold (Closes order moment s) told = Told told s
WasTold other told = ⊤

-- the trace keeps to the plans, and its newest frames are those of the writer's session
pub record Follows (start : Start) (past : List Happening) (writer : WriterState) : Type 0 where
  pub planned : ByPlan start past
  pub told : WasTold writer.phase (told_in past)

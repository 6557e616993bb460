use Rattle.std.proofs.Common.{List, []}
use Rattle.dali_trace.specs.declared.happening.Happening.{Happening}
use Rattle.dali_trace.specs.Trace.{Start}
use Rattle.dali_engine.specs.WorkLeft.{work_left}
use Rattle.dali_drive.specs.Desks.{IsAhead, Grows}
use Rattle.dali_drive.specs.Transcript.{Streams}
use Rattle.dali_drive.specs.WorkedOn.{IsDrivenAt, HasWorked}
use Rattle.dali_drive.proofs.driving.work.Given as goal

abbrev pub invariant-loop : goal.invariant-loop
invariant-loop g l = record {
  worked : (start : Start) (past : List Happening) (first : Streams) (since : g.row.B.Denot)
      → IsDrivenAt start past l.fn.writer first (g.D.Desk.look l.fn.desk).streams
      → g.B.Observer.told start since l.fn.observer past
      → HasWorked start past [] first l.writer (g.D.Desk.look l.fn.desk).streams (g.D.Desk.look l.desk).streams
      (g.B.Observer.told start since l.observer);
  ahead : IsAhead (g.D.Desk.look l.desk);
  grown : Grows g.D.Desk.look g.D.Desk.moment g.D.Desk.left_since g.D.Desk.same l.fn.desk l.desk;
}

abbrev pub decreases-loop : goal.decreases-loop
decreases-loop g l = work_left l.writer.phase

use Rattle.std.proofs.Common.{reverse, take}
use Rattle.dali_engine.specs.Served.{AreServed}
use Rattle.dali_engine.proofs.runs.serve_all.Given as goal

abbrev pub invariant-loop-event : goal.invariant-loop-event
invariant-loop-event g l = record {
  served :
      AreServed g.B.Bus.step (take l.event-index l.events) l.fn.bus l.fn.writer l.bus l.writer (reverse l.trace.items);
}

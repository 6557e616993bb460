use Rattle.std.proofs.Common.{◌∙◌, reverse, arith}
use Rattle.std.proofs.lemmas.List.{take_all}
use Rattle.std.proofs.lemmas.Result.{err_from_is_err_and}
use Rattle.dali_engine.proofs.RunLemmas.{none_served, one_more_served}
use Rattle.dali_engine.proofs.runs.serve_all.Goals as goal

pub loop-event-init : goal.loop-event-init
loop-event-init g c =
    rw c.new-trace.ensures.items (record { served = none_served g.B.Bus.step c.args.bus.now c.args.writer.now })

pub loop-event-preserved : goal.loop-event-preserved
loop-event-preserved g c = record {
  served =
      one_more_served g.B.Bus.step _ _ _ _ _ _ _ _ _ _ _ c.loop-event-test.true c.loop-event.invariant.served
      (rw c.event-item.is at c.in_ok-serve.ensures.ok);
}

pub returns-in_err-serve-clause-err : goal.returns-in_err-serve-clause-err
returns-in_err-serve-clause-err g c =
    let p = err_from_is_err_and c.from_residual.result c.from_residual.ensures.1 in
    rw (p.1, c.in_err-serve.ensures.err.1) (
      p.2 ∙ c.in_err-serve.ensures.err.0,
      (c.loop-event.event-index, c.loop-event.writer, reverse c.loop-event.trace.items, c.loop-event.invariant.served),
    )

pub returns-in_err-to_bytes-clause-err : goal.returns-in_err-to_bytes-clause-err
returns-in_err-to_bytes-clause-err g c =
    let p = err_from_is_err_and c.from_residual-in_err-to_bytes.result c.from_residual-in_err-to_bytes.ensures.1 in
    rw p.1 (
      p.2,
      (c.loop-event.event-index, c.loop-event.writer, reverse c.loop-event.trace.items, c.loop-event.invariant.served),
    )

pub returns-clause-ok : goal.returns-clause-ok
returns-clause-ok g c =
    rw (take_all c.loop-event.event-index c.args.events.now (omega (arith, c.loop-event-test.false)))
    at c.loop-event.invariant.served

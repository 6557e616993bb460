use Rattle.dali_trace.specs.Runs.{IsRun}
use Rattle.dali_engine.proofs.RunLemmas.{if_ok, on_err, nothing_served, cut_short, ran}
use Rattle.dali_engine.proofs.runs.run_with_pace.Goals as goal

pub returns-in-Ok-clause-ok : goal.returns-in-Ok-clause-ok
returns-in-Ok-clause-ok g c =
    if_ok c.serve_all.result _ _ (λ outcome. IsRun g.B.Bus.world g.B.Bus.step c.args.limit c.args.pace c.args.events.now
    c.args.bus.now outcome.trace.items outcome.journal.items c.serve_all.new.bus)
    (λ outcome are spelled.
    ran g.B.Bus.world g.B.Bus.step g.met.B.Bus.allowed c.args.limit c.args.pace c.args.events.now c.args.bus.now
    c.serve_all.new.bus c.in-Ok.writer c.serve_all.new.writer outcome.trace.items outcome.journal.items
    c.in-Ok.ensures.described c.in-Ok.ensures.follows are spelled)
    c.serve_all.ensures.ok c.serve_all.ensures.journal

pub returns-in-Ok-clause-err : goal.returns-in-Ok-clause-err
returns-in-Ok-clause-err g c =
    on_err c.serve_all.result _ _
    (λ fault short.
    cut_short g.B.Bus.world g.B.Bus.step g.met.B.Bus.allowed c.args.limit c.args.pace c.args.events.now short.1.0
    c.args.bus.now
    c.serve_all.new.bus c.in-Ok.writer short.1.1 short.1.2 c.in-Ok.ensures.described c.in-Ok.ensures.follows short.1.3)
    c.serve_all.ensures.err

pub returns-in-Err-clause-err : goal.returns-in-Err-clause-err
returns-in-Err-clause-err g c =
    nothing_served g.B.Bus.world g.B.Bus.step g.met.B.Bus.allowed c.args.limit c.args.pace c.args.events.now
    c.args.bus.now

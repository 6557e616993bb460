use Rattle.std.proofs.Common.{sym, Ok, Err}
use Rattle.dali_address.proofs.ServeLemmas.{none_sent, one_more, one_said, line_true, has_run, others_stay}
use Rattle.dali_address.proofs.serve.serve_addressing.Goals as goal

pub loop-call-init : goal.loop-call-init
loop-call-init g c =
    record { running = none_sent c.args.task _ c.new-run.result c.new-run.ensures.task c.new-run.ensures.told }

pub carry-answer-requires : goal.carry-answer-requires
carry-answer-requires g c =
    let running = c.loop-call.invariant.running in (c.in-Send.ensures.right running.past running.told).fits

pub loop-call-preserved-in-Send : goal.loop-call-preserved-in-Send
loop-call-preserved-in-Send g c = record {
  running =
      one_more c.args.task _ _ _ c.loop-call.run c.heard.new.self c.in-Send.call c.carry-answer.result
      c.loop-call.invariant.running c.carry-answer.ensures (sym c.in-Send.ensures.same) c.heard.ensures.task
      c.heard.ensures.told;
}

pub tell-requires : goal.tell-requires
tell-requires g c =
    line_true c.args.task _ _ c.loop-call.run c.in-Tell.line c.loop-call.invariant.running c.in-Tell.ensures.right

pub loop-call-preserved : goal.loop-call-preserved
loop-call-preserved g c = record {
  running =
      one_said c.args.task _ _ _ c.loop-call.run c.said.new.self c.in-Tell.line c.loop-call.invariant.running
      c.tell.ensures (sym c.in-Tell.ensures.same) c.said.ensures.task c.said.ensures.told;
}

pub returns-in-Ended-clause-ran : goal.returns-in-Ended-clause-ran
returns-in-Ended-clause-ran g c =
    has_run c.args.task _ _ c.loop-call.run (Ok c.in-Ended.summary) c.loop-call.invariant.running
    c.in-Ended.ensures.right

pub returns-in-Ended-clause-stay : goal.returns-in-Ended-clause-stay
returns-in-Ended-clause-stay g c leaves short random number rests =
    others_stay c.args.task _ _ (Ok c.in-Ended.summary)
    (has_run c.args.task _ _ c.loop-call.run (Ok c.in-Ended.summary) c.loop-call.invariant.running
    c.in-Ended.ensures.right) leaves short random number rests

pub returns-in-Taken-clause-ran : goal.returns-in-Taken-clause-ran
returns-in-Taken-clause-ran g c =
    has_run c.args.task _ _ c.loop-call.run (Err c.in-Taken.short) c.loop-call.invariant.running
    c.in-Taken.ensures.right

pub returns-in-Taken-clause-stay : goal.returns-in-Taken-clause-stay
returns-in-Taken-clause-stay g c leaves short random number rests =
    others_stay c.args.task _ _ (Err c.in-Taken.short)
    (has_run c.args.task _ _ c.loop-call.run (Err c.in-Taken.short) c.loop-call.invariant.running
    c.in-Taken.ensures.right) leaves short random number rests

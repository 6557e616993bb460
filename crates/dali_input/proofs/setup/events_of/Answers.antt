use Rattle.std.proofs.Common.{ap, sym, refl, [], append-nil, ◌+◌}
use Rattle.dali_input.specs.Scenario.{event_of}
use Rattle.dali_input.proofs.SetupLemmas.{more_events, first_order_fault}
use Rattle.dali_input.proofs.setup.events_of.Goals as goal
use Rattle.dali_input.proofs.setup.events_of.Goals.{in-Submit+in-Ok+in_ok-push-in-Ok}
use Rattle.dali_input.proofs.setup.events_of.Goals.{in-Steps+in_ok-push_steps-in-Steps, in-Stop+in_ok-push-in-Stop}
use Rattle.dali_input.proofs.setup.events_of.Goals.{in-Power+in_ok-push-in-Power}

pub loop-plan-preserved : goal.loop-plan-preserved
loop-plan-preserved c = record {
  made = elim c.match-plan.branch [
    | in-Submit+in-Ok+in_ok-push-in-Ok w ↦ rw (w.events-is, w.in_ok-push-in-Ok.ensures.items)
        (more_events c.args.plans.now c.loop-plan.plan-index _ _ _ _ c.loop-plan-test.true c.plan-item.is
        (ap event_of w.in-Submit.is) c.loop-plan.invariant.made
        (_, [], w.in-Ok.ensures.ok, refl, refl))
    | in-Steps+in_ok-push_steps-in-Steps w ↦ rw (w.events-is, w.in_ok-push_steps-in-Steps.ensures)
        (more_events c.args.plans.now c.loop-plan.plan-index _ _ _ _ c.loop-plan-test.true c.plan-item.is
        (ap event_of w.in-Steps.is) c.loop-plan.invariant.made
        ([], refl, sym (append-nil _)))
    | in-Stop+in_ok-push-in-Stop w ↦ rw (w.events-is, w.in_ok-push-in-Stop.ensures.items)
        (more_events c.args.plans.now c.loop-plan.plan-index _ _ _ _ c.loop-plan-test.true c.plan-item.is
        (ap event_of w.in-Stop.is) c.loop-plan.invariant.made
        ([], refl, refl))
    | in-Power+in_ok-push-in-Power w ↦ rw (w.events-is, w.in_ok-push-in-Power.ensures.items)
        (more_events c.args.plans.now c.loop-plan.plan-index _ _ _ _ c.loop-plan-test.true c.plan-item.is
        (ap event_of w.in-Power.is) c.loop-plan.invariant.made
        ([], refl, refl))
  ];
  counted = ap (λ n. n + 1) c.loop-plan.invariant.counted;
}

pub returns-in-Err-clause-err : goal.returns-in-Err-clause-err
returns-in-Err-clause-err c =
    first_order_fault c.args.plans.now c.loop-plan.plan-index c.loop-plan.number c.plan-item.result
    c.loop-plan.events.items _ c.in-Submit.moment c.in-Err.fault c.loop-plan-test.true c.plan-item.is
    c.loop-plan.invariant.counted (ap event_of c.in-Submit.is) c.loop-plan.invariant.made c.in-Err.ensures.err

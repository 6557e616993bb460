use Rattle.std.proofs.Common.{sym}
use Rattle.std.proofs.lemmas.List.{map-append}
use Rattle.std.proofs.lemmas.Result.{err_from_is_err_and}
use Rattle.serde_json.specs.View.{view}
use Rattle.dali_input.specs.Scenario.{IsUnit}
use Rattle.dali_input.proofs.ValueLemmas.{each_more, no_array_at}
use Rattle.dali_input.proofs.scenario.unit_plans.Goals as goal

pub returns-in_err-unit_plan-clause-err : goal.returns-in_err-unit_plan-clause-err
returns-in_err-unit_plan-clause-err c =
    let p = err_from_is_err_and c.from_residual.result c.from_residual.ensures.1 in
    rw (p.1, p.2, c.in-Some.is) (no_array_at IsUnit (view c.in-Some.json.now) _ c.loop-item.item-index _ _
    (rw c.deref-item-items.ensures.value (sym c.in-Some-as_array.ensures)) c.loop-item-test.true c.item-item.is
    c.in_err-unit_plan.ensures.err)

pub loop-item-preserved : goal.loop-item-preserved
loop-item-preserved c =
    rw (c.in_ok-push.ensures.items, map-append) (each_more IsUnit _ c.loop-item.item-index _ _ _ c.loop-item-test.true
    c.item-item.is c.loop-item.invariant c.in_ok-unit_plan.ensures.ok)

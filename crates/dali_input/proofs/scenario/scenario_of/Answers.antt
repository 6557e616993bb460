use Rattle.std.proofs.lemmas.Result.{err_from_is_err_and}
use Rattle.serde_json.specs.View.{view}
use Rattle.dali_input.specs.Scenario.{IsScenario}
use Rattle.dali_input.proofs.ValueLemmas.{needs}
use Rattle.dali_input.proofs.scenario.scenario_of.Goals as goal

pub returns-in_err-limit_in-clause-err : goal.returns-in_err-limit_in-clause-err
returns-in_err-limit_in-clause-err c =
    let p = err_from_is_err_and c.from_residual.result c.from_residual.ensures.1 in
    rw (p.1, p.2) (needs _ (IsScenario (view c.args.json.now)) _ (λ said is. (said.limit, rw c.get.ensures is.limit))
    c.in_err-limit_in.ensures.err)

pub returns-in_err-pace_in-clause-err : goal.returns-in_err-pace_in-clause-err
returns-in_err-pace_in-clause-err c =
    let p = err_from_is_err_and c.from_residual-in_err-pace_in.result c.from_residual-in_err-pace_in.ensures.1 in
    rw (p.1, p.2) (needs _ (IsScenario (view c.args.json.now)) _ (λ said is. (said.pace, rw c.get-2.ensures is.pace))
    c.in_err-pace_in.ensures.err)

pub returns-in_err-unit_plans-clause-err : goal.returns-in_err-unit_plans-clause-err
returns-in_err-unit_plans-clause-err c =
    let p = err_from_is_err_and c.from_residual-in_err-unit_plans.result c.from_residual-in_err-unit_plans.ensures.1 in
    rw (p.1, p.2) (needs _ (IsScenario (view c.args.json.now)) _ (λ said is. (said.units, rw c.get-3.ensures is.units))
    c.in_err-unit_plans.ensures.err)

pub returns-in_err-fate_plans-clause-err : goal.returns-in_err-fate_plans-clause-err
returns-in_err-fate_plans-clause-err c =
    let p = err_from_is_err_and c.from_residual-in_err-fate_plans.result c.from_residual-in_err-fate_plans.ensures.1 in
    rw (p.1, p.2) (needs _ (IsScenario (view c.args.json.now)) _ (λ said is. (said.fates, rw c.get-4.ensures is.fates))
    c.in_err-fate_plans.ensures.err)

pub returns-in_err-event_plans-clause-err : goal.returns-in_err-event_plans-clause-err
returns-in_err-event_plans-clause-err c =
    let p =
    err_from_is_err_and c.from_residual-in_err-event_plans.result c.from_residual-in_err-event_plans.ensures.1 in
    rw (p.1, p.2) (needs _ (IsScenario (view c.args.json.now)) _
    (λ said is. (said.events, rw c.get-5.ensures is.events)) c.in_err-event_plans.ensures.err)

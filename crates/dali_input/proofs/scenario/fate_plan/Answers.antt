use Rattle.std.proofs.lemmas.Result.{err_from_is_err_and}
use Rattle.serde_json.specs.View.{view}
use Rattle.dali_input.specs.Scenario.{IsFate}
use Rattle.dali_input.proofs.ValueLemmas.{needs}
use Rattle.dali_input.proofs.scenario.fate_plan.Goals as goal

pub returns-in_err-times_in-clause-err : goal.returns-in_err-times_in-clause-err
returns-in_err-times_in-clause-err c =
    let p = err_from_is_err_and c.from_residual.result c.from_residual.ensures.1 in
    rw (p.1, p.2) (needs _ (IsFate (view c.args.json.now)) _ (λ said is. (said.times, rw c.get.ensures is.times))
    c.in_err-times_in.ensures.err)

pub returns-in_err-lost_in-clause-err : goal.returns-in_err-lost_in-clause-err
returns-in_err-lost_in-clause-err c =
    let p = err_from_is_err_and c.from_residual-in_err-lost_in.result c.from_residual-in_err-lost_in.ensures.1 in
    rw (p.1, p.2) (needs _ (IsFate (view c.args.json.now)) _ (λ said is. (said.fate.lost, rw c.get-2.ensures is.lost))
    c.in_err-lost_in.ensures.err)

pub returns-in_err-boolean_in-clause-err : goal.returns-in_err-boolean_in-clause-err
returns-in_err-boolean_in-clause-err c =
    let p = err_from_is_err_and c.from_residual-in_err-boolean_in.result c.from_residual-in_err-boolean_in.ensures.1 in
    rw (p.1, p.2) (needs _ (IsFate (view c.args.json.now)) _
    (λ said is. (said.fate.answer_lost, rw c.get-3.ensures is.answer_lost)) c.in_err-boolean_in.ensures.err)

pub returns-in_err-boolean_in-2-clause-err : goal.returns-in_err-boolean_in-2-clause-err
returns-in_err-boolean_in-2-clause-err c =
    let p =
    err_from_is_err_and c.from_residual-in_err-boolean_in-2.result c.from_residual-in_err-boolean_in-2.ensures.1 in
    rw (p.1, p.2) (needs _ (IsFate (view c.args.json.now)) _
    (λ said is. (said.fate.refuse, rw c.get-4.ensures is.refuse)) c.in_err-boolean_in-2.ensures.err)

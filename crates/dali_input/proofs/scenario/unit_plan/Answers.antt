use Rattle.std.proofs.lemmas.Result.{err_from_is_err_and}
use Rattle.serde_json.specs.View.{view}
use Rattle.dali_input.specs.Scenario.{IsUnit}
use Rattle.dali_input.proofs.ValueLemmas.{needs}
use Rattle.dali_input.proofs.scenario.unit_plan.Goals as goal

pub returns-in_err-address_in-clause-err : goal.returns-in_err-address_in-clause-err
returns-in_err-address_in-clause-err c =
    let p = err_from_is_err_and c.from_residual.result c.from_residual.ensures.1 in
    rw (p.1, p.2) (needs _ (IsUnit (view c.args.json.now)) _ (λ said is. (said.address, rw c.get.ensures is.address))
    c.in_err-address_in.ensures.err)

pub returns-in_err-bank_in-clause-err : goal.returns-in_err-bank_in-clause-err
returns-in_err-bank_in-clause-err c =
    let p = err_from_is_err_and c.from_residual-in_err-bank_in.result c.from_residual-in_err-bank_in.ensures.1 in
    rw (p.1, p.2) (needs _ (IsUnit (view c.args.json.now)) _ (λ said is. (said.bank, rw c.get-2.ensures is.bank))
    c.in_err-bank_in.ensures.err)

pub returns-in_err-fixed_in-clause-err : goal.returns-in_err-fixed_in-clause-err
returns-in_err-fixed_in-clause-err c =
    let p = err_from_is_err_and c.from_residual-in_err-fixed_in.result c.from_residual-in_err-fixed_in.ensures.1 in
    rw (p.1, p.2) (needs _ (IsUnit (view c.args.json.now)) _ (λ said is. (said.fixed, rw c.get-3.ensures is.fixed))
    c.in_err-fixed_in.ensures.err)

pub returns-in_err-dtrs_in-clause-err : goal.returns-in_err-dtrs_in-clause-err
returns-in_err-dtrs_in-clause-err c =
    let p = err_from_is_err_and c.from_residual-in_err-dtrs_in.result c.from_residual-in_err-dtrs_in.ensures.1 in
    rw (p.1, p.2) (needs _ (IsUnit (view c.args.json.now)) _ (λ said is. (said.dtrs, rw c.get-4.ensures is.dtrs))
    c.in_err-dtrs_in.ensures.err)

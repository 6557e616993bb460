use Rattle.std.proofs.Common.{sym}
use Rattle.std.proofs.lemmas.Result.{err_from_is_err_and}
use Rattle.serde_json.specs.View.{view}
use Rattle.dali_input.proofs.KeyLemmas.{no_steps, no_bytes, no_address}
use Rattle.dali_input.proofs.scenario.event_plan.Goals as goal

pub returns-in_err-count-clause-err : goal.returns-in_err-count-clause-err
returns-in_err-count-clause-err c =
    let p = err_from_is_err_and c.from_residual-in_err-count.result c.from_residual-in_err-count.ensures.1 in
    rw (p.1, p.2) (no_steps (view c.args.json.now) (view c.in-Some-get.count.now) _ (sym c.in-Some-get.ensures)
    (rw c.from.ensures at c.in_err-count.ensures.err))

pub returns-in_err-bytes-clause-err : goal.returns-in_err-bytes-clause-err
returns-in_err-bytes-clause-err c =
    let p = err_from_is_err_and c.from_residual-in_err-bytes.result c.from_residual-in_err-bytes.ensures.1 in
    rw (p.1, p.2) (no_bytes (view c.args.json.now) (view c.in-Some-get-2.bytes.now) _ (sym c.in-Some-get-2.ensures)
    (rw c.from-in-Some-get-2.ensures at c.in_err-bytes.ensures.err))

pub returns-in_err-address-clause-err : goal.returns-in_err-address-clause-err
returns-in_err-address-clause-err c =
    let p = err_from_is_err_and c.from_residual-in_err-address.result c.from_residual-in_err-address.ensures.1 in
    rw (p.1, p.2) (no_address (view c.args.json.now) (view c.in-Some-get-3.address.now) _ (sym c.in-Some-get-3.ensures)
    c.in_err-address.ensures.err)

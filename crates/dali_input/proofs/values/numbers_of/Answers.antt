use Rattle.std.proofs.Common.{sym}
use Rattle.std.proofs.lemmas.Result.{err_from_is_err_and}
use Rattle.serde_json.specs.View.{view}
use Rattle.dali_input.specs.Values.{IsWhole}
use Rattle.dali_input.proofs.ValueLemmas.{each_more, no_array_at}
use Rattle.dali_input.proofs.values.numbers_of.Goals as goal

pub returns-in_err-number-clause-err : goal.returns-in_err-number-clause-err
returns-in_err-number-clause-err c =
    let p = err_from_is_err_and c.from_residual.result c.from_residual.ensures.1 in
    rw (p.1, p.2) (no_array_at (IsWhole 0 c.args.most) (view c.args.json.now) _ c.loop-item.item-index _ _
    (rw c.deref-item-items.ensures.value (sym c.in-Some.ensures)) c.loop-item-test.true c.item-item.is
    c.in_err-number.ensures.err)

pub loop-item-preserved : goal.loop-item-preserved
loop-item-preserved c =
    rw c.in_ok-push.ensures.items (each_more (IsWhole 0 c.args.most) _ c.loop-item.item-index _ _ _
    c.loop-item-test.true c.item-item.is c.loop-item.invariant c.in_ok-number.ensures.ok)

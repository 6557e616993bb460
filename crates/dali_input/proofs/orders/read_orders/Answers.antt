use Rattle.std.proofs.Common.{◌≡◌, arith}
use Rattle.std.proofs.lemmas.Result.{err_from_is_err_and}
use Rattle.serde_json.specs.Data.{no_items}
use Rattle.dali_input.proofs.OrderLemmas.{none_where, some_where, at_start, order_more, order_dropped, refusal_more}
use Rattle.dali_input.proofs.OrderLemmas.{all_orders, all_refused}
use Rattle.dali_input.proofs.ItemsLemmas.{memory_over_items}
use Rattle.dali_input.proofs.orders.read_orders.Goals as goal

pub items-init : goal.items-init
items-init c = record {
  counted = omega arith;
  so_far = λ all are. (all, are, rw (c.new-orders.ensures.items, c.new-refused.ensures.items) (at_start all));
}

pub items-preserved-then-is_empty : goal.items-preserved-then-is_empty
items-preserved-then-is_empty c = record {
  counted = omega (arith, c.items.invariant.counted, c.in-Some.ensures.fewer);
  so_far = λ all are.
      let (left, are_left, so_far) = c.items.invariant.so_far all are in
      let (source, others, next, is, after) = c.in-Some.ensures.next left are_left in (
        others,
        after,
        rw c.in_ok-push-in-Ok.ensures.items
            (order_more all left others source next _ _ _ so_far c.in-Ok.order
            (none_where c.items.refused.items _ _ c.items.refused.ok.0 c.is_empty.ensures c.if-is_empty.true)
            (c.in-Ok.ensures.ok source is)),
      );
}

pub items-preserved-else-is_empty : goal.items-preserved-else-is_empty
items-preserved-else-is_empty c = record {
  counted = omega (arith, c.items.invariant.counted, c.in-Some.ensures.fewer);
  so_far = λ all are.
      let (left, are_left, so_far) = c.items.invariant.so_far all are in
      let (source, others, next, is, after) = c.in-Some.ensures.next left are_left in (
        others,
        after,
        order_dropped all left others source next _ _ _ so_far c.in-Ok.order
            (some_where c.items.refused.items _ _ c.items.refused.ok.0 c.is_empty.ensures c.if-is_empty.false)
            (c.in-Ok.ensures.ok source is),
      );
}

pub items-preserved : goal.items-preserved
items-preserved c = record {
  counted = omega (arith, c.items.invariant.counted, c.in-Some.ensures.fewer);
  so_far = λ all are.
      let (left, are_left, so_far) = c.items.invariant.so_far all are in
      let (source, others, next, is, after) = c.in-Some.ensures.next left are_left in (
        others,
        after,
        rw c.in_ok-push-in-Err.ensures.items
            (refusal_more all left others source next _ _ _ so_far c.in-Err.fault (c.in-Err.ensures.err source is)),
      );
}

pub returns-then-is_empty-2-clause-ok : goal.returns-then-is_empty-2-clause-ok
returns-then-is_empty-2-clause-ok c =
    let (all, are_items, are) = c.in_ok-items.ensures.ok in
    let (left, are_left, so_far) = c.items.invariant.so_far all are in
    let none : left ≡ no_items = c.in_default.ensures.next left are_left in (
      all,
      are_items,
      all_orders all _ _ _ (rw none at so_far)
          (none_where c.items.refused.items _ _ c.items.refused.ok.0 c.is_empty-2.ensures c.if-is_empty-2.true),
    )

pub returns-clause-refused : goal.returns-clause-refused
returns-clause-refused c =
    let (all, are_items, are) = c.in_ok-items.ensures.ok in
    let (left, are_left, so_far) = c.items.invariant.so_far all are in
    let none : left ≡ no_items = c.in_default.ensures.next left are_left in (
      all,
      are_items,
      all_refused all _ _ _ (rw none at so_far)
          (some_where c.items.refused.items _ _ c.items.refused.ok.0 c.is_empty-2.ensures c.if-is_empty-2.false),
    )

pub returns-in_err-push-in-Ok-clause-err : goal.returns-in_err-push-in-Ok-clause-err
returns-in_err-push-in-Ok-clause-err c =
    let (all, are_items, are) = c.in_ok-items.ensures.ok in
    let fault =
    err_from_is_err_and c.from_residual-in_err-push-in-Ok.result c.from_residual-in_err-push-in-Ok.ensures.1 in
    rw (fault.1, fault.2) (memory_over_items _ _ all are_items)

pub returns-in_err-push-in-Err-clause-err : goal.returns-in_err-push-in-Err-clause-err
returns-in_err-push-in-Err-clause-err c =
    let (all, are_items, are) = c.in_ok-items.ensures.ok in
    let fault =
    err_from_is_err_and c.from_residual-in_err-push-in-Err.result c.from_residual-in_err-push-in-Err.ensures.1 in
    rw (fault.1, fault.2) (memory_over_items _ _ all are_items)

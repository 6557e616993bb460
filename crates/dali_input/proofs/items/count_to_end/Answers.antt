use Rattle.std.proofs.Common.{◌≡◌, ◌+◌, Some, ap, ◌∙◌, arith, refl}
use Rattle.dali_input.proofs.ItemsLemmas.{one_counted, none_where_refused, none_where_more, all_counted}
use Rattle.dali_input.proofs.items.count_to_end.Goals as goal

pub returns-in_default-clause-json : goal.returns-in_default-clause-json
returns-in_default-clause-json c refused =
    let at = c.items-test.ensures in
    none_where_refused _ c.items.reader _ c.items.invariant at.0 (rw (← at.1) (c.in_default.ensures.err refl))

pub items-preserved : goal.items-preserved
items-preserved c =
    let at = c.items-test.ensures in
    let read = c.in-Ok.ensures in
    let one : c.in_ok-count.count ≡ c.items.count + 1 = grind arith in
    rw one (one_counted _ c.items.reader c.read_value.new.reader read.ok.0 c.items.count c.items.invariant at.0
    (rw (← at.1) read.shorter) (rw (← at.1) read.ok.2))

pub returns-in-Some-clause-json : goal.returns-in-Some-clause-json
returns-in-Some-clause-json c refused =
    none_where_more _ c.items.reader _ c.items.invariant _ _
    (c.items-test.ensures ∙ ap Some c.in-Some.ensures.value)

pub returns-in-None-clause-ok : goal.returns-in-None-clause-ok
returns-in-None-clause-ok c =
    all_counted _ c.items.reader _ c.items.invariant (c.items-test.ensures ∙ ap Some c.in-None.ensures.value.0)

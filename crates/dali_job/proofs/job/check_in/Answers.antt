use Rattle.std.proofs.Common.{◌∙◌, ap, Bor, List, map, not, ℕ}
use Rattle.dali_job.proofs.JobLemmas.{left_out, none_where, not_none, option_named, some_where}
use Rattle.dali_job.proofs.job.check_in.Goals as goal
use Rattle.dali_job.proofs.job.check_in.Goals.{else-is_none-via-then-is_none+else-not-is_empty}
use Rattle.dali_job.proofs.job.check_in.Goals.{else-is_none-via-else-is_none}

pub returns-in_default-clause-none : goal.returns-in_default-clause-none
returns-in_default-clause-none c = λ orders older named given. c.in_default.ensures.none orders named

pub returns-in_default-2-clause-none : goal.returns-in_default-2-clause-none
returns-in_default-2-clause-none c =
    let none = rw c.in_default-2.is at c.in_ok-older.ensures.none in λ orders older named given. none older given

pub returns-then-not-is_empty-clause-named : goal.returns-then-not-is_empty-clause-named
returns-then-not-is_empty-clause-named c =
    let orders = c.in-Some.ensures.found in
    let journal =
    option_named _ _ _ _ (orders.0, orders.1) c.value_of-journal.ensures.found c.value_of-journal.ensures.none in (
      c.in-Some.orders.now,
      map (λ (value : Bor (List ℕ)). value.now) c.in-Some-2.older.items,
      orders,
      left_out _ _ _ c.value_of-journal.result journal (c.is_none.ensures ∙ ap not c.if-is_none.true),
      rw c.in-Some-2.is at c.in_ok-older.ensures.found,
      some_where c.in-Some-2.older.items _ _ c.in-Some-2.older.ok.0 c.is_empty.ensures c.if-not-is_empty.true,
    )

pub returns-clause-named : goal.returns-clause-named
returns-clause-named c =
    let orders = c.in-Some.ensures.found in
    let older = rw c.in-Some-2.is at c.in_ok-older.ensures.found in (
      orders,
      option_named _ _ _ _ (orders.0, orders.1) c.value_of-journal.ensures.found c.value_of-journal.ensures.none,
      older,
      λ none. elim c.else-is_none.branch [
        | else-is_none-via-then-is_none+else-not-is_empty w ↦
            none_where c.in-Some-2.older.items _ _ c.in-Some-2.older.ok.0 w.is_empty.ensures w.if-not-is_empty.false
        | else-is_none-via-else-is_none w ↦
            absurd (not_none c.value_of-journal.result _ c.is_none.ensures w.if-is_none.false none)
      ],
    )

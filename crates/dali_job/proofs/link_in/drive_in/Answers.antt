use Rattle.std.proofs.Common.{Bor, List, map, ℕ}
use Rattle.dali_job.proofs.JobLemmas.{option_named}
use Rattle.dali_job.proofs.link_in.drive_in.Goals as goal

pub returns-in_default-clause-none : goal.returns-in_default-clause-none
returns-in_default-clause-none c = λ task is. c.in_default.ensures.none task.orders.now is.orders_is

pub returns-in_default-value_of-clause-none : goal.returns-in_default-value_of-clause-none
returns-in_default-value_of-clause-none c = λ task is. c.in_default-value_of.ensures.none task.journal.now is.journal_is

pub returns-in_default-number_of-clause-none : goal.returns-in_default-number_of-clause-none
returns-in_default-number_of-clause-none c = λ task is. c.in_default-number_of.ensures.none task.moment is.moment_is

pub returns-in_default-2-clause-none : goal.returns-in_default-2-clause-none
returns-in_default-2-clause-none c =
    let none = rw c.in_default-2.is at c.in_ok-older.ensures.none in
    λ task is. none (map (λ (value : Bor (List ℕ)). value.now) task.older.items) is.older_are

pub returns-clause-named : goal.returns-clause-named
returns-clause-named c =
    let orders = c.in-Some.ensures.found in record {
      orders_is = orders;
      journal_is = c.in-Some-value_of.ensures.found;
      older_are = rw c.in-Some-2.is at c.in_ok-older.ensures.found;
      moment_is = c.in-Some-number_of.ensures.found;
      pace_is = (c.has_flag.result, c.has_flag.ensures, c.pace_of.ensures);
      required_is = (
        c.has_flag-require_done.result,
        c.has_flag-require_now.result,
        c.has_flag-require_done.ensures,
        c.has_flag-require_now.ensures,
        c.of.ensures,
      );
      journal_required = c.has_flag-2.ensures;
      follow_is = c.has_flag-3.ensures;
      report_is = option_named _ _ _ _ (orders.0, orders.1) c.value_of-3.ensures.found c.value_of-3.ensures.none;
    }

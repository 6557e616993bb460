use Rattle.dali_job.proofs.JobLemmas.{option_named}
use Rattle.dali_job.proofs.link_in.reading_in.Goals as goal

pub returns-in-Some-clause-named : goal.returns-in-Some-clause-named
returns-in-Some-clause-named c =
    let orders = c.in-Some.ensures.found in (
      orders,
      option_named _ _ _ _ (orders.0, orders.1) c.value_of-report.ensures.found c.value_of-report.ensures.none,
    )

pub returns-in_err-unit-clause-none : goal.returns-in_err-unit-clause-none
returns-in_err-unit-clause-none c = rw c.from_residual.ensures
    (c.in_default.ensures.none, λ unit bank named file. c.in_err-unit.ensures.none unit named)

pub returns-in_err-bank-clause-none : goal.returns-in_err-bank-clause-none
returns-in_err-bank-clause-none c = rw c.from_residual-in_err-bank.ensures
    (c.in_default.ensures.none, λ unit bank named file. c.in_err-bank.ensures.none bank file)

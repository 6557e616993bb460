use Rattle.dali_job.proofs.JobLemmas.{nothing_named}
use Rattle.dali_job.proofs.job.file_job_in.Goals as goal

pub returns-in-Some-clause-named : goal.returns-in-Some-clause-named
returns-in-Some-clause-named c = (c.in-Some.ensures.found, c.has_flag-single_frames.ensures)

pub returns-in-Some-value_of-clause-named : goal.returns-in-Some-value_of-clause-named
returns-in-Some-value_of-clause-named c = c.in-Some-value_of.ensures.found

pub returns-in-Some-value_of-2-clause-named : goal.returns-in-Some-value_of-2-clause-named
returns-in-Some-value_of-2-clause-named c = c.in-Some-value_of-2.ensures.found

pub returns-in_err-records-clause-none : goal.returns-in_err-records-clause-none
returns-in_err-records-clause-none c =
    rw c.from_residual.ensures
    (nothing_named _ (λ entered. let is = c.is_entered.ensures.1 entered in let other = c.if-is_entered.false in cc)
    c.in_default.ensures.none c.in_default-value_of.ensures.none c.in_default-value_of-2.ensures.none
    c.in_err-records.ensures.none)

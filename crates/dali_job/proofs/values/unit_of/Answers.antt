use Rattle.dali_job.proofs.values.unit_of.Goals as goal

pub returns-in_err-number-clause-none : goal.returns-in_err-number-clause-none
returns-in_err-number-clause-none c =
    rw c.from_residual.ensures (λ unit has. c.in_err-number.ensures.none unit has.0)

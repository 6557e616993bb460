use Rattle.dali_job.proofs.values.short_addresses_of.Goals as goal

pub returns-in_default-clause-none : goal.returns-in_default-clause-none
returns-in_default-clause-none c =
    let none = rw c.in_default.is at c.in_ok-texts.ensures.none in
    λ units named. none named.0 named.1

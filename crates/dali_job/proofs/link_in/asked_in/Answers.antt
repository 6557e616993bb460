use Rattle.dali_job.proofs.JobLemmas.{asks_for}
use Rattle.dali_job.proofs.link_in.asked_in.Goals as goal

pub returns-clause-one : goal.returns-clause-one
returns-clause-one c =
    asks_for _ _ _ _ c.by.result c.has_flag-all.ensures c.has_flag-list.ensures c.has_flag-count.ensures c.by.ensures

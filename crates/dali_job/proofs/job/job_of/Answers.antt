use Rattle.std.proofs.Common.{Bor, List, map, ℕ}
use Rattle.std.proofs.lemmas.Result.{IfOk-weaker}
use Rattle.dali_job.proofs.JobLemmas.{job_is_short}
use Rattle.dali_job.proofs.job.job_of.Goals as goal

pub returns-clause-short : goal.returns-clause-short
returns-clause-short c =
    IfOk-weaker c.job_by.result _ _ (job_is_short (map (λ (word : Bor (List ℕ)). word.now) c.args.words.now))
    c.job_by.ensures.named

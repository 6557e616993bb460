use Rattle.std.proofs.lemmas.Result.{IfOk-weaker}
use Rattle.dali_job.proofs.JobLemmas.{with_argument}
use Rattle.dali_job.proofs.commands.check_command.Goals as goal

pub returns : goal.returns
returns c =
    let asked = with_argument _ _ _ _ _ c.in_ok-orders.ensures c.file_option.ensures c.in_ok-asked.ensures in
    IfOk-weaker c.arg-2.result _ _
    (λ command. with_argument _ _ _ _ command asked c.older_option.ensures) c.arg-2.ensures

use Rattle.std.proofs.lemmas.Result.{IfOk-weaker}
use Rattle.dali_job.proofs.JobLemmas.{with_argument}
use Rattle.dali_job.proofs.commands.verify_command.Goals as goal

pub returns : goal.returns
returns c =
    let reported = with_argument _ _ _ _ _ c.in_ok-orders.ensures c.file_option.ensures c.in_ok-reported.ensures in
    IfOk-weaker c.arg-2.result _ _ (λ command. with_argument _ _ _ _ command reported c.flag_of.ensures) c.arg-2.ensures

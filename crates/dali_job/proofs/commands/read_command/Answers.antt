use Rattle.std.proofs.lemmas.Result.{IfOk-weaker}
use Rattle.dali_job.proofs.JobLemmas.{with_argument}
use Rattle.dali_job.proofs.commands.read_command.Goals as goal

pub returns : goal.returns
returns c =
    let unit = with_argument _ _ _ _ _ c.plain_command.ensures c.unit_argument.ensures c.in_ok-unit.ensures in
    let read = with_argument _ _ _ _ _ unit c.value_argument.ensures c.in_ok-read.ensures in
    IfOk-weaker c.arg-3.result _ _ (λ command. with_argument _ _ _ _ command read c.flag_of.ensures) c.arg-3.ensures

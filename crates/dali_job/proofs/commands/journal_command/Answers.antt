use Rattle.std.proofs.lemmas.Result.{IfOk-weaker}
use Rattle.dali_job.proofs.JobLemmas.{with_argument}
use Rattle.dali_job.proofs.commands.journal_command.Goals as goal

pub returns : goal.returns
returns c =
    IfOk-weaker c.arg.result _ _
    (λ command. with_argument _ _ _ _ command c.in_ok-command_of.ensures c.flag_of.ensures) c.arg.ensures

use Rattle.std.proofs.lemmas.Result.{IfOk-weaker}
use Rattle.dali_job.proofs.JobLemmas.{with_argument}
use Rattle.dali_job.proofs.commands.scan_command.Goals as goal

pub returns : goal.returns
returns c =
    let units = with_argument _ _ _ _ _ c.plain_command.ensures c.units_argument.ensures c.in_ok-units.ensures in
    let named = with_argument _ _ _ _ _ units c.flag_of.ensures c.in_ok-named.ensures in
    IfOk-weaker c.arg-3.result _ _ (λ command. with_argument _ _ _ _ command named c.flag_of-2.ensures) c.arg-3.ensures

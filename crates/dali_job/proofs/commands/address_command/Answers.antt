use Rattle.std.proofs.lemmas.Result.{IfOk-weaker}
use Rattle.dali_job.proofs.JobLemmas.{with_argument}
use Rattle.dali_job.proofs.commands.address_command.Goals as goal

pub returns : goal.returns
returns c =
    let units = with_argument _ _ _ _ _ c.plain_command.ensures c.units_argument.ensures c.in_ok-units.ensures in
    let anew = with_argument _ _ _ _ _ units c.flag_of.ensures c.in_ok-anew.ensures in
    let listed = with_argument _ _ _ _ _ anew c.flag_of-2.ensures c.in_ok-listed.ensures in
    let counted = with_argument _ _ _ _ _ listed c.flag_of-3.ensures c.in_ok-counted.ensures in
    let idle = with_argument _ _ _ _ _ counted c.file_option.ensures c.in_ok-idle.ensures in
    IfOk-weaker c.arg-6.result _ _ (λ command. with_argument _ _ _ _ command idle c.flag_of-4.ensures) c.arg-6.ensures

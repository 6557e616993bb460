use Rattle.std.proofs.Common.{refl, inr}
use Rattle.dali_input.specs.declared.command_fault.Status.TheVariants.{Unwritten}
use Rattle.dali_link_commands.proofs.DriveLemmas.{puts_all}
use Rattle.dali_link_commands.proofs.ProblemLemmas.{drive_told}
use Rattle.dali_link_commands.proofs.problem.tell_drive_line.Goals as goal

pub returns-then-not-flush-clause-told : goal.returns-then-not-flush-clause-told
returns-then-not-flush-clause-told g c =
    let part = puts_all _ _ _ _ (c.if-not-put_all.ensures.whole refl) c.if-not-flush.ensures.bytes in
    drive_told c.args.fault _ Unwritten _ _ c.requires.reported
    (inr (refl, rw (c.as_bytes.ensures.value, c.drive_line.ensures) at part))

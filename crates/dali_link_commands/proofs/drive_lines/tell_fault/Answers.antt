use Rattle.std.proofs.Common.{refl}
use Rattle.dali_trace.specs.declared.fault.DriveFault.TheVariants.{Out}
use Rattle.dali_input.specs.declared.command_fault.Fault.TheVariants.{Drive}
use Rattle.dali_input.specs.CommandFaults.{told_line}
use Rattle.dali_link_commands.proofs.drive_lines.tell_fault.Goals as goal

pub returns-in-Out : goal.returns-in-Out
returns-in-Out g c =
    let failed = rw c.in-Out.is at c.requires in
    rw c.in-Out.is
    (record { told = ((told_line (Drive Out), refl, (refl, refl)), (λ is. failed, λ is. refl)) })

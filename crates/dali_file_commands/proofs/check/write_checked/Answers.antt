use Rattle.dali_input.specs.declared.command_fault.Fault.TheVariants.{Input}
use Rattle.dali_file_commands.proofs.NoteLemmas.{fault_noted}
use Rattle.dali_file_commands.proofs.check.write_checked.Goals as goal

pub returns-clause-noted : goal.returns-clause-noted
returns-clause-noted g c =
    fault_noted _ _ _ g.N.Write.contents c.args.notes.now c.write_noted_failure.new.notes
    (Input c.in-Err.fault) _ c.write_noted_failure.ensures.told c.write_noted_failure.ensures.noted

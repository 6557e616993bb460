use Rattle.dali_input.specs.Input.{state_of}
use Rattle.dali_file_commands.proofs.FailureLemmas.{failure_told, or_failure}
use Rattle.dali_input.specs.declared.command_fault.Fault.TheVariants.{Input}
use Rattle.dali_file_commands.proofs.NoteLemmas.{fault_noted}
use Rattle.dali_file_commands.proofs.show.try_show.Goals as goal

pub returns-in-Err-clause-shown : goal.returns-in-Err-clause-shown
returns-in-Err-clause-shown g c =
    let before = state_of g.R.Read.remaining c.args.input.now in
    let after = state_of g.R.Read.remaining c.read_input.new.input in
    or_failure _ before after _ _ _
    (failure_told before after _ _ c.in-Err.fault _ c.in-Err.ensures.err c.write_noted_failure.ensures.told
    c.write_noted_failure.ensures.status)

pub returns-in-Err-clause-noted : goal.returns-in-Err-clause-noted
returns-in-Err-clause-noted g c =
    fault_noted _ _ _ g.N.Write.contents c.args.notes.now c.write_noted_failure.new.notes
    (Input c.in-Err.fault) _ c.write_noted_failure.ensures.told c.write_noted_failure.ensures.noted

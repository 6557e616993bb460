use Rattle.dali_input.specs.declared.fault.InputFault.TheVariants.{Hex}
use Rattle.dali_input.specs.declared.command_fault.Fault.TheVariants.{Input}
use Rattle.dali_file_commands.proofs.FrameLemmas.{word_noted}
use Rattle.dali_file_commands.proofs.NoteLemmas.{fault_noted}
use Rattle.dali_file_commands.proofs.frame.try_frame.Goals as goal

pub returns-in-Some-clause-noted : goal.returns-in-Some-clause-noted
returns-in-Some-clause-noted g c =
    word_noted c.in-Some.word _ _ g.N.Write.contents c.args.notes.now _ c.write_word.ensures.line

pub returns-in-None-clause-noted : goal.returns-in-None-clause-noted
returns-in-None-clause-noted g c =
    fault_noted _ _ _ g.N.Write.contents c.args.notes.now c.write_noted_failure.new.notes
    (Input Hex) _ c.write_noted_failure.ensures.told c.write_noted_failure.ensures.noted

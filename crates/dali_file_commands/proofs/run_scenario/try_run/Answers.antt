use Rattle.dali_file_commands.proofs.NoteLemmas.{fault_noted}
use Rattle.dali_file_commands.proofs.RunLemmas.{unrun_told, run_told, run_noted}
use Rattle.dali_file_commands.proofs.run_scenario.try_run.Goals as goal

pub returns-clause-ran : goal.returns-clause-ran
returns-clause-ran g c =
    unrun_told _ _ _ _ _ c.in-Err.fault _ c.in-Err.ensures.err c.write_noted_failure.ensures.told
    c.write_noted_failure.ensures.status

pub returns-clause-noted : goal.returns-clause-noted
returns-clause-noted g c =
    fault_noted _ _ _ g.N.Write.contents c.args.notes.now c.write_noted_failure.new.notes _ _
    c.write_noted_failure.ensures.told c.write_noted_failure.ensures.noted

pub returns-in-Ok-clause-ran : goal.returns-in-Ok-clause-ran
returns-in-Ok-clause-ran g c = run_told _ _ _ _ _ _ _ _ _ c.in-Ok.ensures.ok c.write_ran.ensures.told

pub returns-in-Ok-clause-noted : goal.returns-in-Ok-clause-noted
returns-in-Ok-clause-noted g c =
    run_noted _ _ _ g.N.Write.contents c.args.notes.now _ c.write_ran.ensures.told

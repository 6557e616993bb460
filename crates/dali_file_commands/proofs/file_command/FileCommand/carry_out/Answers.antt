use Rattle.dali_file_commands.proofs.file_command.FileCommand.carry_out.Goals as goal

pub returns-in-Run-clause-carried_out : goal.returns-in-Run-clause-carried_out
returns-in-Run-clause-carried_out g c = rw c.in-Run.is c.run_scenario.ensures.ran

pub returns-in-Journal-clause-carried_out : goal.returns-in-Journal-clause-carried_out
returns-in-Journal-clause-carried_out g c = rw c.in-Journal.is c.journal.ensures.told

pub returns-in-Show-clause-carried_out : goal.returns-in-Show-clause-carried_out
returns-in-Show-clause-carried_out g c = rw c.in-Show.is c.show.ensures.shown

pub returns-in-Check-clause-carried_out : goal.returns-in-Check-clause-carried_out
returns-in-Check-clause-carried_out g c = rw c.in-Check.is c.check.ensures.checked

pub returns-in-Check-clause-noted : goal.returns-in-Check-clause-noted
returns-in-Check-clause-noted g c = rw c.in-Check.is c.check.ensures.noted

pub returns-in-Run-clause-noted : goal.returns-in-Run-clause-noted
returns-in-Run-clause-noted g c = rw c.in-Run.is c.run_scenario.ensures.noted

pub returns-in-Journal-clause-noted : goal.returns-in-Journal-clause-noted
returns-in-Journal-clause-noted g c = rw c.in-Journal.is c.journal.ensures.noted

pub returns-in-Show-clause-noted : goal.returns-in-Show-clause-noted
returns-in-Show-clause-noted g c = rw c.in-Show.is c.show.ensures.noted

use Rattle.dali_file_commands.proofs.check.check.Goals as goal

pub returns-in-Ok-clause-noted : goal.returns-in-Ok-clause-noted
returns-in-Ok-clause-noted g c = λ _. rw c.of.ensures.journal at c.in-Ok.ensures.noted

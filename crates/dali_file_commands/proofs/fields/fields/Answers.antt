use Rattle.dali_file_commands.proofs.FieldLemmas.{form_is}
use Rattle.dali_file_commands.proofs.fields.fields.Goals as goal

pub returns-in-Ok-clause-layout : goal.returns-in-Ok-clause-layout
returns-in-Ok-clause-layout g c = form_is

pub returns-in-Err-clause-layout : goal.returns-in-Err-clause-layout
returns-in-Err-clause-layout g c = form_is

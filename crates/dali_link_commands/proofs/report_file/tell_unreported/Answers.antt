use Rattle.std.proofs.Common.{refl, inr}
use Rattle.dali_link_commands.proofs.report_file.tell_unreported.Goals as goal

pub returns-in-Ok-clause-told : goal.returns-in-Ok-clause-told
returns-in-Ok-clause-told g c = inr (refl, c.in-Ok.ensures.line)

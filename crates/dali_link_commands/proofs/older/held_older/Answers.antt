use Rattle.dali_link_commands.proofs.OlderLemmas.{one_rests}
use Rattle.dali_link_commands.proofs.older.held_older.Goals as goal

pub returns-in-Ok-clause-rests : goal.returns-in-Ok-clause-rests
returns-in-Ok-clause-rests g c = one_rests _ _ c.in-Ok.ensures.ok

use Rattle.dali_journal.proofs.BehindLemmas.{older_kept}
use Rattle.dali_journal.proofs.laws.older_orders_are_kept.Goals as goal

pub returns : goal.returns
returns c = older_kept

use Rattle.std.proofs.Common.{◌∙◌}
use Rattle.dali_journal.proofs.BegunLemmas.{begun_told}
use Rattle.dali_journal.proofs.journal.Journal.has_begun.Goals as goal

pub returns : goal.returns
returns c =
    c.is_begun.ensures
    ∙ begun_told c.args.id c.told-known.result.0.now c.told-known.result.1 c.args.self.now.records c.told-known.ensures

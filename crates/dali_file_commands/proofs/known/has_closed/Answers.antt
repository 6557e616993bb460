use Rattle.std.proofs.Common.{sym}
use Rattle.dali_file_commands.proofs.KnownLemmas.{closed_told}
use Rattle.dali_file_commands.proofs.known.has_closed.Goals as goal

pub returns-in-DoubtOpen : goal.returns-in-DoubtOpen
returns-in-DoubtOpen c =
    rw (
      c.in-DoubtOpen.is,
      c.is_left_by-is_left.ensures,
      c.standing.ensures.value,
      c.requires.survey.newest_is,
      c.id.ensures,
    )
    (sym (closed_told c.args.order.now c.args.journal.now.records c.standing.ensures.journal.kept.whole.0
    (rw c.in-DoubtOpen.is at c.requires.kept)))

use Rattle.std.proofs.Common.{◌*◌, refl}
use Rattle.dali_journal.proofs.AheadLemmas.{updates_there}
use Rattle.dali_journal.proofs.group.has_updates.Goals as goal

pub returns-then-bytes-most : goal.returns-then-bytes-most
returns-then-bytes-most c = λ holds.
    updates_there c.args.count (2 * c.args.count) c.args.bytes.now refl c.if-bytes-most.true
    (c.are_updates.ensures holds)

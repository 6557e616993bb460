use Rattle.std.proofs.Common.{subst, List, ℕ}
use Rattle.dali_journal.specs.declared.version.Version.TheVariants.{Two}
use Rattle.dali_journal.specs.GroupAhead.{HasEnd}
use Rattle.dali_journal.proofs.IndexLemmas.{slice_rest}
use Rattle.dali_journal.proofs.AheadLemmas.{group_there}
use Rattle.dali_journal.proofs.group.group_ahead.Goals as goal

pub returns-in-Some-end_ahead : goal.returns-in-Some-end_ahead
returns-in-Some-end_ahead c =
    let head = c.in-Some.head in
    let end = c.in-Some-end_ahead in
    group_there Two head.id head.unit end.code head.len end.len c.args.bytes.now c.in-Some.ensures
    (subst (λ (bs : List ℕ). HasEnd head.unit end.code end.len bs) (slice_rest head.len c.args.bytes.now) end.ensures)

use Rattle.std.proofs.Common.{refl}
use Rattle.dali_report.proofs.SeenLemmas.{count_all}
use Rattle.dali_report.proofs.seen.counts.Goals as goal

pub returns-in-Some : goal.returns-in-Some
returns-in-Some c =
    rw (← c.in-Some.ensures, count_all c.in-Some.members.now.entries, c.len.ensures.len) refl

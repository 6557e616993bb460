use Rattle.std.proofs.Common.{subst, ℕ, ◌≤◌, ◌<◌, sym}
use Rattle.dali_write.specs.Tries.{most_tries}
use Rattle.dali_write.specs.Worlds.{IsAmong}
use Rattle.dali_write.proofs.RunLemmas.{led}
use Rattle.dali_write.proofs.OutliveLemmas.{misses_by_losses, access_succeeds}
use Rattle.dali_write.proofs.laws.accesses_outlive_losses.Goals as goal

pub returns-clause-misses : goal.returns-clause-misses
returns-clause-misses c = λ loses at access unit misses told first last run keeps_power alone can kind are.
    let so = led (IsAmong loses) told first last run in
    subst (λ (n : ℕ). misses ≤ n) (so.counts at)
    (misses_by_losses (IsAmong loses) at access unit misses told first last so.run keeps_power alone can (so.kinds kind)
    are)

pub returns-clause-succeeds : goal.returns-clause-succeeds
returns-clause-succeeds c = λ loses at access unit outcome told first last run keeps_power alone can kind few ends.
    let so = led (IsAmong loses) told first last run in
    access_succeeds (IsAmong loses) at access unit outcome told first last so.run keeps_power alone can (so.kinds kind)
    (subst (λ (n : ℕ). n < most_tries) (sym (so.counts at)) few) ends

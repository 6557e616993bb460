use Rattle.std.proofs.Common.{inl, inr}
use Rattle.dali_store.proofs.OpenLemmas.{one_call, two_calls, also_alike, behind_found, stays_found, cut_found}
use Rattle.dali_store.proofs.OpenLemmas.{not_zero}
use Rattle.dali_store.proofs.opening.cut_behind.Goals as goal

pub returns-then-not-cut-clause-any_moment : goal.returns-then-not-cut-clause-any_moment
returns-then-not-cut-clause-any_moment g c =
    let some = not_zero _ _ c.requires.some in
    one_call g.S.Store.moment g.S.Store.left_since _ _ _ _
    (λ d left. inl (g.met.S.Store.only_now c.args.store.now d left)) c.cut.ensures.time
    (also_alike _ _ _ _ _ (behind_found _ _ _ _ _ _ c.requires.found some) c.cut.ensures.stop)

pub returns-then-sync-clause-any_moment : goal.returns-then-sync-clause-any_moment
returns-then-sync-clause-any_moment g c =
    let some = not_zero _ _ c.requires.some in
    two_calls g.S.Store.moment g.S.Store.left_since _ _ _ _ _ _
    (λ d left. inl (g.met.S.Store.only_now c.args.store.now d left)) c.cut.ensures.time
    (also_alike _ _ _ _ _ (behind_found _ _ _ _ _ _ c.requires.found some) c.cut.ensures.stop) c.sync.ensures.time
    c.sync.ensures.stop

pub returns-else-sync-clause-fault : goal.returns-else-sync-clause-fault
returns-else-sync-clause-fault g c =
    let some = not_zero _ _ c.requires.some in
    inr (stays_found _ _ _ _ _ _ _ _ c.requires.found
    (cut_found _ _ _ _ _ _ _ _ c.requires.found some c.if-not-cut.ensures.bytes c.sync.ensures.same))

pub returns-else-sync-clause-any_moment : goal.returns-else-sync-clause-any_moment
returns-else-sync-clause-any_moment g c =
    let some = not_zero _ _ c.requires.some in
    two_calls g.S.Store.moment g.S.Store.left_since _ _ _ _ _ _
    (λ d left. inl (g.met.S.Store.only_now c.args.store.now d left)) c.cut.ensures.time
    (also_alike _ _ _ _ _ (behind_found _ _ _ _ _ _ c.requires.found some) c.cut.ensures.stop) c.sync.ensures.time
    c.sync.ensures.stop

use Rattle.std.proofs.Common.{inl, inr, ⊎_elim, ◌∙◌, subst}
use Rattle.dali_store.specs.Stores.{Becomes}
use Rattle.dali_store.proofs.OpenLemmas.{one_call, also_alike, alike_found, stays_found}
use Rattle.dali_store.proofs.opening.write_anew.Goals as goal

pub returns-then-replace-clause-any_moment : goal.returns-then-replace-clause-any_moment
returns-then-replace-clause-any_moment g c =
    one_call g.S.Store.moment g.S.Store.left_since _ _ _ _
    (λ d left. inl (g.met.S.Store.only_now c.args.store.now d left)) c.replace.ensures.time
    (also_alike _ _ _ _ _
    (λ d is. alike_found _ _ _ _ _ _ _ c.requires.found d (is ∙ c.deref.ensures.value ∙ c.in-Ok.ensures))
    c.replace.ensures.stop)

pub returns-clause-fault : goal.returns-clause-fault
returns-clause-fault g c =
    ⊎_elim (λ same. inl same)
    (λ becomes. inr (stays_found _ _ _ _ _ _ _ _ c.requires.found
    (subst (Becomes (g.S.Store.seen c.args.store.now) (g.S.Store.seen c.replace.new.self))
    (c.deref.ensures.value ∙ c.in-Ok.ensures) becomes)))
    (c.replace.ensures.whole c.if-replace.false)

pub returns-clause-any_moment : goal.returns-clause-any_moment
returns-clause-any_moment g c =
    one_call g.S.Store.moment g.S.Store.left_since _ _ _ _
    (λ d left. inl (g.met.S.Store.only_now c.args.store.now d left)) c.replace.ensures.time
    (also_alike _ _ _ _ _
    (λ d is. alike_found _ _ _ _ _ _ _ c.requires.found d (is ∙ c.deref.ensures.value ∙ c.in-Ok.ensures))
    c.replace.ensures.stop)

use Rattle.std.proofs.Common.{refl, inl, inr}
use Rattle.dali_text.proofs.StreamLemmas.{appends_kept}
use Rattle.dali_link_commands.proofs.DriveLemmas.{puts_all}
use Rattle.dali_link_commands.proofs.required.tell_nothing.Goals as goal

pub returns-then-not-put_all-clause-told : goal.returns-then-not-put_all-clause-told
returns-then-not-put_all-clause-told g c =
    let part = c.if-not-put_all.ensures.cut refl in
    inr (refl, rw c.as_bytes.ensures.value at part)

pub returns-then-not-flush-clause-told : goal.returns-then-not-flush-clause-told
returns-then-not-flush-clause-told g c =
    let part = puts_all _ _ _ _ (c.if-not-put_all.ensures.whole refl) c.if-not-flush.ensures.bytes in
    inr (refl, rw c.as_bytes.ensures.value at part)

pub returns-clause-told : goal.returns-clause-told
returns-clause-told g c =
    let whole = appends_kept _ _ _ _ (c.if-not-put_all.ensures.whole refl) c.if-not-flush.ensures.bytes in
    inl (refl, rw c.as_bytes.ensures.value at whole)

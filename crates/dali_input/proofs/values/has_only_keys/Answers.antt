use Rattle.std.proofs.Common.{◌≡◌, ℕ, Bool, List, false, map, sym, subst, ◌∙◌}
use Rattle.std.specs.List.{list_any}
use Rattle.std.specs.Str.{bytes_eq}
use Rattle.serde_json.specs.View.{view}
use Rattle.dali_input.proofs.ValueLemmas.{KnownSoFar, one_more_known, not_only_known}
use Rattle.dali_input.proofs.values.has_only_keys.Goals as goal

pub returns-then-not-is_one_of : goal.returns-then-not-is_one_of
returns-then-not-is_one_of c =
    let is_known : List ℕ → Bool = λ key. list_any (bytes_eq key) (map (λ one. one.now) c.args.keys.now) in
    let so_far =
    subst (λ es. KnownSoFar is_known c.into_iter-key-iterator.result es) c.in-Some-2.ensures.steps
    c.loop-key.invariant in
    let unknown : is_known c.as_str.result.now ≡ false = sym c.is_one_of.ensures ∙ c.if-not-is_one_of.true in
    sym (not_only_known (map (λ one. one.now) c.args.keys.now) (view c.args.json.now) c.in-Some.object.now.entries _
    (c.in-Some-2.key.now, c.in-Some-2.field-0-1.now)
    (sym c.in-Some.ensures)
    (rw (c.into_iter-key-iterator.ensures.into_iter_gives, c.iter-key-items.ensures.rest) at so_far)
    (rw c.as_str.ensures.value at unknown))

pub loop-key-preserved : goal.loop-key-preserved
loop-key-preserved c =
    let is_known : List ℕ → Bool = λ key. list_any (bytes_eq key) (map (λ one. one.now) c.args.keys.now) in
    let so_far =
    subst (λ es. KnownSoFar is_known c.into_iter-key-iterator.result es) c.in-Some-2.ensures.steps
    c.loop-key.invariant in
    one_more_known is_known _ _ (c.in-Some-2.key.now, c.in-Some-2.field-0-1.now) so_far
    (rw c.as_str.ensures.value at (sym c.is_one_of.ensures ∙ c.if-not-is_one_of.false))

use Rattle.std.proofs.Common.{◌≡◌, ◌∙◌, [], Bor, List, None, Some, ap, map, sym, unwrap_or, ℕ}
use Rattle.std.proofs.lemmas.Result.{IfOk-weaker}
use Rattle.clap.specs.Words.{all_of, found_of, rows_of}
use Rattle.clap.proofs.WalkLemmas.{raw_values-rows}
use Rattle.dali_job.proofs.values.given_values.Goals as goal

pub returns-in-Some : goal.returns-in-Some
returns-in-Some c =
    let id = c.args.id.now in
    let found = found_of c.args.found.now in
    let given : Some (map (λ (s : Bor (List ℕ)). s.now) c.in-Some.values.now) ≡ all_of id (rows_of found) =
    c.in-Some.ensures ∙ raw_values-rows found id in
    IfOk-weaker c.from_slice.result _ _
    (λ values same. ap (λ o. unwrap_or o []) (sym given) ∙ ap (map (λ (s : Bor (List ℕ)). s.now)) (sym same))
    c.from_slice.ensures.items

pub returns-in-None : goal.returns-in-None
returns-in-None c =
    let id = c.args.id.now in
    let found = found_of c.args.found.now in
    let none : None ≡ all_of id (rows_of found) = c.in-None.ensures ∙ raw_values-rows found id in
    ap (λ o. unwrap_or o []) (sym none) ∙ ap (map (λ (s : Bor (List ℕ)). s.now)) (sym c.new.ensures.items)

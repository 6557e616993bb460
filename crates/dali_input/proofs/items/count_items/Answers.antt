use Rattle.std.proofs.Common.{◌≡◌, ◌∷◌, option_map, sym, ap, ◌∙◌, arith}
use Rattle.json.specs.Lex.{tokens}
use Rattle.json.specs.Token.{begin_array}
use Rattle.serde_json.specs.Data.{array}
use Rattle.dali_input.specs.ItemsLeft.{value_to_end}
use Rattle.dali_input.proofs.ItemsLemmas.{array_is_items, begun_somewhere, counted_behind, nothing_there}
use Rattle.dali_input.proofs.items.count_items.Goals as goal

pub returns-in-Some-BeginArray-clause-ok : goal.returns-in-Some-BeginArray-clause-ok
returns-in-Some-BeginArray-clause-ok c =
    let begun : tokens c.args.text.now ≡ begin_array ∷ c.next.new.self = grind arith in
    counted_behind _ _ c.count_to_end.result begun c.count_to_end.ensures.ok

pub returns-in-Some-BeginArray-clause-json : goal.returns-in-Some-BeginArray-clause-json
returns-in-Some-BeginArray-clause-json c refused =
    let begun : tokens c.args.text.now ≡ begin_array ∷ c.next.new.self = grind arith in
    ap value_to_end begun ∙ array_is_items c.next.new.self
    ∙ ap (option_map array) (c.count_to_end.ensures.json refused)

pub returns-in-None-clause-json : goal.returns-in-None-clause-json
returns-in-None-clause-json c refused = nothing_there _ (sym c.in_ok-reader.ensures.ok ∙ c.in-None.ensures.value.0)

pub returns-in-Some-BeginArray-clause-memory : goal.returns-in-Some-BeginArray-clause-memory
returns-in-Some-BeginArray-clause-memory c refused =
    let begun : tokens c.args.text.now ≡ begin_array ∷ c.next.new.self = grind arith in
    begun_somewhere c.args.text.now c.next.new.self begun

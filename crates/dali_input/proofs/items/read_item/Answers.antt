use Rattle.std.proofs.Common.{◌≡◌, ◌∷◌, [], refl, ap, ◌∙◌, arith}
use Rattle.json.specs.Json.{parse_map}
use Rattle.json.specs.Token.{begin_object}
use Rattle.json.proofs.Grammar.{value_is}
use Rattle.serde_json.specs.Data.{object}
use Rattle.serde_json.specs.Read.{converted, of_json}
use Rattle.dali_input.specs.ItemsLeft.{item_depth}
use Rattle.dali_input.proofs.TokenLemmas.{opened_object}
use Rattle.dali_input.proofs.items.read_item.Goals as goal

pub returns-in_err-members-in-Some-BeginObject-clause-err :
    goal.returns-in_err-members-in-Some-BeginObject-clause-err
returns-in_err-members-in-Some-BeginObject-clause-err c refused =
    let begun : c.args.reader.now ≡ begin_object ∷ c.next.new.self = grind arith in
    rw begun (opened_object item_depth c.next.new.self (omega arith)
    ∙ ap (parse_map object) (c.in_err-members-in-Some-BeginObject.ensures.err refl))

pub returns-in_ok-members-in-Some-BeginObject-clause-ok :
    goal.returns-in_ok-members-in-Some-BeginObject-clause-ok
returns-in_ok-members-in-Some-BeginObject-clause-ok c =
    let begun : c.args.reader.now ≡ begin_object ∷ c.next.new.self = grind arith in
    let (found, are, read) = c.in_ok-members-in-Some-BeginObject.ensures.ok in (
      object found,
      record { shows = refl; members = are },
      rw begun (opened_object item_depth c.next.new.self (omega arith) ∙ ap (parse_map object) read),
    )

pub returns-in-None-clause-err : goal.returns-in-None-clause-err
returns-in-None-clause-err c refused =
    rw c.in-None.ensures.value.0 (ap (converted of_json) (value_is item_depth []))

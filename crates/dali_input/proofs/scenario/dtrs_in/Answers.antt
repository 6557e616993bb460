use Rattle.std.proofs.Common.{◌≡◌, ◌∷◌, [], length}
use Rattle.serde_json.specs.View.{view}
use Rattle.dali_input.specs.Values.{IsWhole}
use Rattle.dali_input.proofs.ValueLemmas.{same_length_of}
use Rattle.dali_input.proofs.scenario.dtrs_in.Goals as goal

pub returns-then-dtrs-ne3-clause-err : goal.returns-then-dtrs-ne3-clause-err
returns-then-dtrs-ne3-clause-err c = λ dtrs are.
    let three : length c.in_ok-numbers.numbers.items ≡ 3 =
    same_length_of (IsWhole 0 255) (view c.in-Some.json.now) c.in_ok-numbers.numbers.items
    (dtrs.0 ∷ dtrs.1 ∷ dtrs.2 ∷ []) c.in_ok-numbers.ensures.ok (rw c.in-Some.is at are) in
    c.if-dtrs-ne3.true (rw c.as_slice-dtrs.ensures.value three)

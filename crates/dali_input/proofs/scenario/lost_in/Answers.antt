use Rattle.std.proofs.lemmas.Result.{err_from_is_err_and}
use Rattle.serde_json.specs.View.{view}
use Rattle.dali_input.specs.Scenario.{AreLost}
use Rattle.dali_input.proofs.ValueLemmas.{all_within, needs}
use Rattle.dali_input.proofs.scenario.lost_in.Goals as goal

pub returns-in_err-numbers_of-in-Some-clause-err : goal.returns-in_err-numbers_of-in-Some-clause-err
returns-in_err-numbers_of-in-Some-clause-err c =
    let p = err_from_is_err_and c.from_residual.result c.from_residual.ensures.1 in
    rw (p.1, p.2, c.in-Some.is) (needs _ (AreLost (view c.in-Some.json.now)) _ (λ lost are. (are.addresses, are.array))
    c.in_err-numbers_of-in-Some.ensures.err)

pub bits_of-requires : goal.bits_of-requires
bits_of-requires c =
    let are = c.in_ok-numbers_of-in-Some.ensures.ok in
    rw c.as_slice.ensures.value (all_within 0 63 are.items _ are.each)

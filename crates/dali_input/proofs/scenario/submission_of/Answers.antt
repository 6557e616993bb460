use Rattle.std.proofs.Common.{sym}
use Rattle.serde_json.specs.View.{view}
use Rattle.dali_input.proofs.KeyLemmas.{no_moment, no_other_key}
use Rattle.dali_input.proofs.scenario.submission_of.Goals as goal

pub returns-then-not-has_only_keys-clause-err : goal.returns-then-not-has_only_keys-clause-err
returns-then-not-has_only_keys-clause-err c =
    no_other_key (view c.args.json.now) (view c.in-Some.order.now) (sym c.in-Some.ensures)
    (sym c.if-not-has_only_keys.ensures)

pub returns-in-Err-clause-err : goal.returns-in-Err-clause-err
returns-in-Err-clause-err c =
    no_moment (view c.args.json.now) (view c.in-Some.order.now) _ (sym c.in-Some.ensures)
    (rw c.get-2.ensures at c.in-Err.ensures.err)

use Rattle.std.proofs.Common.{refl}
use Rattle.std.proofs.lemmas.Result.{err_from_is_err_and}
use Rattle.dali_input.proofs.ItemLemmas.{drafted, field_fault, finish_fault}
use Rattle.dali_input.proofs.item.order_of_members.Goals as goal

pub returns-in_err-draft-clause-err : goal.returns-in_err-draft-clause-err
returns-in_err-draft-clause-err c =
    let p = err_from_is_err_and c.from_residual.result c.from_residual.ensures.1 in
    rw (p.1, p.2) (λ source are. c.in_err-draft.ensures.err source are)

pub returns-in-Err-clause-err : goal.returns-in-Err-clause-err
returns-in-Err-clause-err c = λ source are.
    field_fault source _ _ c.in-Err.fault (c.in_ok-draft.ensures.ok.1 source are) (c.in-Err.ensures.err source are)

pub returns-in-Ok-clause-ok : goal.returns-in-Ok-clause-ok
returns-in-Ok-clause-ok c = λ source are.
    let of_item =
    drafted source _ _ (c.in_ok-draft.ensures.ok.1 source are) (c.in_default.ensures.ok source are) in
    let made = c.in-Ok.ensures.accepted.0 refl in
    (c.set_fields.new.draft, of_item, made.0, made.1, c.in-Ok.ensures.ok)

pub returns-in-Err-finish-clause-err : goal.returns-in-Err-finish-clause-err
returns-in-Err-finish-clause-err c = λ source are.
    let of_item =
    drafted source _ _ (c.in_ok-draft.ensures.ok.1 source are) (c.in_default.ensures.ok source are) in
    finish_fault source _ c.in-Err-finish.fault of_item c.in-Err-finish.ensures.err.1

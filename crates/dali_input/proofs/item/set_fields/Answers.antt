use Rattle.std.proofs.Common.{arith}
use Rattle.std.proofs.lemmas.Result.{err_from_is_err_and}
use Rattle.dali_input.proofs.ItemLemmas.{first_refused, not_given, one_more, unset_after, unset_given, all_set, rank_at}
use Rattle.dali_input.proofs.MemberLemmas.{given_at, none_at, given_by, refused_as}
use Rattle.dali_input.proofs.item.set_fields.Goals as goal
use Rattle.dali_input.proofs.item.set_fields.Goals.{in-Some+in_ok-set_given, in_default}

pub returns-in_err-set_given-clause-err : goal.returns-in_err-set_given-clause-err
returns-in_err-set_given-clause-err c =
    let p = err_from_is_err_and c.from_residual.result c.from_residual.ensures.1 in
    rw (p.1, p.2) (λ source are.
    let (json, there, shows) = given_at source c.args.members.now _ are _ c.in-Some.ensures in
    first_refused source c.loop-field.field-index _ _ _ c.loop-field-test.true (c.loop-field.invariant.0 source are)
    (json, there, refused_as _ json _ _ shows c.in_err-set_given.ensures.err))

pub loop-field-preserved : goal.loop-field-preserved
loop-field-preserved c =
    let rank = rank_at c.loop-field.field-index c.loop-field-test.true in
    elim c.match-field.branch [
      | in-Some+in_ok-set_given w ↦
          let by = w.in_ok-set_given.ensures.ok in
          rw w.draft-is (
            λ source are.
                let (json, there, shows) = given_at source c.args.members.now _ are _ w.in-Some.ensures in
                rw rank at (one_more source _ c.args.draft.now c.loop-field.draft w.set_given.new.draft _
                (rw rank (c.loop-field.invariant.0 source are)) there (given_by _ json _ _ _ shows by)),
            rw rank at (unset_given _ _ c.loop-field.draft w.set_given.new.draft (rw rank c.loop-field.invariant.1) by),
          )
      | in_default w ↦ rw w.draft-is (
        λ source are.
            let there = none_at source c.args.members.now _ are w.in_default.ensures in
            rw rank at (not_given source _ c.args.draft.now c.loop-field.draft there
            (rw rank (c.loop-field.invariant.0 source are))),
        unset_after c.loop-field.field-index c.loop-field.draft c.loop-field.invariant.1,
      )
    ]

pub returns-clause-ok : goal.returns-clause-ok
returns-clause-ok c =
    λ source are. all_set source c.loop-field.field-index c.args.draft.now c.loop-field.draft
    (omega (arith, c.loop-field-test.false)) (c.loop-field.invariant.0 source are)

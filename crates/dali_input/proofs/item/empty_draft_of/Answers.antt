use Rattle.std.proofs.Common.{◌≡◌, true, false, refl, sym, arith}
use Rattle.dali_input.proofs.ItemLemmas.{above_63}
use Rattle.dali_input.proofs.MemberLemmas.{knows}
use Rattle.dali_input.proofs.item.empty_draft_of.Goals as goal

pub returns-then-not-members-clause-err : goal.returns-then-not-members-clause-err
returns-then-not-members-clause-err c = λ source are. (
  c.in_ok-id.id,
  c.in_ok-id.unit,
  c.in_ok-id.ensures.ok source are,
  knows source _ _ _ _ are (c.in_ok-id.ensures.ok source are) c.if-not-members.true,
)

pub returns-in_default-clause-err : goal.returns-in_default-clause-err
returns-in_default-clause-err c = λ source are.
    let keys = knows source _ _ _ _ are (c.in_ok-id.ensures.ok source are) c.if-not-members.false in (
      c.in_ok-id.id,
      c.in_ok-id.unit,
      c.in_ok-id.ensures.ok source are,
      keys,
      above_63 c.in_ok-id.unit (λ short. c.in_default.ensures (omega (arith, short))),
    )

pub returns-in-Ok-new-clause-ok : goal.returns-in-Ok-new-clause-ok
returns-in-Ok-new-clause-ok c =
    let unit : c.in-Ok.unit ≡ c.in_ok-id.unit = c.in-Ok.ensures.1 in
    rw (c.in-Ok-new.ensures.ok, unit) (
      refl,
      λ source are. record {
        numbers = c.in_ok-id.ensures.ok source are;
        keys = knows source _ _ _ _ are (c.in_ok-id.ensures.ok source are) c.if-not-members.false;
        short = rw unit at (c.in-Ok-new.ensures.short.0 refl);
      },
    )

pub returns-in-Err-clause-err : goal.returns-in-Err-clause-err
returns-in-Err-clause-err c = λ source are.
    let keys = knows source _ _ _ _ are (c.in_ok-id.ensures.ok source are) c.if-not-members.false in
    rw c.in-Err.ensures.err (
      c.in_ok-id.id,
      c.in_ok-id.unit,
      c.in_ok-id.ensures.ok source are,
      keys,
      above_63 c.in_ok-id.unit
          (λ short. let good : true ≡ false = sym (c.in-Err.ensures.short.1 (rw c.in-Ok.ensures.1 short)) in cc),
    )

use Rattle.std.proofs.Common.{inl, inr, sym, ◌∙◌}
use Rattle.dali_input.specs.declared.key.Key.TheVariants.{Order, Unit}
use Rattle.dali_input.proofs.MemberLemmas.{whole_of}
use Rattle.dali_input.proofs.item.numbers_of.Goals as goal

pub returns-in-Some-Some-clause-ok : goal.returns-in-Some-Some-clause-ok
returns-in-Some-Some-clause-ok c = λ source are. record {
  order_is = sym (whole_of source c.args.members.now Order are) ∙ sym c.whole.ensures ∙ c.in-Some-Some.is-0;
  unit_is = sym (whole_of source c.args.members.now Unit are) ∙ sym c.whole-2.ensures ∙ c.in-Some-Some.is-1;
}

pub returns-in_default-clause-err : goal.returns-in_default-clause-err
returns-in_default-clause-err c =
    λ source are. inr (sym (whole_of source c.args.members.now Unit are) ∙ sym c.whole-2.ensures ∙ c.in_default.is-1)

pub returns-in_default-2-clause-err : goal.returns-in_default-2-clause-err
returns-in_default-2-clause-err c =
    λ source are. inl (sym (whole_of source c.args.members.now Order are) ∙ sym c.whole.ensures ∙ c.in_default.is-0)

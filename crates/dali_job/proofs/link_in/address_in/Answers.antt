use Rattle.std.proofs.Common.{◌≡◌, ◌∙◌, Some, [], ap, inr, sym}
use Rattle.dali_job.specs.LinkOptions.{named_twice}
use Rattle.dali_job.proofs.JobLemmas.{none_where, option_named}
use Rattle.dali_job.proofs.link_in.address_in.Goals as goal
use Rattle.dali_job.proofs.link_in.address_in.Goals.{else-gives_none-via-then-gives_none+else-not-is_empty}
use Rattle.dali_job.proofs.link_in.address_in.Goals.{else-gives_none-via-else-gives_none}

pub returns-in-Some-named_twice-clause-named : goal.returns-in-Some-named_twice-clause-named
returns-in-Some-named_twice-clause-named c =
    let twice : named_twice c.in-Some.units.items ≡ Some c.in-Some-named_twice.unit =
    ap named_twice (sym c.as_slice.ensures.value) ∙ sym c.named_twice.ensures ∙ c.in-Some-named_twice.is in
    inr (
      c.in-Some-asked_in.asked,
      c.in-Some.units.items,
      c.in-Some-asked_in.ensures.one,
      elim c.else-gives_none.branch [
        | else-gives_none-via-then-gives_none+else-not-is_empty w ↦
            let none : c.in-Some.units.items ≡ [] =
            none_where c.in-Some.units.items _ _ c.in-Some.units.ok.0 w.is_empty.ensures w.if-not-is_empty.false in
            let once = ap named_twice none in cc
        | else-gives_none-via-else-gives_none w ↦ sym c.gives_none.ensures ∙ w.if-gives_none.false
      ],
      rw c.in-Some.is at c.in_ok-units.ensures.found,
      twice,
    )

pub linked-requires : goal.linked-requires
linked-requires c =
    let units = rw c.in-Some.is at c.in_ok-units.ensures.found in record {
      asked_is = c.in-Some-asked_in.ensures.one;
      units_are = units;
      none_unasked = λ gives. elim c.else-gives_none.branch [
        | else-gives_none-via-then-gives_none+else-not-is_empty w ↦
            none_where c.in-Some.units.items _ _ c.in-Some.units.ok.0 w.is_empty.ensures w.if-not-is_empty.false
        | else-gives_none-via-else-gives_none w ↦
            let gives_some = sym c.gives_none.ensures ∙ w.if-gives_none.false in cc
      ];
      each_once =
          ap named_twice (sym c.as_slice.ensures.value) ∙ sym c.named_twice.ensures ∙ c.in_default-named_twice.is;
      journal_is =
          option_named _ _ _ _ (units.1.0, units.1.1) c.value_of-journal.ensures.found c.value_of-journal.ensures.none;
    }

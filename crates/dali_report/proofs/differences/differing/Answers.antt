use Rattle.std.proofs.Common.{◌∙◌, sym}
use Rattle.std.proofs.lemmas.List.{take_all}
use Rattle.dali_bank.specs.Layout.{fields}
use Rattle.dali_bank.specs.declared.field.Field.TheVariants.{Gtin}
use Rattle.dali_report.proofs.DifferenceLemmas.{all_differ, more_differ, more_same}
use Rattle.dali_report.proofs.differences.differing.Goals.{then-is_other+in_ok-difference+in_ok-push, else-is_other}
use Rattle.dali_report.proofs.differences.differing.Goals as goal

pub loop-field-preserved : goal.loop-field-preserved
loop-field-preserved c = record {
  so_far = elim c.if-is_other.branch [
    | then-is_other+in_ok-difference+in_ok-push w ↦
        rw (w.values-is, w.in_ok-push.ensures.items)
        (more_differ c.args.held.now c.args.wanted.now fields c.loop-field.field-index Gtin c.loop-field.values.items
        w.in_ok-difference.field-0 c.loop-field-test.true c.loop-field.invariant.so_far
        (sym c.is_other.ensures ∙ w.if-is_other.true)
        (let value = w.in_ok-difference.ensures in
        record { one = value.0; field_is = value.1; is = value.2; value_is = value.3 }))
    | else-is_other w ↦
        rw w.values-is
        (more_same c.args.held.now c.args.wanted.now fields c.loop-field.field-index Gtin c.loop-field.values.items
        c.loop-field-test.true c.loop-field.invariant.so_far
        (sym c.is_other.ensures ∙ w.if-is_other.false))
  ];
}

pub returns : goal.returns
returns c = all_differ c.args.held.now c.args.wanted.now _ c.loop-field.values.items
    (take_all c.loop-field.field-index fields c.loop-field-test.false) c.loop-field.invariant.so_far

use Rattle.std.proofs.Common.{◌<◌, length, get_or, arith, length-append}
use Rattle.std.proofs.lemmas.List.Sums.{sum_by_more, sum_by_more_le}
use Rattle.dali_bank.specs.declared.field.Field.{Field}
use Rattle.dali_bank.specs.declared.field.Field.TheVariants.{Gtin}
use Rattle.dali_bank.specs.Layout.{fields, length_of}
use Rattle.dali_bank.proofs.LayoutLemmas.{placed, field_top, flat_map-take_more, length-placed_at}
use Rattle.dali_bank.proofs.draft.Draft.updates.Goals as goal

pub push_bytes-requires : goal.push_bytes-requires
push_bytes-requires c =
    let i = c.loop-field.field-index in
    let field : Field = get_or fields i Gtin in
    let few = sum_by_more_le length_of fields i Gtin c.loop-field-test.true in
    record {
      room = omega (arith, few, c.bytes.ensures.few, c.loop-field.invariant.few);
      places = omega (arith, field_top field, c.first.ensures, c.bytes.ensures.few);
    }

pub loop-field-preserved : goal.loop-field-preserved
loop-field-preserved c =
    let i = c.loop-field.field-index in
    let within : i < length fields = c.loop-field-test.true in
    let field : Field = get_or fields i Gtin in
    record {
      pushed =
          rw (c.push_bytes.ensures, c.loop-field.invariant.pushed, c.first.ensures, c.bytes.ensures.value)
          (flat_map-take_more (placed c.args.self.now) fields i Gtin within);
      few = rw (c.push_bytes.ensures, sum_by_more length_of fields i Gtin within)
          (simp (length-append, length-placed_at) (omega (arith, c.loop-field.invariant.few, c.bytes.ensures.few)));
    }

use Rattle.std.proofs.Common.{◌∙◌, ◌++◌, codes, subst}
use Rattle.dali_bank.specs.declared.field.Field.TheVariants.{Gtin}
use Rattle.dali_bank.proofs.LayoutLemmas.{flat_map-take_more}
use Rattle.dali_text.specs.Output.{Takes}
use Rattle.dali_text.proofs.StreamLemmas.{appends_both}
use Rattle.dali_file_commands.specs.FieldLines.{field_text}
use Rattle.dali_file_commands.proofs.fields.write_rest.Goals as goal

pub loop-field-preserved : goal.loop-field-preserved
loop-field-preserved g c =
    let line = appends_both _ _ _ _ _ c.in_ok-write_all.ensures.bytes c.in_ok-write_field.ensures.text in
    record {
      text =
          subst (λ text. Takes g.W.Write.contents c.args.output.now c.write_field.new.output text)
          (flat_map-take_more (λ field. codes ",\n" ++ field_text field) c.args.rest.now c.loop-field.field-index Gtin
          c.loop-field-test.true)
          (appends_both _ _ _ _ _ c.loop-field.invariant.text line);
      failed =
          c.in_ok-write_field.ensures.failed ∙ c.in_ok-write_all.ensures.failed ∙ c.loop-field.invariant.failed;
    }

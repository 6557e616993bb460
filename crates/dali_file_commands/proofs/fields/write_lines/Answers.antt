use Rattle.std.proofs.Common.{OnOk, subst}
use Rattle.std.proofs.lemmas.Result.{on_ok_weaker}
use Rattle.dali_bank.specs.declared.field.Field.TheVariants.{Gtin}
use Rattle.dali_text.specs.Output.{Takes}
use Rattle.dali_text.proofs.StreamLemmas.{appends_both}
use Rattle.dali_file_commands.proofs.FieldLemmas.{first_and_rest}
use Rattle.dali_file_commands.proofs.fields.write_lines.Goals as goal

pub returns-in_ok-write_field-in-len1-up-clause-text : goal.returns-in_ok-write_field-in-len1-up-clause-text
returns-in_ok-write_field-in-len1-up-clause-text g c =
    subst (λ text. OnOk c.write_rest.result (Takes g.W.Write.contents c.args.output.now c.write_rest.new.output text))
    (first_and_rest c.args.fields.now Gtin c.in-len1-up.len_at_least)
    (on_ok_weaker c.write_rest.result
    (λ took. appends_both _ _ _ _ _ c.in_ok-write_field-in-len1-up.ensures.text took) c.write_rest.ensures.text)

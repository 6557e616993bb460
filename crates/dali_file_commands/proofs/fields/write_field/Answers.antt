use Rattle.std.proofs.Common.{OnOk, subst}
use Rattle.std.proofs.lemmas.Result.{on_ok_weaker}
use Rattle.dali_text.specs.Output.{Takes}
use Rattle.dali_text.proofs.StreamLemmas.{appends_both}
use Rattle.dali_file_commands.proofs.FieldLemmas.{pieces_told}
use Rattle.dali_file_commands.proofs.fields.write_field.Goals as goal

pub returns-clause-text : goal.returns-clause-text
returns-clause-text g c =
    let place = c.in_ok-write_place.ensures.text in
    let words = appends_both _ _ _ _ _ place c.in_ok-write_words.ensures.text in
    let range = appends_both _ _ _ _ _ words c.in_ok-write_range.ensures.text in
    let unknown = appends_both _ _ _ _ _ range c.in_ok-write_bytes.ensures.text in
    let told = pieces_told c.args.field _ _ _ _ _ _ _ _ _ _ c.length.ensures c.first.ensures c.of-form.ensures
    c.word.ensures c.help_of.ensures c.key.ensures c.least.ensures c.most.ensures c.unit_of.ensures
    c.unknown_of.ensures in
    subst (λ text. OnOk c.write_all.result (Takes g.W.Write.contents c.args.output.now c.write_all.new.self text)) told
    (on_ok_weaker c.write_all.result (λ took. appends_both _ _ _ _ _ unknown took) c.write_all.ensures.bytes)

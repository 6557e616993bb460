use Rattle.std.proofs.lemmas.Result.{on_ok_weaker}
use Rattle.dali_text.proofs.StreamLemmas.{appends_both}
use Rattle.dali_file_commands.proofs.fields.write_array.Goals as goal

pub returns-clause-text : goal.returns-clause-text
returns-clause-text g c =
    let lines =
    appends_both _ _ _ _ _ c.in_ok-write_all.ensures.bytes c.in_ok-write_lines.ensures.text in
    on_ok_weaker c.write_all-2.result (λ took. appends_both _ _ _ _ _ lines took) c.write_all-2.ensures.bytes

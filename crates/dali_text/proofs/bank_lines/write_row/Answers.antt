use Rattle.std.proofs.lemmas.Result.{on_ok_weaker}
use Rattle.dali_text.proofs.StreamLemmas.{appends_both}
use Rattle.dali_text.proofs.bank_lines.write_row.Goals as goal

pub returns-clause-text : goal.returns-clause-text
returns-clause-text g c =
    let said = c.in_ok-write_text.ensures.text in
    rw (← c.word_of-word.ensures)
    (on_ok_weaker c.write_all.result
    (λ took. (said.0, said.1, appends_both _ _ _ _ _ (appends_both _ _ _ _ _ c.in_ok-write.ensures.bytes said.2) took))
    c.write_all.ensures.bytes)

use Rattle.std.proofs.lemmas.Result.{on_ok_weaker}
use Rattle.dali_text.proofs.StreamLemmas.{appends_both}
use Rattle.dali_text.proofs.bank_lines.write_field.Goals as goal

pub returns-in_ok-write_all-in-Text-clause-text : goal.returns-in_ok-write_all-in-Text-clause-text
returns-in_ok-write_all-in-Text-clause-text g c = rw (c.in-Text.is, ← c.part-in-Text.ensures)
    (on_ok_weaker c.write_all-in-Text-2.result
    (λ took. appends_both _ _ _ _ _ c.in_ok-write_all-in-Text.ensures.bytes took)
    c.write_all-in-Text-2.ensures.bytes)

pub returns-in_ok-write_all-in-Raw-clause-text : goal.returns-in_ok-write_all-in-Raw-clause-text
returns-in_ok-write_all-in-Raw-clause-text g c = rw (c.in-Raw.is, ← c.part-in-Raw.ensures)
    (on_ok_weaker c.write_bytes-in-Raw.result
    (λ took. appends_both _ _ _ _ _ c.in_ok-write_all-in-Raw.ensures.bytes took)
    c.write_bytes-in-Raw.ensures.text)

use Rattle.dali_text.proofs.run_lines.write_sent.Goals as goal

pub returns-in-Some-clause-text : goal.returns-in-Some-clause-text
returns-in-Some-clause-text g c = rw (c.in-Some.is, ← c.word_of.ensures) c.writeln.ensures.bytes

use Rattle.dali_text.proofs.JournalLinesLemmas.{updates_behind}
use Rattle.dali_text.proofs.journal_lines.write_record.Goals as goal

pub returns-in-Began-clause-text : goal.returns-in-Began-clause-text
returns-in-Began-clause-text g c =
    updates_behind c.write_updates.result c.args.with_updates c.args.entry.now _ _ _ _ _ _ c.if-with_updates.true
    c.in-Began.is c.updates.ensures.value c.in_ok-write_entry.ensures.text c.write_updates.ensures.text

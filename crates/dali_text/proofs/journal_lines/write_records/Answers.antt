use Rattle.std.proofs.Common.{◌∙◌, reverse}
use Rattle.dali_text.proofs.JournalLinesLemmas.{all_forward, journal_forward}
use Rattle.dali_text.proofs.journal_lines.write_records.Goals as goal

pub returns-clause-text : goal.returns-clause-text
returns-clause-text g c =
    let records = c.args.journal.now.records in
    c.write_each.ensures.text (reverse records) (all_forward records c.limit-limit.ensures.journal.kept.in_range)
    (c.record_bytes.ensures ∙ journal_forward records)

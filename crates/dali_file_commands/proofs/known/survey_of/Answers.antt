use Rattle.std.proofs.Common.{◌∙◌, reverse, subst}
use Rattle.std.proofs.lemmas.List.{reverse-reverse}
use Rattle.dali_text.proofs.JournalLinesLemmas.{all_forward, journal_forward}
use Rattle.dali_file_commands.specs.Survey.{IsSurvey}
use Rattle.dali_file_commands.proofs.known.survey_of.Goals as goal

pub returns : goal.returns
returns c =
    let records = c.args.journal.now.records in
    subst (λ those. IsSurvey those c.survey_each.result) (reverse-reverse records)
    (c.survey_each.ensures (reverse records) (all_forward records c.limit-limit.ensures.journal.kept.in_range)
    (c.record_bytes.ensures ∙ journal_forward records))

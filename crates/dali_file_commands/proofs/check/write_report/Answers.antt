use Rattle.std.proofs.Common.{refl}
use Rattle.dali_text.proofs.StreamLemmas.{appends_both, appends_kept}
use Rattle.dali_file_commands.proofs.ReportLemmas.{some_refused}
use Rattle.dali_file_commands.proofs.check.write_report.Goals as goal

pub returns-then-refused-eq0-clause-report : goal.returns-then-refused-eq0-clause-report
returns-then-refused-eq0-clause-report g c = λ all left.
    let (outcomes, judged, good, bad, lines, are, written, noted) = c.in_ok-accepted.ensures.lines all left in
    let (last, free, told) = c.in_ok-write_free.ensures.text in (
      outcomes,
      judged,
      rw (bad, c.if-refused-eq0.true) refl,
      _,
      record { lines = lines; last = last; of_items = are; of_journal = free; text_is = refl },
      appends_kept _ _ _ _ (appends_both _ _ _ _ _
          (appends_both _ _ _ _ _ written (rw (good, bad) c.in_ok-write_tally.ensures.text)) told)
          c.in_ok-flush.ensures.bytes,
      noted,
    )

pub returns-else-refused-eq0-clause-report : goal.returns-else-refused-eq0-clause-report
returns-else-refused-eq0-clause-report g c = λ all left.
    let (outcomes, judged, good, bad, lines, are, written, noted) = c.in_ok-accepted.ensures.lines all left in
    let (last, free, told) = c.in_ok-write_free.ensures.text in (
      outcomes,
      judged,
      some_refused outcomes _ bad c.if-refused-eq0.false,
      _,
      record { lines = lines; last = last; of_items = are; of_journal = free; text_is = refl },
      appends_kept _ _ _ _ (appends_both _ _ _ _ _
          (appends_both _ _ _ _ _ written (rw (good, bad) c.in_ok-write_tally.ensures.text)) told)
          c.in_ok-flush.ensures.bytes,
      noted,
    )

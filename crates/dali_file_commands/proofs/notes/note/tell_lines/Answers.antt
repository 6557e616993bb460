use Rattle.std.proofs.Common.{◌++◌, ◌∙◌}
use Rattle.dali_text.proofs.StreamLemmas.{appends_both}
use Rattle.dali_file_commands.proofs.NoteLineLemmas.{one_more}
use Rattle.dali_file_commands.proofs.notes.note.tell_lines.Goals as goal

pub loop-line-preserved : goal.loop-line-preserved
loop-line-preserved g c =
    let (text, lines, took) = c.loop-line.invariant.told in
    let (line, is, taken) = c.in_ok-tell_line.ensures.told in record {
      told = (text ++ line, one_more _ _ text line lines is, appends_both _ _ _ text line took taken);
      failed = c.in_ok-tell_line.ensures.failed ∙ c.loop-line.invariant.failed;
    }

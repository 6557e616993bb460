use Rattle.std.proofs.Common.{◌∙◌, refl}
use Rattle.dali_text.proofs.JournalLinesLemmas.{all_told, none_told, told_more}
use Rattle.dali_text.proofs.journal_lines.write_each.Goals as goal

pub loop-entry-init : goal.loop-entry-init
loop-entry-init g c = record {
  text = λ records all bytes. none_told c.args.with_updates records c.args.bytes.now
      (g.W.Write.contents c.args.output.now.writer) all bytes;
  failed = refl;
}

pub loop-entry-preserved : goal.loop-entry-preserved
loop-entry-preserved g c = record {
  text = λ records all bytes.
      rw c.behind-rest.ensures (told_more c.args.with_updates records c.loop-entry.rest.now c.in-Whole.entry
      c.in-Whole.len _ _ _
      c.in-Whole.ensures (c.loop-entry.invariant.text records all bytes) c.in_ok-write_record.ensures.text);
  failed = c.in_ok-write_record.ensures.failed ∙ c.loop-entry.invariant.failed;
}

pub returns-clause-text : goal.returns-clause-text
returns-clause-text g c =
    λ records all bytes. all_told c.args.with_updates records c.loop-entry.rest.now c.read.result _ _ c.read.ensures
    c.in_default.not-Whole
    (c.loop-entry.invariant.text records all bytes)

use Rattle.std.proofs.Common.{◌≡◌, List, length}
use Rattle.std.specs.List.{AllByRecursion, flat_map}
use Rattle.dali_journal.specs.declared.version.Version.TheVariants.{Two}
use Rattle.dali_journal.specs.declared.record.Record.{Record}
use Rattle.dali_journal.specs.Spelling.{IsRecord, spelling}
use Rattle.dali_text.specs.Output.{has_failed}
use Rattle.dali_text.proofs.JournalLinesLemmas.{WrittenSoFar}
use Rattle.dali_text.proofs.journal_lines.write_each.Given as goal

abbrev pub invariant-loop-entry : goal.invariant-loop-entry
invariant-loop-entry g l = record {
  text : (records : List Record) → AllByRecursion (IsRecord Two) records → l.bytes ≡ flat_map (spelling Two) records
      → WrittenSoFar l.with_updates records l.rest (g.W.Write.contents l.initial.output.writer)
      (g.W.Write.contents l.output.writer);
  failed : has_failed l.output ≡ has_failed l.initial.output;
}

abbrev pub decreases-loop-entry : goal.decreases-loop-entry
decreases-loop-entry g l = length l.rest

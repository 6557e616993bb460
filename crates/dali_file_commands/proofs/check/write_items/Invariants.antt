use Rattle.std.proofs.Common.{◌≡◌, ◌+◌}
use Rattle.serde_json.specs.Data.{Items}
use Rattle.dali_input.specs.ItemsLeft.{AreLeft, left_of}
use Rattle.dali_text.specs.Output.{has_failed}
use Rattle.dali_file_commands.specs.NoteLines.{Tells}
use Rattle.dali_file_commands.specs.Known.{asked}
use Rattle.dali_file_commands.specs.Notes.{AreItemNotes}
use Rattle.dali_file_commands.proofs.ReportLemmas.{SoFar}
use Rattle.dali_file_commands.proofs.check.write_items.Given as goal

abbrev pub invariant-items : goal.invariant-items
invariant-items g l = record {
  counted : l.accepted + l.refused + left_of l.items ≡ l.count;
  so_far : (all : Items) → AreLeft l.initial.items all → (left : Items) × AreLeft l.items left
      × SoFar (asked l.ledger.journal) all left l.accepted l.refused
      (g.W.Write.contents l.initial.output.writer) (g.W.Write.contents l.output.writer)
      (λ outcomes. Tells g.N.Write.contents l.initial.notes l.notes (AreItemNotes 1 outcomes));
  failed : has_failed l.output ≡ has_failed l.initial.output;
}

abbrev pub decreases-items : goal.decreases-items
decreases-items g l = left_of l.items

use Rattle.std.proofs.Common.{◌≡◌, ℕ, List}
use Rattle.dali_text.specs.Output.{Takes, has_failed}
use Rattle.dali_file_commands.specs.NoteLines.{AreLines, front_text}
use Rattle.dali_file_commands.proofs.notes.note.tell_lines.Given as goal

abbrev pub invariant-loop-line : goal.invariant-loop-line
invariant-loop-line g l = record {
  told : (text : List ℕ) × AreLines (front_text l.front) l.line-index text
      × Takes g.N.Write.contents l.initial.notes l.notes text;
  failed : has_failed l.notes ≡ has_failed l.initial.notes;
}

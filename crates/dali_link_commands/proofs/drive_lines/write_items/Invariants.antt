use Rattle.std.proofs.Common.{◌≡◌, take}
use Rattle.dali_text.specs.Output.{Takes, has_failed}
use Rattle.dali_link_commands.specs.Told.{refused_lines}
use Rattle.dali_link_commands.proofs.drive_lines.write_items.Given as goal

abbrev pub invariant-loop-item : goal.invariant-loop-item
invariant-loop-item g l = record {
  lines : Takes g.W.Write.contents l.initial.output l.output (refused_lines (take l.item-index l.refused));
  failed : has_failed l.output ≡ has_failed l.initial.output;
}

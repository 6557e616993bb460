use Rattle.std.proofs.Common.{◌∙◌}
use Rattle.dali_input.specs.declared.fault.InputFault.TheVariants.{Json}
use Rattle.dali_input.specs.declared.item.ItemFault.TheVariants.{Input}
use Rattle.dali_link_commands.proofs.DriveLemmas.{refused_more}
use Rattle.dali_link_commands.proofs.drive_lines.write_items.Goals as goal

pub loop-item-preserved : goal.loop-item-preserved
loop-item-preserved g c = record {
  lines = refused_more c.args.refused.now c.loop-item.item-index (0, Input Json) _ _ _ c.loop-item-test.true
      c.loop-item.invariant.lines c.in_ok-write_refused_item.ensures.line;
  failed = c.in_ok-write_refused_item.ensures.failed ∙ c.loop-item.invariant.failed;
}

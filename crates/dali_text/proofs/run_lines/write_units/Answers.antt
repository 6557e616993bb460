use Rattle.std.proofs.Common.{◌∙◌}
use Rattle.dali_text.proofs.RunTextLemmas.{units_more}
use Rattle.dali_text.proofs.run_lines.write_units.Goals as goal

pub loop-unit-preserved : goal.loop-unit-preserved
loop-unit-preserved g c = record {
  text = units_more c.args.units.now c.loop-unit.unit-index c.unit-item.result _ _ _ c.loop-unit-test.true
      c.unit-item.is c.loop-unit.invariant.text c.in_ok-write_unit.ensures.text;
  failed = c.in_ok-write_unit.ensures.failed ∙ c.loop-unit.invariant.failed;
}

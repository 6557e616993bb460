use Rattle.std.proofs.Common.{◌≡◌, take}
use Rattle.std.specs.List.{flat_map}
use Rattle.dali_text.specs.UnitLines.{unit_text}
use Rattle.dali_text.specs.Output.{Takes, has_failed}
use Rattle.dali_text.proofs.run_lines.write_units.Given as goal

abbrev pub invariant-loop-unit : goal.invariant-loop-unit
invariant-loop-unit g l = record {
  text : Takes g.W.Write.contents l.initial.output l.output (flat_map unit_text (take l.unit-index l.units));
  failed : has_failed l.output ≡ has_failed l.initial.output;
}

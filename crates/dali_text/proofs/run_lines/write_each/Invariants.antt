use Rattle.std.proofs.Common.{◌≡◌, take}
use Rattle.std.specs.List.{flat_map}
use Rattle.dali_text.specs.RunText.{happening_line}
use Rattle.dali_text.specs.Output.{Takes, has_failed}
use Rattle.dali_text.proofs.run_lines.write_each.Given as goal

abbrev pub invariant-loop-happening : goal.invariant-loop-happening
invariant-loop-happening g l = record {
  text : Takes g.W.Write.contents l.initial.output l.output (flat_map happening_line (take l.happening-index l.trace));
  failed : has_failed l.output ≡ has_failed l.initial.output;
}

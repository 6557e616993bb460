use Rattle.std.proofs.Common.{◌≡◌}
use Rattle.dali_text.specs.Output.{has_failed}
use Rattle.dali_text.proofs.RunTextLemmas.{Summing}
use Rattle.dali_text.proofs.run_lines.write_summary.Given as goal

abbrev pub invariant-loop-happening : goal.invariant-loop-happening
invariant-loop-happening g l = record {
  text : Summing l.trace l.happening-index l.frames (g.W.Write.contents l.initial.output.writer)
      (g.W.Write.contents l.output.writer);
  failed : has_failed l.output ≡ has_failed l.initial.output;
}

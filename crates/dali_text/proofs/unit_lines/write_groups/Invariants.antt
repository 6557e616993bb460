use Rattle.std.proofs.Common.{◌≡◌}
use Rattle.dali_text.proofs.RunTextLemmas.{groups}
use Rattle.dali_text.specs.Output.{Takes, has_failed}
use Rattle.dali_text.proofs.unit_lines.write_groups.Given as goal

abbrev pub invariant-loop-number : goal.invariant-loop-number
invariant-loop-number g l = record {
  text : Takes g.W.Write.contents l.initial.output l.output (groups l.address l.bytes l.number);
  failed : has_failed l.output ≡ has_failed l.initial.output;
}

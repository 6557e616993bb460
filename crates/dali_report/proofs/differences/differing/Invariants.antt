use Rattle.std.proofs.Common.{take}
use Rattle.dali_bank.specs.Layout.{fields}
use Rattle.dali_report.proofs.DifferenceLemmas.{AreSoFar}
use Rattle.dali_report.proofs.differences.differing.Given as goal

abbrev pub invariant-loop-field : goal.invariant-loop-field
invariant-loop-field l = record {
  so_far : AreSoFar l.held l.wanted (take l.field-index fields) l.values.items;
}

use Rattle.std.proofs.Common.{◌≡◌, take}
use Rattle.dali_text.specs.Output.{has_failed}
use Rattle.dali_text.proofs.BankLinesLemmas.{Written}
use Rattle.dali_text.proofs.bank_lines.write_bank.Given as goal

abbrev pub invariant-loop-row : goal.invariant-loop-row
invariant-loop-row g l = record {
  text : Written l.bank (take l.row-index l.row-items) (g.W.Write.contents l.initial.output.writer)
      (g.W.Write.contents l.output.writer);
  failed : has_failed l.output ≡ has_failed l.initial.output;
}

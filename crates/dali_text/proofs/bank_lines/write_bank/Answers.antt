use Rattle.std.proofs.Common.{◌∙◌}
use Rattle.dali_text.proofs.BankLinesLemmas.{row_more}
use Rattle.dali_text.proofs.bank_lines.write_bank.Goals as goal

pub loop-row-preserved : goal.loop-row-preserved
loop-row-preserved g c =
    let said = c.in_ok-write_row.ensures.text in
    record {
      text =
          row_more c.args.bank.now _ c.loop-row.row-index _ _ _ _ said.0 c.loop-row-test.true c.loop-row.invariant.text
          said.1 said.2;
      failed = c.in_ok-write_row.ensures.failed ∙ c.loop-row.invariant.failed;
    }

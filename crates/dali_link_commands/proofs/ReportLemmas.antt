-- Lemmas on how a command with a report ends.
use Rattle.std.proofs.Common.{◌≡◌, refl, ℕ, Bool, true, false, ◌&&◌, List, Option}
use Rattle.dali_report.specs.declared.report.Report.{Report}
use Rattle.dali_report.specs.Told.{has_failed, has_output}
use Rattle.dali_input.specs.declared.command_fault.Status.{Status}
use Rattle.dali_link_commands.specs.declared.report_output.ReportOutput.{ReportOutput}
use Rattle.dali_drive.specs.Desks.{Look}
use Rattle.dali_link_commands.specs.Benches.{with_lines}
use Rattle.dali_link_commands.specs.LinkCommands.{EndsReported, IsReported, is_lost}

-- a report that was wanted was opened if it has an output
lost_by_output : {N : Type 0} (wanted opened : Bool) (before after : Report N)
    → has_output before ≡ (wanted && opened) → is_lost wanted opened after ≡ is_lost wanted (has_output before) after
lost_by_output true opened before after is = rw is
lost_by_output false opened before after is = refl

-- a command whose report was opened like this, and whose end was reported accordingly
pub reported : (wanted opened : Bool)
    (answers : Report ReportOutput → Report ReportOutput → Look → Status → Look → Type 0) (first last : Look)
    (before after : Report ReportOutput) (ended status : Status) (lines : Option (List ℕ)) (failed : Bool)
    → has_failed before ≡ false → has_output before ≡ (wanted && opened)
    → answers before after first ended (with_lines last lines failed)
    → EndsReported (is_lost wanted opened after) ended status lines last.streams.out
    → IsReported wanted answers first status last
reported wanted opened answers first last before after ended status lines failed good output answered told =
    let only_wanted : wanted ≡ false → has_output before ≡ false = λ none. cc in
    let ends = rw (lost_by_output wanted opened before after output) at told in search

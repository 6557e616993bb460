use Rattle.std.proofs.Common.{is_none, is_some}
use Rattle.dali_text.specs.Output.{has_failed, held}
use Rattle.dali_link_commands.proofs.ReadLemmas.{nothing_known}
use Rattle.dali_link_commands.proofs.ReportLemmas.{reported}
use Rattle.dali_link_commands.proofs.link_command.carry_out.Goals as goal

pub returns-in-Drive-clause-carried_out : goal.returns-in-Drive-clause-carried_out
returns-in-Drive-clause-carried_out g c = rw c.in-Drive.is
    (reported (is_some c.in-Drive.task.report) (is_none c.open-file.result.unopened) _ _
    _ c.open-file.result.report
    c.drive_files-ended.new.report c.drive_files-ended.result c.end.result
    (held g.O.Write.contents c.drive_files-ended.new.desk.out.output)
    (has_failed c.drive_files-ended.new.desk.out.output)
    c.open-file.ensures.unfailed c.open-file.ensures.output c.drive_files-ended.ensures.driven c.end.ensures.told)

pub returns-in-Verify-clause-carried_out : goal.returns-in-Verify-clause-carried_out
returns-in-Verify-clause-carried_out g c = rw c.in-Verify.is
    (reported (is_some c.in-Verify.report) (is_none c.open-file-in-Verify.result.unopened) _ _
    _ c.open-file-in-Verify.result.report
    c.verify_file-ended.new.report
    c.verify_file-ended.result c.end-in-Verify.result (held g.O.Write.contents c.verify_file-ended.new.desk.out.output)
    (has_failed c.verify_file-ended.new.desk.out.output) c.open-file-in-Verify.ensures.unfailed
    c.open-file-in-Verify.ensures.output
    c.verify_file-ended.ensures.verified.0 c.end-in-Verify.ensures.told)

pub returns-in-Read-clause-carried_out : goal.returns-in-Read-clause-carried_out
returns-in-Read-clause-carried_out g c = rw c.in-Read.is (nothing_known _ _ _ _ _ c.read_bank.ensures.answer.0)

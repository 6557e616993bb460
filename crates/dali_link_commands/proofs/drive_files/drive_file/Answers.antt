use Rattle.std.proofs.Common.{inl, ◌≡◌}
use Rattle.dali_drive.specs.StdStreams.{source_failed}
use Rattle.dali_link_commands.specs.BehindAnswers.{IsAnswerBehind}
use Rattle.dali_link_commands.proofs.DriveLemmas.{file_answered}
use Rattle.dali_link_commands.proofs.FollowLemmas.{new_are_unread}
use Rattle.dali_link_commands.proofs.drive_files.drive_file.Goals as goal

pub returns-then-task-clause-driven : goal.returns-then-task-clause-driven
returns-then-task-clause-driven g c = rw c.if-task.true (
    inl (
      c.new-orders.result,
      c.follow_source.new.orders,
      new_are_unread source_failed c.new.result c.args.task.now.moment c.new-orders.result c.new-orders.ensures
          c.new.ensures.failed,
      c.follow_source.ensures.answer,
    )
    )

pub returns-else-task-clause-driven : goal.returns-else-task-clause-driven
returns-else-task-clause-driven g c = rw c.if-task.false (
    file_answered (IsAnswerBehind c.args.desk.now.older g.N.Write.contents c.args.task.now.moment c.args.task.now.pace
    c.args.task.now.required c.args.report.now c.drive_input.new.report)
    (c.drive_input.new.report ≡ c.args.report.now) _ _ _ _ _ c.drive_input.ensures.driven.0
    )

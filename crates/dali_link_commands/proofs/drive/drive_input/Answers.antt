use Rattle.std.proofs.Common.{rules, ◌≡◌, inl, inr, refl}
use Rattle.dali_link_commands.specs.BehindAnswers.{IsAnswerBehind}
use Rattle.dali_link_commands.proofs.DriveLemmas.{read_and_answered}
use Rattle.dali_link_commands.proofs.drive.drive_input.Goals as goal

pub returns-in-Ok-Ok-clause-driven : goal.returns-in-Ok-Ok-clause-driven
returns-in-Ok-Ok-clause-driven g c = (
  read_and_answered
      (IsAnswerBehind c.args.desk.now.older g.N.Write.contents c.args.task.now.moment c.args.task.now.pace
      c.args.task.now.required c.args.report.now
      c.drive_orders.new.report)
      (c.drive_orders.new.report ≡ c.args.report.now) _ _ _ _ _ _ c.as_slice.result.now c.as_slice.ensures.value
      c.in-Ok.ensures.ok (inl (_, search rules, c.drive_orders.ensures.answer.0)),
  search rules,
)

pub returns-in-Ok-Err-clause-driven : goal.returns-in-Ok-Err-clause-driven
returns-in-Ok-Err-clause-driven g c = (
  read_and_answered
      (IsAnswerBehind c.args.desk.now.older g.N.Write.contents c.args.task.now.moment c.args.task.now.pace
      c.args.task.now.required c.args.report.now
      c.args.report.now)
      (c.args.report.now ≡ c.args.report.now) _ _ _ _ _ _ c.as_slice.result.now c.as_slice.ensures.value
      c.in-Ok.ensures.ok (inr (inl (search rules, refl))),
  search rules,
)

pub returns-clause-driven : goal.returns-clause-driven
returns-clause-driven g c = (
  read_and_answered
      (IsAnswerBehind c.args.desk.now.older g.N.Write.contents c.args.task.now.moment c.args.task.now.pace
      c.args.task.now.required c.args.report.now
      c.args.report.now)
      (c.args.report.now ≡ c.args.report.now) _ _ _ _ _ _ c.as_slice.result.now c.as_slice.ensures.value
      c.in-Ok.ensures.ok (inr (inr (c.in-Err-read_orders.fault, search rules, search rules, refl))),
  search rules,
)

pub returns-in-Err-clause-driven : goal.returns-in-Err-clause-driven
returns-in-Err-clause-driven g c = (
  inr (
    c.in-Err.fault,
    c.in-Err.ensures.err,
    record { undriven = search rules; told = rw c.unread.ensures at c.tell.ensures.told },
    refl,
  ),
  c.tell.ensures.unwritten,
)

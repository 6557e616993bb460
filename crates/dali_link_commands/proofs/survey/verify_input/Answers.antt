use Rattle.std.proofs.Common.{rules, ◌≡◌, inl, inr, refl}
use Rattle.dali_link_commands.specs.ReadAnswers.{IsVerifyAnswer}
use Rattle.dali_link_commands.proofs.DriveLemmas.{read_and_answered}
use Rattle.dali_link_commands.proofs.survey.verify_input.Goals as goal

pub returns-in-Ok-Ok-clause-verified : goal.returns-in-Ok-Ok-clause-verified
returns-in-Ok-Ok-clause-verified g c = (
  read_and_answered
      (IsVerifyAnswer g.N.Write.contents c.args.report.now c.verify_units.new.report)
      (c.verify_units.new.report ≡ c.args.report.now) _ _ _ _ _ _ c.as_slice.result.now c.as_slice.ensures.value
      c.in-Ok.ensures.ok (inl (_, search rules, c.verify_units.ensures.answer.0)),
  search rules,
)

pub returns-in-Ok-Err-clause-verified : goal.returns-in-Ok-Err-clause-verified
returns-in-Ok-Err-clause-verified g c = (
  read_and_answered
      (IsVerifyAnswer g.N.Write.contents c.args.report.now c.args.report.now)
      (c.args.report.now ≡ c.args.report.now) _ _ _ _ _ _ c.as_slice.result.now c.as_slice.ensures.value
      c.in-Ok.ensures.ok (inr (inl (search rules, refl))),
  search rules,
)

pub returns-clause-verified : goal.returns-clause-verified
returns-clause-verified g c = (
  read_and_answered
      (IsVerifyAnswer g.N.Write.contents c.args.report.now c.args.report.now)
      (c.args.report.now ≡ c.args.report.now) _ _ _ _ _ _ c.as_slice.result.now c.as_slice.ensures.value
      c.in-Ok.ensures.ok (inr (inr (c.in-Err-read_orders.fault, search rules, search rules, refl))),
  search rules,
)

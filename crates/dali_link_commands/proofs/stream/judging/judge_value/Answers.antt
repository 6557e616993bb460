use Rattle.std.proofs.Common.{inl, inr}
use Rattle.serde_json.specs.View.{view}
use Rattle.dali_link_commands.proofs.LinesJudgedLemmas.{submitted_itself, submitted_by, no_submission}
use Rattle.dali_link_commands.proofs.stream.judging.judge_value.Goals as goal

pub returns-in-None : goal.returns-in-None
returns-in-None c =
    inr (
      view c.args.json.now,
      c.args.moment,
      submitted_itself c.args.moment (view c.args.json.now) c.in-None.ensures.none,
      c.judge_at.ensures,
    )

pub returns-in-Some-Ok : goal.returns-in-Some-Ok
returns-in-Some-Ok c =
    inr (
      view c.in-Some-Ok.order.now,
      c.in-Some-Ok.at,
      submitted_by c.args.moment c.in-Some-Ok.at (view c.args.json.now) (view c.in-Some-Ok.order.now)
          (rw c.in-Some-Ok.field-0-is at c.in-Some-Ok.ensures.ok),
      c.judge_at-in-Some-Ok.ensures,
    )

pub returns-in-Some-Err : goal.returns-in-Some-Err
returns-in-Some-Err c =
    inl (no_submission (view c.args.json.now) c.in-Some-Err.fault _ c.in-Some-Err.ensures.some
    (rw c.in-Some-Err.field-0-is at c.in-Some-Err.ensures.document)
    (rw c.in-Some-Err.field-0-is at c.in-Some-Err.ensures.err) c.submitted_number.ensures)

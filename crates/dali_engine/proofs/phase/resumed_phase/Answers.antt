use Rattle.std.proofs.Common.{refl}
use Rattle.dali_engine.proofs.phase.resumed_phase.Goals as goal

pub returns-in-Began : goal.returns-in-Began
returns-in-Began c = rw c.in-Began.is (
  c.fresh_with_pace-session.result,
  refl,
  (
    rw c.copy.ensures.value at c.fresh_with_pace-session.ensures.unit,
    rw c.copy.ensures.value at c.fresh_with_pace-session.ensures.task,
  ),
  c.fresh_with_pace-session.ensures.told,
  rw c.copy.ensures.value at c.copy.ensures.valid,
)

pub returns-in-Opened : goal.returns-in-Opened
returns-in-Opened c = rw c.in-Opened.is (
  c.opened_with_pace-session.result,
  refl,
  (
    rw c.copy-in-Opened.ensures.value at c.opened_with_pace-session.ensures.unit,
    rw c.copy-in-Opened.ensures.value at c.opened_with_pace-session.ensures.task,
  ),
  c.opened_with_pace-session.ensures.told,
  rw c.copy-in-Opened.ensures.value at c.copy-in-Opened.ensures.valid,
)

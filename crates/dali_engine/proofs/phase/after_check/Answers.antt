use Rattle.std.proofs.Common.{refl}
use Rattle.dali_engine.proofs.phase.after_check.Goals as goal

pub returns-in-MayOpen : goal.returns-in-MayOpen
returns-in-MayOpen c = rw c.in-MayOpen.is (
  c.opened_with_pace-session.result,
  refl,
  (
    rw c.copy.ensures.value at c.opened_with_pace-session.ensures.unit,
    rw c.copy.ensures.value at c.opened_with_pace-session.ensures.task,
  ),
  c.opened_with_pace-session.ensures.told,
  rw c.copy.ensures.value at c.copy.ensures.valid,
  rw c.copy.ensures.value at c.opened_with_pace-session.ensures.left,
)

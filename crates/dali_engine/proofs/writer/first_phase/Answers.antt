use Rattle.std.proofs.Common.{refl}
use Rattle.dali_engine.proofs.writer.first_phase.Goals as goal

pub returns-in-Left : goal.returns-in-Left
returns-in-Left c = rw c.in-Left.is (
  c.closing.result,
  refl,
  c.closing.ensures.unit,
  (c.closing.ensures.unit, c.closing.ensures.task),
  c.closing.ensures.told,
)

use Rattle.std.proofs.Common.{sym, subst}
use Rattle.dali_trace.specs.declared.happening.Happening.TheVariants.{Kept}
use Rattle.dali_trace.specs.Causes.{IsCauseBeside}
use Rattle.dali_engine.proofs.CauseLemmas.{caused, ill_has_cause}
use Rattle.dali_engine.proofs.writer.Writer.cause.Goals as goal

pub returns : goal.returns
returns c = λ start past entry d f wanted.
    let before = rw (← c.self.view_is) at d in
    let followed = rw (← c.self.view_is) at f in
    let wants = rw (← c.self.view_is) at wanted in
    subst (IsCauseBeside start past (Kept entry)) (sym c.cause.ensures) (
      caused c.self.inside.pace start past c.self.inside.journal c.self.inside.phase before followed
          c.self.invariant.ready,
      ill_has_cause c.self.inside.pace start past c.self.inside.journal c.self.inside.phase entry before followed
          c.self.invariant.ready wants,
    )

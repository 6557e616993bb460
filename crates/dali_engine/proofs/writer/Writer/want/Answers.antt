use Rattle.std.proofs.Common.{inl, ◌∙◌, refl, sym, ap, subst}
use Rattle.dali_trace.specs.declared.happening.Want.{Want}
use Rattle.dali_engine.specs.Phases.{want_of, is_wanting}
use Rattle.dali_trace.specs.Next.{IsDone}
use Rattle.dali_engine.proofs.StepLemmas.{busy_at, idle_wanted}
use Rattle.dali_engine.proofs.NextRecordLemmas.{next_record}
use Rattle.dali_engine.proofs.WantLemmas.{done_next}
use Rattle.dali_engine.proofs.writer.Writer.want.Goals as goal

pub returns-clause-busy : goal.returns-clause-busy
returns-clause-busy c = λ start past d.
    busy_at c.self.inside.pace start past c.self.inside.journal c.self.inside.phase (rw (← c.self.view_is) at d)
    c.self.invariant.ready
    ∙ sym (ap is_wanting c.want.ensures.want)

pub returns-clause-rest : goal.returns-clause-rest
returns-clause-rest c =
    λ is. inl (rw (← c.self.view_is) (idle_wanted c.self.inside.phase (sym c.want.ensures.want ∙ is)))

pub returns-clause-next : goal.returns-clause-next
returns-clause-next c = λ start past d f entry.
    let next =
    next_record c.self.inside.pace start past c.self.inside.journal c.self.inside.phase entry
    (rw (← c.self.view_is) at d)
    (rw (← c.self.view_is) at f) c.self.invariant.ready in
    (λ is. next.0 (sym c.want.ensures.want ∙ is), λ is. c.want.ensures.want ∙ next.1 is)

pub returns-clause-done : goal.returns-clause-done
returns-clause-done c = λ start past d f next done.
    done_next c.self.inside.pace start past c.self.inside.journal c.self.inside.phase (want_of c.self.inside.phase) next
    (rw (← c.self.view_is) at d) (rw (← c.self.view_is) at f) c.self.invariant.ready refl
    (subst (λ (w : Want). IsDone w next) c.want.ensures.want done)

use Rattle.std.proofs.Common.{◌∙◌, sym, refl}
use Rattle.dali_journal.specs.JournalState.{order_count}
use Rattle.dali_engine.proofs.SubmitLemmas.{known_on, busy_on, full_on, taken_on, ready_taken, not_full}
use Rattle.dali_engine.proofs.FollowLemmas.{known_follows, taken_follows}
use Rattle.dali_engine.proofs.writer.Writer.submit.Goals as goal

pub returns-in-Some-clause-described : goal.returns-in-Some-clause-described
returns-in-Some-clause-described c = λ start past d.
    known_on start past c.args.self.now c.args.order c.args.moment c.in-Some.reply d
    (rw (← c.self.view_is) c.in-Some.ensures.some)

pub returns-then-not-is_idle-clause-described : goal.returns-then-not-is_idle-clause-described
returns-then-not-is_idle-clause-described c = λ start past d.
    rw (← c.self.view_is)
    (busy_on c.self.inside.pace start past c.self.inside.journal c.self.inside.phase c.args.order c.args.moment
    (rw (← c.self.view_is) at d) c.self.invariant.ready
    (c.in_default.ensures.none refl) (sym c.is_idle.ensures ∙ c.if-not-is_idle.true))

pub invariant_of-self-2 : goal.invariant_of-self-2
invariant_of-self-2 c = record {
  ready =
      ready_taken c.self.inside.pace c.self.inside.journal c.reserve.new.self c.self.inside.phase
      c.first_phase-self-inside.result c.args.order c.args.moment
      (rw c.in_ok-reserve.ensures.records at c.standing.ensures.journal.kept.whole.0) c.self.invariant.ready
      (c.in_default.ensures.none refl) (sym c.is_idle.ensures ∙ c.if-not-is_idle.false)
      (not_full c.is_full.result c.self.inside.journal.limit (order_count c.self.inside.journal) c.is_full.ensures
      c.if-is_full.false)
      c.in_ok-reserve.ensures.records c.in_ok-reserve.ensures.limit c.in_ok-reserve.ensures.room
      (rw c.standing.ensures.value at c.first_phase-self-inside.ensures);
}

pub returns-clause-described : goal.returns-clause-described
returns-clause-described c = λ start past d.
    taken_on c.self.inside.pace start past c.self.inside.journal c.reserve.new.self c.self.inside.phase
    c.first_phase-self-inside.result c.args.order c.args.moment c.standing.result
    (rw (← c.self.view_is) at d) c.self.invariant.ready
    (c.in_default.ensures.none refl) (sym c.is_idle.ensures ∙ c.if-not-is_idle.false)
    (not_full c.is_full.result c.self.inside.journal.limit (order_count c.self.inside.journal) c.is_full.ensures
    c.if-is_full.false)
    c.in_ok-reserve.ensures.records c.in_ok-reserve.ensures.limit c.first_phase-self-inside.ensures

pub returns-in-Some-clause-follows : goal.returns-in-Some-clause-follows
returns-in-Some-clause-follows c = λ start past f.
    known_follows start past c.args.self.now c.args.order c.args.moment _ c.in-Some.reply f c.in-Some.ensures.some

pub returns-then-not-is_idle-clause-follows : goal.returns-then-not-is_idle-clause-follows
returns-then-not-is_idle-clause-follows c =
    λ start past f. record { planned = ((f.planned, tt), tt); told = f.told }

pub returns-then-is_full-clause-follows : goal.returns-then-is_full-clause-follows
returns-then-is_full-clause-follows c =
    λ start past f. record { planned = ((f.planned, tt), tt); told = f.told }

pub returns-clause-follows : goal.returns-clause-follows
returns-clause-follows c = λ start past f.
    taken_follows start past c.args.self.now _ c.args.order c.args.moment c.standing.result f
    c.first_phase-self-inside.ensures

pub returns-then-is_full-clause-described : goal.returns-then-is_full-clause-described
returns-then-is_full-clause-described c = λ start past d.
    rw (← c.self.view_is)
    (full_on c.self.inside.pace start past c.self.inside.journal c.self.inside.phase c.args.order c.args.moment
    (rw (← c.self.view_is) at d) c.self.invariant.ready
    (c.in_default.ensures.none refl) (sym c.is_idle.ensures ∙ c.if-not-is_idle.false)
    (c.is_full.ensures.0 c.if-is_full.true))

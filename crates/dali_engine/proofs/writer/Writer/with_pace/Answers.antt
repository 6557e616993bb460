use Rattle.std.proofs.Common.{inr}
use Rattle.dali_engine.proofs.ResumeLemmas.{resumed_ready, resumed_described, resumed_follows}
use Rattle.dali_engine.proofs.ResumeLemmas.{stopped_described, stopped_follows}
use Rattle.dali_engine.proofs.writer.Writer.with_pace.Goals as goal

pub invariant_of-result : goal.invariant_of-result
invariant_of-result c = record {
  ready =
      resumed_ready c.args.pace c.args.journal c.standing.result c.resumed_phase-phase.result c.standing.ensures.value
      c.resumed_phase-phase.ensures;
}

pub returns-clause-described : goal.returns-clause-described
returns-clause-described c = λ start records limit keeps.
    resumed_described c.args.pace start c.args.journal c.standing.result c.resumed_phase-phase.result
    c.resumed_phase-phase.ensures
    c.standing.ensures.journal.kept.whole records limit keeps

pub returns-clause-follows : goal.returns-clause-follows
returns-clause-follows c = λ start.
    resumed_follows c.args.pace start c.args.journal c.standing.result c.resumed_phase-phase.result
    c.resumed_phase-phase.ensures

pub returns-clause-rest : goal.returns-clause-rest
returns-clause-rest c = inr (rw c.standing.ensures.value at c.resumed_phase-phase.ensures)

pub returns-clause-stopped : goal.returns-clause-stopped
returns-clause-stopped c = λ start past before d records limit.
    stopped_described c.args.pace start past before c.args.journal c.standing.result c.resumed_phase-phase.result
    c.resumed_phase-phase.ensures d records limit

pub returns-clause-stopped_follows : goal.returns-clause-stopped_follows
returns-clause-stopped_follows c = λ start past before f.
    stopped_follows c.args.pace start past before c.args.journal c.standing.result c.resumed_phase-phase.result
    c.resumed_phase-phase.ensures f

use Rattle.dali_engine.proofs.SayLemmas.{said_on}
use Rattle.dali_engine.proofs.FollowLemmas.{said_follows}
use Rattle.dali_engine.proofs.writer.Writer.said.Goals as goal

pub returns-clause-described : goal.returns-clause-described
returns-clause-described c = λ start past id reply want d.
    said_on c.self.inside.pace start past c.self.inside.journal c.self.inside.phase id reply
    (rw (← c.self.view_is) at d)
    c.self.invariant.ready (rw (← c.self.view_is) at want)

pub returns-clause-follows : goal.returns-clause-follows
returns-clause-follows c = λ start past id reply want d f.
    said_follows c.self.inside.pace start past c.self.inside.journal c.self.inside.phase id reply
    (rw (← c.self.view_is) at d)
    (rw (← c.self.view_is) at f) c.self.invariant.ready (rw (← c.self.view_is) at want)

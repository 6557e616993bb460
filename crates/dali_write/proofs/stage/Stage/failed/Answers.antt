use Rattle.dali_write.proofs.FramesLemmas.{failed_more}
use Rattle.dali_write.proofs.stage.Stage.failed.Goals as goal

pub returns-else-others-lt-MOST_ONCE-clause-plan : goal.returns-else-others-lt-MOST_ONCE-clause-plan
returns-else-others-lt-MOST_ONCE-clause-plan c =
    rw c.in-ReadBack.is
    (failed_more c.args.task.now c.in-ReadBack.index c.most.result c.others_in_row-others.result c.updates.result.now
    c.in-Some.behind.now (c.in-Some.location, c.in-Some.field-0-0-1) c.pace.result
    c.updates.ensures c.pace.ensures c.most.ensures.value c.in-Some.ensures.some c.if-others-lt-MOST_ONCE.false
    c.others_in_row-others.ensures.within (c.others_in_row-others.ensures.rows c.in-Some.field-0-0-1))

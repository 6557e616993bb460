use Rattle.dali_write.proofs.FramesLemmas.{told_more, told_last, told_last_room}
use Rattle.dali_write.proofs.stage.Stage.told.Goals as goal

pub returns-in-Some-row_held-2-clause-plan : goal.returns-in-Some-row_held-2-clause-plan
returns-in-Some-row_held-2-clause-plan c =
    rw c.in-ReadPiece.is
    (told_more c.args.task.now c.in-ReadPiece.index c.in-ReadPiece.left c.in-Some-row_held-2.others
    c.updates-in-ReadPiece.result.now c.in-Some-piece_from.behind.now c.in-Some-piece_from.own c.args.read.now
    c.updates-in-ReadPiece.ensures c.in-Some-piece_from.ensures.some c.if-others-behind.true
    c.in-Some-row_held-2.ensures.again)

pub returns-in-Some-2-clause-plan : goal.returns-in-Some-2-clause-plan
returns-in-Some-2-clause-plan c =
    rw c.in-ReadPiece.is
    (told_last c.args.task.now c.in-ReadPiece.index c.in-ReadPiece.left c.in-Some-row_held-2.others
    c.updates-in-ReadPiece.result.now c.in-Some-piece_from.behind.now c.in-Some-piece_from.own c.args.read.now
    c.updates-in-ReadPiece.ensures c.in-Some-piece_from.ensures.some c.if-others-behind.false
    c.in-Some-row_held-2.ensures.within c.in-Some-row_held-2.ensures.again)

pub returns-in-Some-2-clause-limit : goal.returns-in-Some-2-clause-limit
returns-in-Some-2-clause-limit c unit =
    rw c.in-ReadPiece.is
    (told_last_room c.args.task.now c.in-ReadPiece.index c.in-ReadPiece.left c.in-Some-row_held-2.others unit
    c.updates-in-ReadPiece.result.now c.in-Some-piece_from.behind.now c.in-Some-piece_from.own
    c.updates-in-ReadPiece.ensures c.in-Some-piece_from.ensures.some c.if-others-behind.false
    c.in-Some-row_held-2.ensures.within)

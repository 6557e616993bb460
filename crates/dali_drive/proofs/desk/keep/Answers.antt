use Rattle.std.proofs.Common.{length}
use Rattle.std.proofs.KnownBytes.{Appends-kept}
use Rattle.dali_store.proofs.Betweens.{kept_all}
use Rattle.dali_drive.proofs.DeskLemmas.{grows_settled, only_journal, left_settled}
use Rattle.dali_drive.proofs.desk.keep.Goals as goal

pub returns-then-put-clause-whole : goal.returns-then-put-clause-whole
returns-then-put-clause-whole g c = λ yes.
    Appends-kept _ _ _ _ (c.put.ensures.whole c.if-put.true) c.settle.ensures.kept

pub returns-then-put-clause-cut : goal.returns-then-put-clause-cut
returns-then-put-clause-cut g c = λ no.
    let all = Appends-kept _ _ _ _ (c.put.ensures.whole c.if-put.true) c.settle.ensures.kept in
    let whole = kept_all _ _ _ all in (length c.args.bytes.now, whole.0, whole.1)

pub returns-then-put-clause-only : goal.returns-then-put-clause-only
returns-then-put-clause-only g c =
    only_journal (g.D.Desk.look c.args.desk.now).streams (g.D.Desk.look c.put.new.self).streams
    (g.D.Desk.look c.settle.new.self).streams c.put.ensures.only c.settle.ensures.only

pub returns-then-put-clause-left : goal.returns-then-put-clause-left
returns-then-put-clause-left g c =
    left_settled (g.D.Desk.look c.args.desk.now) (g.D.Desk.look c.put.new.self) (g.D.Desk.look c.settle.new.self)
    c.put.ensures.grown.more c.put.ensures.grown.grown c.put.ensures.left c.settle.ensures.kept c.settle.ensures.left

pub returns-then-put-clause-grown : goal.returns-then-put-clause-grown
returns-then-put-clause-grown g c =
    grows_settled g.D.Desk.look g.D.Desk.moment g.D.Desk.left_since g.D.Desk.same g.met.D.Desk.same_on _ _ _
    c.put.ensures.grown c.put.ensures.left c.settle.ensures.kept c.settle.ensures.left c.settle.ensures.time
    c.settle.ensures.stays

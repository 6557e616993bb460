use Rattle.std.proofs.Common.{refl}
use Rattle.dali_drive.specs.Found.{was_found}
use Rattle.dali_report.proofs.FoundLemmas.{found_more, found_unwanted}
use Rattle.dali_report.proofs.report.ReportFindingObserver.find.Goals as goal

pub returns-then-is_wanted : goal.returns-then-is_wanted
returns-then-is_wanted g c = λ first past told.
    let kept = c.put.ensures.same in
    found_more g.W.Write.contents first c.args.self.now c.put.new.self past
    (was_found c.args.order.now c.args.found c.args.read.now) c.found_line.result told (rw kept refl)
    c.put.ensures.put c.found_line.ensures (c.is_wanted.ensures.wanted c.if-is_wanted.true)
    (c.is_wanted.ensures.output c.if-is_wanted.true)

pub returns-else-is_wanted : goal.returns-else-is_wanted
returns-else-is_wanted g c = λ first past told.
    found_unwanted g.W.Write.contents first c.args.self.now past
    (was_found c.args.order.now c.args.found c.args.read.now) told
    (c.is_wanted.ensures.unwanted c.if-is_wanted.false)

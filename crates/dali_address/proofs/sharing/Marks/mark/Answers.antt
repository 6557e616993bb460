use Rattle.dali_address.proofs.MarkLemmas.{short_marked, missing_marked}
use Rattle.dali_address.proofs.sharing.Marks.mark.Goals as goal

pub returns-in-Some : goal.returns-in-Some
returns-in-Some c counted one told are =
    short_marked c.args.self.now c.mark_short.new.self c.args.byte c.in-Some.short c.in-Some.ensures.0
    c.in-Some.ensures.1 c.mark_short.ensures counted one told are

pub returns-in-None : goal.returns-in-None
returns-in-None c counted one told are =
    missing_marked c.args.self.now c.mark_missing.new.self c.args.byte c.in-None.ensures c.mark_missing.ensures counted
    one told are

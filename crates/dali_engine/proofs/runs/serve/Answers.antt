use Rattle.std.proofs.Common.{◌≡◌, ap, ◌∙◌, reverse, is_some}
use Rattle.dali_engine.specs.Served.{stopped_after}
use Rattle.dali_trace.specs.declared.happening.Happening.TheVariants.{Stopped}
use Rattle.dali_engine.proofs.ServeLemmas.{one_more, two_more, submitted, stepped, stopped, lost_power}
use Rattle.dali_engine.proofs.runs.serve.Goals.{in-Some-2, in_default-2}
use Rattle.dali_engine.proofs.runs.serve.Goals as goal

pub returns-in_ok-reply-in-Submit-clause-ok : goal.returns-in_ok-reply-in-Submit-clause-ok
returns-in_ok-reply-in-Submit-clause-ok g c =
    let order = c.in-Submit.order in
    submitted g.B.Bus.step c.args.event.now _ _ _ c.args.trace.now.items _ _ order c.in-Submit.moment
    c.in_ok-reply-in-Submit.reply c.in-Submit.is (rw c.copy.ensures.value at c.copy.ensures.valid)
    (rw c.in_ok-reserve.ensures.items at (rw c.copy-in-Submit.ensures.value at c.push_reserved.ensures.items))
    (rw c.id.ensures at c.push_reserved-in-Submit.ensures.items)
    (rw c.copy.ensures.value at c.in_ok-reply-in-Submit.ensures.described)
    (rw c.copy.ensures.value at c.in_ok-reply-in-Submit.ensures.follows)

pub returns-in-Some-clause-ok : goal.returns-in-Some-clause-ok
returns-in-Some-clause-ok g c =
    stepped g.B.Bus.step c.args.event.now _ _ _ _ c.args.trace.now.items _ c.in-Some.happening c.in-Step.is
    (rw c.in_ok-reserve.ensures.items at c.push_reserved-in-Some.ensures.items)
    c.in-Some.ensures.work c.in-Some.ensures.proper c.in-Some.ensures.orders c.in-Some.ensures.moves
    (λ start past d. c.advance.ensures.busy start past d ∙ ap is_some c.in-Some.is)
    c.in-Some.ensures.described c.in-Some.ensures.follows

pub returns-after-branch-4-clause-ok : goal.returns-after-branch-4-clause-ok
returns-after-branch-4-clause-ok g c =
    let after = c.push_reserved-in-Stop.new.self.items in
    let kept = c.in_ok-entry-in-Stop.field-0 in
    let longer : reverse after ≡ stopped_after c.pace-pace.result kept (reverse c.args.trace.now.items) =
    elim c.match-branch-4.branch [
      | in-Some-2 w ↦ rw w.in-Some-2.is (two_more c.args.trace.now.items _ after _ (Stopped _)
          (rw c.in_ok-reserve.ensures.items at w.push_reserved-in-Some-2.ensures.items)
          (rw w.trace-is at c.push_reserved-in-Stop.ensures.items))
      | in_default-2 w ↦ rw w.in_default-2.is (one_more c.args.trace.now.items after (Stopped _)
          (rw c.in_ok-reserve.ensures.items at (rw w.trace-is at c.push_reserved-in-Stop.ensures.items)))
    ] in
    stopped g.B.Bus.step c.args.event.now c.in-Stop.bytes _ _ _ c.args.trace.now.items after kept c.in-Stop.is
    (rw c.pace-pace.ensures at longer)
    c.in_ok-entry-in-Stop.ensures

pub returns-in-Power-clause-ok : goal.returns-in-Power-clause-ok
returns-in-Power-clause-ok g c =
    lost_power g.B.Bus.step c.args.event.now _ _ _ c.args.trace.now.items _ c.in-Power.address c.in-Power.is
    (rw c.in_ok-reserve.ensures.items at c.push_reserved-in-Power.ensures.items)
    c.power.ensures

use Rattle.std.proofs.Common.{sym, subst}
use Rattle.dali_address.specs.Standing.{MayTally, Follows}
use Rattle.dali_address.specs.declared.call.Call.{Call}
use Rattle.dali_address.proofs.StandLemmas.{leave_follows, asks_follow, other_follows}
use Rattle.dali_address.proofs.tallied.Tallied.hear.Goals as goal

pub returns-in-Withdraw : goal.returns-in-Withdraw
returns-in-Withdraw c told tally census stands =
    subst (λ (it : Call). Follows told it c.args.answer c.leave.new.self) (sym c.in-Withdraw.is)
    (leave_follows told tally c.args.self.now c.leave.new.self c.args.answer census stands
    (subst (λ (it : Call). MayTally c.args.self.now it) c.in-Withdraw.is c.requires) c.leave.ensures)

pub returns-then-not-is_told : goal.returns-then-not-is_told
returns-then-not-is_told c told tally census stands =
    subst (λ (it : Call). Follows told it c.args.answer
    (record c.args.self.now { asked = c.args.answer; unanswered = c.saturating_add-self.result }))
    (sym c.in-AskShort.is)
    (asks_follow told tally c.args.self.now c.args.answer c.saturating_add-self.result census stands)

pub returns-else-not-is_told : goal.returns-else-not-is_told
returns-else-not-is_told c told tally census stands =
    subst (λ (it : Call). Follows told it c.args.answer
    (record c.args.self.now { asked = c.args.answer; unanswered = c.args.self.now.unanswered }))
    (sym c.in-AskShort.is)
    (asks_follow told tally c.args.self.now c.args.answer c.args.self.now.unanswered census stands)

pub returns-in_default : goal.returns-in_default
returns-in_default c told tally census stands =
    other_follows told tally c.args.self.now c.put-self.result c.args.call c.args.answer census stands
    c.in_default.not-Withdraw c.in_default.not-AskShort c.requires c.put-self.ensures

use Rattle.std.proofs.Common.{◌≡◌, ◌∙◌, sym, subst, ◌∷◌, rules}
use Rattle.dali_frame.specs.declared.forward.Frame.{Frame}
use Rattle.std.proofs.Common.{None}
use Rattle.dali_write.specs.Told.{Told, request_at_hand}
use Rattle.dali_write.specs.Stages.{plan_at}
use Rattle.dali_write.proofs.RequestLemmas.{none_sent, not_some}
use Rattle.dali_write.proofs.ToldLemmas.{aim_at_request}
use Rattle.dali_write.proofs.session.Session.heard.Goals as goal

pub returns-then-is_met-clause-told : goal.returns-then-is_met-clause-told
returns-then-is_met-clause-told c told frame aim was =
    let s = c.args.self.now in
    let at = sym c.request.ensures ∙ c.in-Some.is in
    let wanted = aim_at_request s c.in-Some.request at in
    let same : c.in-Some.request.frame ≡ frame = cc in
    subst (λ (f : Frame). Told (record { frame = f; answer = c.args.answer } ∷ told) c.go_on.new.self) same
    (c.go_on.ensures.told told c.in-Some.request.wish at (search rules) was)

pub returns-else-is_met-clause-told : goal.returns-else-is_met-clause-told
returns-else-is_met-clause-told c told frame aim was =
    let s = c.args.self.now in
    let at = sym c.request.ensures ∙ c.in-Some.is in
    let wanted = aim_at_request s c.in-Some.request at in
    let same : c.in-Some.request.frame ≡ frame = cc in
    subst (λ (f : Frame). Told (record { frame = f; answer = c.args.answer } ∷ told) c.miss.new.self) same
    (c.miss.ensures.told told c.in-Some.request.frame c.args.answer c.in-Some.request.wish at (search rules) was)

pub returns-then-is_met-clause-ended : goal.returns-then-is_met-clause-ended
returns-then-is_met-clause-ended c verdict aim =
    let s = c.args.self.now in
    let wanted = aim_at_request s c.in-Some.request (sym c.request.ensures ∙ c.in-Some.is) in
    let never : ⊥ = cc in absurd never

pub returns-in_default-clause-told : goal.returns-in_default-clause-told
returns-in_default-clause-told c told frame aim was =
    let s = c.args.self.now in
    let none : request_at_hand s ≡ None = sym c.request.ensures ∙ not_some c.request.result c.in_default.not-Some in
    absurd (none_sent s.unit (plan_at s.task s.stage) s.misses s.number frame none s.going aim)

pub returns-in_default-clause-falls : goal.returns-in_default-clause-falls
returns-in_default-clause-falls c frame aim =
    let s = c.args.self.now in
    let none : request_at_hand s ≡ None = sym c.request.ensures ∙ not_some c.request.result c.in_default.not-Some in
    absurd (none_sent s.unit (plan_at s.task s.stage) s.misses s.number frame none s.going aim)

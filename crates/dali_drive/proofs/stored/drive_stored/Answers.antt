use Rattle.std.proofs.lemmas.Result.{IfErr-weaker, IfOk-weaker}
use Rattle.std.specs.Prelude.{⊤}
use Rattle.dali_drive.specs.declared.observer.Nobody.{Nobody}
use Rattle.dali_drive.specs.Driven.{at_moment}
use Rattle.dali_drive.proofs.ListedDriveLemmas.{behind_driven, listed_end, stored_drive}
use Rattle.dali_drive.proofs.stored.drive_stored.Goals as goal

pub returns-clause-driven : goal.returns-clause-driven
returns-clause-driven g c =
    IfOk-weaker c.follow_stored.result _ _ (λ writer followed.
    stored_drive {B = Nobody} (λ _ _ _ _. ⊤) _ c.args.terms.orders c.args.terms.bytes c.args.terms.pace
    (at_moment c.args.moment c.args.orders.now) _ _ _ _ writer
    (behind_driven (λ _ _ _ _. ⊤) (λ _ _ _ _ _ _ _. ⊤) _ c.args.terms.orders c.args.terms.bytes c.args.terms.pace
    c.args.orders.now
    c.args.moment c.new-listed.result c.new-listed.ensures.state _ _ _ _ _ c.new-listed.ensures.few writer
    followed)) c.follow_stored.ensures.followed

pub returns-clause-broken : goal.returns-clause-broken
returns-clause-broken g c =
    IfErr-weaker c.follow_stored.result _ _ (λ fault ends.
    listed_end {B = Nobody} (λ _ _ _ _. ⊤) (λ _ _ _ _ _ _ _. ⊤) _ c.args.terms.orders c.args.terms.bytes
    c.args.terms.pace c.args.orders.now c.args.moment c.new-listed.result c.new-listed.ensures.state _ _ _ _ _ fault
    ends) c.follow_stored.ensures.broken

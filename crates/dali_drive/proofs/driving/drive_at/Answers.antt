use Rattle.std.proofs.lemmas.Result.{IfOk-weaker, IfErr-weaker}
use Rattle.std.specs.Prelude.{⊤}
use Rattle.dali_engine.specs.WriterState.{start_of}
use Rattle.dali_drive.specs.declared.observer.Nobody.{Nobody}
use Rattle.dali_drive.proofs.DeskLemmas.{ends_settled}
use Rattle.dali_drive.proofs.ListedDriveLemmas.{listed_driven, listed_broken}
use Rattle.dali_drive.proofs.driving.drive_at.Goals as goal

pub returns-clause-driven : goal.returns-clause-driven
returns-clause-driven g c =
    IfOk-weaker c.follow.result _ _
    (λ writer is. (listed_driven {B = Nobody} (λ _ _ _ _. ⊤) (start_of c.args.writer) c.args.orders.now
    c.args.moment c.new-listed.result c.new-listed.ensures.state _ _ _ _ _ c.new-listed.ensures.few writer is).drive)
    c.follow.ensures.followed

pub returns-clause-broken : goal.returns-clause-broken
returns-clause-broken g c =
    IfErr-weaker c.follow.result _ _
    (λ fault is. (listed_broken {B = Nobody} (λ _ _ _ _. ⊤) (start_of c.args.writer) c.args.orders.now
    c.args.moment c.new-listed.result c.new-listed.ensures.state _ _ _ _ _ (λ _ _ _ _ _ _ _. ⊤) _ fault is).breaks)
    c.follow.ensures.broken

pub returns-clause-settled : goal.returns-clause-settled
returns-clause-settled g c = ends_settled c.follow.result _ c.follow.ensures.ends

-- The frames that a session of each kind wants, and how it ends.
use Rattle.std.proofs.Common.{◌≡◌, subst, ℕ, List, [], ◌∷◌}
use Rattle.dali_frame.specs.declared.forward.Frame.{Frame}
use Rattle.dali_bank.specs.Order.{Contents}
use Rattle.dali_write.specs.Exchanges.{Exchange}
use Rattle.dali_write.specs.declared.ask.Ask.{Ask}
use Rattle.dali_write.specs.declared.ask.Ask.TheVariants.{Send, Ended}
use Rattle.dali_write.specs.declared.ask.Verdict.{Verdict}
use Rattle.dali_write.specs.declared.ask.Verdict.TheVariants.{Closed, NotClosed}
use Rattle.dali_write.specs.declared.session.Session.{Session}
use Rattle.dali_write.specs.Plans.{read_length, unlock, close}
use Rattle.dali_write.specs.Tries.{Wants}
use Rattle.dali_write.specs.Stages.{plan_of}
use Rattle.dali_write.specs.declared.stage.Task.{Task}
use Rattle.dali_write.specs.declared.stage.Task.TheVariants.{Fresh, Opened}
use Rattle.dali_write.specs.Found.{IsCause}
use Rattle.dali_write.specs.Told.{Told, IsFresh, IsOpened, IsClosing, aim_of, cause_of}
use Rattle.dali_write.specs.Touches.{writes_of}
use Rattle.dali_write.specs.Guards.{IsGuarded}
use Rattle.dali_write.specs.Findings.{Rests}
use Rattle.dali_write.specs.Reads.{StillRead, HasRead}
use Rattle.dali_write.specs.Verdicts.{EndsFresh, EndsOpened, EndsClosing}
use Rattle.dali_write.proofs.ToldLemmas.{told_wants, told_cause}
use Rattle.dali_write.proofs.GuardLemmas.{opened_guarded, closing_guarded}
use Rattle.dali_write.proofs.FreshLemmas.{calm_guarded, length_calm}
use Rattle.dali_write.proofs.RestLemmas.{opened_rests, closing_rests}
use Rattle.dali_write.proofs.FreshRestLemmas.{fresh_rests}
use Rattle.dali_write.proofs.KindLemmas.{fresh_ends, opened_ends, closing_ends}
use Rattle.dali_write.proofs.UnreachedLemmas.{closing_unread}
use Rattle.dali_write.specs.declared.pace.Pace.{Pace}

pub fresh_wants : (order : Contents) (pace : Pace) (told : List Exchange) (s : Session) (ask : Ask)
    → IsFresh order pace s → Told told s
    → aim_of s ≡ ask → Wants order.unit (read_length pace order.updates) told ask
fresh_wants order pace told s ask is is_told aim =
    rw (← is.0, ← aim) (subst (λ task. Wants s.unit (plan_of task) told (aim_of s)) is.1 (told_wants told s is_told))

pub opened_wants : (order : Contents) (pace : Pace) (told : List Exchange) (s : Session) (ask : Ask)
    → IsOpened order pace s → Told told s
    → aim_of s ≡ ask → Wants order.unit (unlock pace order.updates) told ask
opened_wants order pace told s ask is is_told aim =
    rw (← is.0, ← aim) (subst (λ task. Wants s.unit (plan_of task) told (aim_of s)) is.1 (told_wants told s is_told))

pub closing_wants : (unit : ℕ) (told : List Exchange) (s : Session) (ask : Ask) → IsClosing unit s → Told told s
    → aim_of s ≡ ask → Wants unit (close Closed NotClosed) told ask
closing_wants unit told s ask is is_told aim =
    rw (← is.0, ← aim) (subst (λ task. Wants s.unit (plan_of task) told (aim_of s)) is.1 (told_wants told s is_told))

-- why it comes to no good end
pub fresh_cause : (order : Contents) (pace : Pace) (told : List Exchange) (s : Session) → IsFresh order pace s
    → Told told s → IsCause (Fresh order pace) order.unit told (cause_of s)
fresh_cause order pace told s is is_told =
    subst (λ (unit : ℕ). IsCause (Fresh order pace) unit told s.cause) is.0
    (subst (λ (task : Task). IsCause task s.unit told s.cause) is.1 (told_cause told s is_told))

pub opened_cause : (order : Contents) (pace : Pace) (told : List Exchange) (s : Session) → IsOpened order pace s
    → Told told s → IsCause (Opened order pace) order.unit told (cause_of s)
opened_cause order pace told s is is_told =
    subst (λ (unit : ℕ). IsCause (Opened order pace) unit told s.cause) is.0
    (subst (λ (task : Task). IsCause task s.unit told s.cause) is.1 (told_cause told s is_told))

pub fresh_sends : (order : Contents) (pace : Pace) (told : List Exchange) (s : Session) (frame : Frame)
    → IsFresh order pace s → Told told s → aim_of s ≡ Send frame → IsGuarded [] order.unit told frame
fresh_sends order pace told s frame is is_told aim =
    calm_guarded order.unit (read_length pace order.updates) told frame (length_calm order.unit pace order.updates)
    (fresh_wants order pace told s (Send frame) is is_told aim)

pub opened_sends : (order : Contents) (pace : Pace) (told : List Exchange) (s : Session) (frame : Frame)
    → IsOpened order pace s → Told told s → aim_of s ≡ Send frame
    → IsGuarded (writes_of order.updates) order.unit told frame
opened_sends order pace told s frame is is_told aim =
    opened_guarded told order.unit pace order.updates frame (opened_wants order pace told s (Send frame) is is_told aim)

pub closing_sends : (unit : ℕ) (told : List Exchange) (s : Session) (frame : Frame) → IsClosing unit s → Told told s
    → aim_of s ≡ Send frame → IsGuarded ((2, 0xFF) ∷ []) unit told frame
closing_sends unit told s frame is is_told aim =
    closing_guarded told unit frame (closing_wants unit told s (Send frame) is is_told aim)

pub fresh_over : (order : Contents) (pace : Pace) (told : List Exchange) (s : Session) (verdict : Verdict)
    → IsFresh order pace s → Told told s → aim_of s ≡ Ended verdict
    → EndsFresh verdict × Rests (StillRead told order.unit) order.updates verdict
fresh_over order pace told s verdict is is_told aim =
    let wants = fresh_wants order pace told s (Ended verdict) is is_told aim in (
      fresh_ends told order.unit pace order.updates verdict wants,
      fresh_rests told order.unit pace order.updates verdict wants,
    )

pub opened_over : (order : Contents) (pace : Pace) (told : List Exchange) (s : Session) (verdict : Verdict)
    → IsOpened order pace s → Told told s → aim_of s ≡ Ended verdict
    → EndsOpened verdict × Rests (StillRead told order.unit) order.updates verdict
opened_over order pace told s verdict is is_told aim =
    let wants = opened_wants order pace told s (Ended verdict) is is_told aim in (
      opened_ends told order.unit pace order.updates verdict wants,
      opened_rests told order.unit pace order.updates verdict wants,
    )

pub closing_over : (unit : ℕ) (told : List Exchange) (s : Session) (verdict : Verdict) → IsClosing unit s → Told told s
    → aim_of s ≡ Ended verdict
    → EndsClosing verdict × Rests (StillRead told unit) [] verdict
closing_over unit told s verdict is is_told aim =
    let wants = closing_wants unit told s (Ended verdict) is is_told aim in
    (closing_ends told unit verdict wants, closing_rests told unit verdict wants)

pub closing_unreached : (unit : ℕ) (told : List Exchange) (s : Session) → IsClosing unit s → Told told s
    → aim_of s ≡ Ended NotClosed → HasRead unit told → ⊥
closing_unreached unit told s is is_told aim =
    closing_unread told unit (closing_wants unit told s (Ended NotClosed) is is_told aim)

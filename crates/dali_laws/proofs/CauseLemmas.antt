-- The frames of the order at hand, as its cause describes them.
use Rattle.std.proofs.Common.{◌≡◌, ◌⊎◌, inl, inr, subst, List, Some}
use Rattle.dali_bank.specs.Order.{Contents, AreUpdates}
use Rattle.dali_journal.specs.declared.standing.Standing.{Standing}
use Rattle.dali_journal.specs.declared.standing.Standing.TheVariants.{Began, Opened}
use Rattle.dali_write.specs.declared.ask.Cause.{Cause}
use Rattle.dali_write.specs.declared.stage.Task.TheVariants as tasks
use Rattle.dali_write.specs.Causes.{IsShown}
use Rattle.dali_write.proofs.CauseLemmas.{cause_shown}
use Rattle.dali_write.proofs.RisingLemmas.{rises_above_lock}
use Rattle.dali_trace.specs.declared.happening.Happening.{Happening}
use Rattle.dali_trace.specs.Trace.{Start, standing_at, pace_at}
use Rattle.dali_trace.specs.ByPlan.{told_in}
use Rattle.dali_trace.specs.Causes.{HasCause, IsCauseAt}

pub shown_at : (start : Start) (past : List Happening) (order : Contents) (cause : Cause) → AreUpdates order.updates
    → (standing_at start past ≡ Began order) ⊎ (standing_at start past ≡ Opened order)
    → IsCauseAt start past (Some cause) → IsShown order.unit order.updates (told_in past) cause
shown_at start past order cause valid (inl stands) is =
    let pace = pace_at start past in
    cause_shown (tasks.Fresh order pace) order.unit (told_in past) cause (rises_above_lock order.updates valid)
    (subst (λ (s : Standing). HasCause pace s (told_in past) (Some cause)) stands is)
shown_at start past order cause valid (inr stands) is =
    let pace = pace_at start past in
    cause_shown (tasks.Opened order pace) order.unit (told_in past) cause (rises_above_lock order.updates valid)
    (subst (λ (s : Standing). HasCause pace s (told_in past) (Some cause)) stands is)

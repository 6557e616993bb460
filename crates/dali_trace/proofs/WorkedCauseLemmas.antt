-- Which ends have a cause, on both sides.
use Rattle.std.proofs.Common.{◌≡◌, refl, true, false, List, Some, None}
use Rattle.dali_journal.specs.declared.record.Code.TheVariants.{Done, Short, Format, Silent, Doubt, DoubtOpen}
use Rattle.dali_journal.specs.declared.record.Record.TheVariants.{Opened, Ended}
use Rattle.dali_write.specs.declared.ask.Cause.{Cause}
use Rattle.dali_trace.specs.declared.happening.Happening.{Happening}
use Rattle.dali_trace.specs.declared.happening.Happening.TheVariants.{Kept, Powered}
use Rattle.dali_trace.specs.Trace.{Start}
use Rattle.dali_trace.specs.Causes.{IsCauseBeside, is_ill}

pub ill_ends :
    (is_ill (Ended Silent) ≡ true) × (is_ill (Ended Doubt) ≡ true) × (is_ill (Ended DoubtOpen) ≡ true)
ill_ends = (refl, refl, refl)

pub other_ends_need_no_cause :
    (is_ill (Ended Done) ≡ false) × (is_ill (Ended Short) ≡ false) × (is_ill (Ended Format) ≡ false)
    × (is_ill (Opened 5) ≡ false)
other_ends_need_no_cause = (refl, refl, refl, refl)

pub no_doubt_without_a_cause : (start : Start) (past : List Happening)
    → IsCauseBeside start past (Kept (Ended Doubt)) None → ⊥
no_doubt_without_a_cause start past is = let some = is.1 refl in cc

pub no_cause_beside_a_loss_of_power : (start : Start) (past : List Happening) (cause : Cause)
    → IsCauseBeside start past (Powered 5) (Some cause) → ⊥
no_cause_beside_a_loss_of_power start past cause is = cc

use Rattle.dali_write.proofs.CauseLemmas.{cause_shown, opened_has_cause, fresh_has_cause}
use Rattle.dali_write.proofs.RisingLemmas.{rises_above_lock}
use Rattle.dali_write.proofs.laws.causes_are_told.Goals as goal

pub returns : goal.returns
returns c =
    record { shown = cause_shown; rising = rises_above_lock; opened = opened_has_cause; fresh = fresh_has_cause }

-- The requirements at the end of a drive, and how it is reported that nothing was done, on both sides of each rule.
use Rattle.std.proofs.Common.{◌≡◌, refl, inl, inr, [], ◌∷◌, ℕ, Some, false}
use Rattle.dali_report.specs.declared.outcome.Outcome.TheVariants as outcomes
use Rattle.dali_input.specs.declared.command_fault.Status.TheVariants.{Good, Refused}
use Rattle.dali_job.specs.declared.link_command.Required.TheVariants.{Nothing, Done, DoneNow}
use Rattle.dali_link_commands.specs.Bare.{TellsBare, TellsEnded, ended_status, is_empty, nothing_line}

-- what was done before the drive is done, and not now
pub done_before_is_not_now :
    (ended_status Done outcomes.Done ≡ Good) × (ended_status DoneNow outcomes.Done ≡ Refused)
    × (ended_status DoneNow outcomes.DoneNow ≡ Good) × (ended_status Done outcomes.DoneNow ≡ Good)
done_before_is_not_now = (refl, refl, refl, refl)

pub not_done_is_refused_where_it_is_asked :
    (ended_status Done outcomes.NotDone ≡ Refused) × (ended_status DoneNow outcomes.NotDone ≡ Refused)
    × (ended_status Nothing outcomes.NotDone ≡ Good)
not_done_is_refused_where_it_is_asked = (refl, refl, refl)

-- that nothing was done is reported if something is required
pub nothing_is_told : TellsEnded DoneNow outcomes.Nothing Refused (Some []) (Some nothing_line)
nothing_is_told = inl (refl, refl)

pub nothing_is_no_good_end : TellsEnded Done outcomes.Nothing Good (Some []) (Some nothing_line) → ⊥
nothing_is_no_good_end (inl told) = cc
nothing_is_no_good_end (inr told) = cc

pub nothing_is_told_by_no_silence : TellsEnded Done outcomes.Nothing Refused (Some []) (Some []) → ⊥
nothing_is_told_by_no_silence (inl told) = cc
nothing_is_told_by_no_silence (inr told) = cc

pub nothing_is_good_where_nothing_is_asked : TellsEnded Nothing outcomes.Nothing Good (Some []) (Some [])
nothing_is_good_where_nothing_is_asked = (refl, refl)

-- if something was done, it isn't reported that nothing was
pub one_that_is_not_done_is_no_nothing : TellsEnded Done outcomes.NotDone Refused (Some []) (Some nothing_line) → ⊥
one_that_is_not_done_is_no_nothing told = cc

-- an empty list of orders compares well with no unit
pub empty_list_is_refused : TellsBare (is_empty {A = ℕ} []) Good Refused (Some []) (Some nothing_line)
empty_list_is_refused = inl (refl, refl)

pub one_order_is_no_empty_list : is_empty {A = ℕ} (1 ∷ []) ≡ false
one_order_is_no_empty_list = refl

-- The requirements at the end of a drive, and how it is reported that nothing was done.
use Rattle.std.specs.Prelude.{◌≡◌, Bool, true, false, ℕ, List, [], ◌∷◌, Option, codes, if◌then◌else◌}
use Rattle.dali_report.specs.declared.outcome.Outcome.{Outcome}
use Rattle.dali_report.specs.declared.outcome.Outcome.TheVariants as outcomes
use Rattle.dali_input.specs.declared.command_fault.Status.{Status}
use Rattle.dali_input.specs.declared.command_fault.Status.TheVariants.{Good, Refused}
use Rattle.dali_job.specs.declared.link_command.Required.{Required}
use Rattle.dali_job.specs.declared.link_command.Required.TheVariants.{Nothing, Done, DoneNow}
use Rattle.dali_link_commands.specs.Told.{TellsLine, error_line}

-- whether all last replies are as required
abbrev pub is_met : Required → Outcome → Bool
is_met Nothing outcome = true
is_met Done outcomes.Nothing = false
is_met Done outcomes.DoneNow = true
is_met Done outcomes.Done = true
is_met Done outcomes.NotDone = false
is_met DoneNow outcomes.Nothing = false
is_met DoneNow outcomes.DoneNow = true
is_met DoneNow outcomes.Done = false
is_met DoneNow outcomes.NotDone = false

-- how a completed drive ends
abbrev pub ended_status : Required → Outcome → Status
ended_status required outcome = if is_met required outcome then Good else Refused

-- something is required, and no order had a last reply
abbrev pub is_bare : Required → Outcome → Bool
is_bare Nothing outcome = false
is_bare required outcomes.Nothing = true
is_bare required other = false

abbrev pub nothing_line : List ℕ
nothing_line = error_line (codes "nothing was done: ORDERS has no orders")

-- that nothing was done is reported, and refused; else it ends as it did, and nothing is reported
abbrev pub TellsBare : Bool → Status → Status → Option (List ℕ) → Option (List ℕ) → Type 0
TellsBare true ended status before after = TellsLine nothing_line Refused status before after
TellsBare false ended status before after = (status ≡ ended) × (after ≡ before)

-- how a drive ends, and the report of that
abbrev pub TellsEnded : Required → Outcome → Status → Option (List ℕ) → Option (List ℕ) → Type 0
TellsEnded required outcome status before after =
    TellsBare (is_bare required outcome) (ended_status required outcome) status before after

-- there are no orders
abbrev pub is_empty : {A : Type 0} → List A → Bool
is_empty [] = true
is_empty (order ∷ orders) = false

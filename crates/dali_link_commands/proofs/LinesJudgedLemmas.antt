-- The order that is submitted on a line, and what is none.
use Rattle.std.proofs.Common.{◌≡◌, refl, sym, subst, ℕ, Option, None, Err}
use Rattle.std.specs.Prelude.{IsSome, MatchOption, codes}
use Rattle.serde_json.specs.Data.{Data}
use Rattle.serde_json.specs.Find.{get}
use Rattle.dali_input.specs.declared.fault.InputFault.{InputFault}
use Rattle.dali_input.specs.declared.fault.InputFault.TheVariants.{Document}
use Rattle.dali_input.specs.Scenario.{IsEvent, submit}
use Rattle.dali_input.specs.Values.{IsNoReading}
use Rattle.dali_input.specs.declared.item.ItemFault.TheVariants.{Input}
use Rattle.dali_link_commands.specs.LinesJudged.{Outcome, IsSubmitted, IsNoSubmission, no_submission_on}

-- a value without the key of a submission is submitted itself
pub submitted_itself : (moment : ℕ) (json : Data) → get (codes "submit") json ≡ None
    → IsSubmitted moment json json moment
submitted_itself moment json none = rw none (refl, refl)

-- a submission says what and when
pub submitted_by : (moment at : ℕ) (json item : Data) → IsEvent json (submit item at) → IsSubmitted moment json item at
submitted_by moment at json item event =
    subst (λ (o : Option Data). MatchOption o ((item ≡ json) × (at ≡ moment)) (λ order. IsEvent json (submit item at)))
    (sym event.1) event

-- and an object with its key that is no event of a scenario is none
pub no_submission : (json : Data) (fault : InputFault) (order : Option ℕ) → IsSome (get (codes "submit") json)
    → fault ≡ Document → IsNoReading (IsEvent json) fault → order ≡ (no_submission_on json).order
    → IsNoSubmission json
    × (◌≡◌ {A = Outcome} (Err (record { order = order; fault = Input fault })) (Err (no_submission_on json)))
no_submission json fault order some document none same =
    let never = rw document at none in
    ((some, λ item at. never (submit item at)), rw (document, same) refl)

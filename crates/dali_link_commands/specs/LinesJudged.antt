-- The result of a line that isn't blank.
use Rattle.std.specs.Prelude.{◌≡◌, ◌⊎◌, ℕ, List, Option, None, Result, Ok, Err, IsSome, MatchOption}
use Rattle.std.specs.Prelude.{codes, option_and_then}
use Rattle.serde_json.specs.Data.{Data}
use Rattle.serde_json.specs.Find.{get}
use Rattle.dali_bank.specs.Order.{Contents}
use Rattle.dali_input.specs.declared.fault.InputFault.{InputFault}
use Rattle.dali_input.specs.declared.fault.InputFault.TheVariants.{Document}
use Rattle.dali_input.specs.Input.{IsJson, IsNoJson}
use Rattle.dali_input.specs.Items.{IsOrderOf, IsFaultOf, whole_at}
use Rattle.dali_input.specs.Scenario.{IsEvent, submit}
use Rattle.dali_input.specs.declared.item.ItemFault.TheVariants.{Input}
use Rattle.dali_link_commands.specs.declared.stream.fault.RefusedLine.{RefusedLine}
use Rattle.dali_link_commands.specs.StreamLines.{line_limit}

-- an order and its moment, or why there is none
abbrev pub Outcome : Type 0
Outcome = Result (Contents × ℕ) RefusedLine

-- the order that is submitted, and when: an object with the key of a submission says both, as in a scenario; any other
-- value is submitted itself, at the moment of the stream
abbrev pub IsSubmitted : ℕ → Data → Data → ℕ → Type 0
IsSubmitted moment json item at = MatchOption (get (codes "submit") json) ((item ≡ json) × (at ≡ moment))
    (λ order. IsEvent json (submit item at))

-- it has that key, and is no submission: it has another key, or its moment is none
abbrev pub IsNoSubmission : Data → Type 0
IsNoSubmission json =
    IsSome (get (codes "submit") json) × ((item : Data) → (at : ℕ) → ¬ IsEvent json (submit item at))

-- the number that an item has for its order, whatever else is wrong with it
abbrev pub order_number : Data → Option ℕ
order_number item = whole_at (codes "order") item

-- what becomes of what is submitted at a moment
abbrev pub JudgesAt : ℕ → Data → Outcome → Type 0
JudgesAt moment item (Ok judged) = IsOrderOf item judged.0 × (judged.1 ≡ moment)
JudgesAt moment item (Err refused) = IsFaultOf item refused.fault × (refused.order ≡ order_number item)

-- a line without a submission that can be read, though it has the key of one
abbrev pub no_submission_on : Data → RefusedLine
no_submission_on json =
    record { order = option_and_then order_number (get (codes "submit") json); fault = Input Document }

-- a line without JSON
abbrev pub no_json_on : InputFault → RefusedLine
no_json_on fault = record { order = None; fault = Input fault }

-- the result of a value, if this is the moment of the stream
abbrev pub JudgesValue : ℕ → Data → Outcome → Type 0
JudgesValue moment json outcome = (IsNoSubmission json × (outcome ≡ Err (no_submission_on json)))
    ⊎ ((item : Data) × (at : ℕ) × IsSubmitted moment json item at × JudgesAt at item outcome)

-- the result of a line: it has no JSON (too many bytes, other bytes, or no memory, which may come at any line that has
-- a byte and not too many), or the result of its value
abbrev pub JudgesLine : ℕ → List ℕ → Outcome → Type 0
JudgesLine moment line outcome =
    ((fault : InputFault) × IsNoJson line_limit line fault × (outcome ≡ Err (no_json_on fault)))
    ⊎ ((json : Data) × IsJson line_limit line json × JudgesValue moment json outcome)

-- The findings of `check` in its input, and what it writes, with a journal that is asked, if one is.
use Rattle.std.specs.Prelude.{◌≡◌, ◌==◌, ◌⊎◌, ◌+◌, ℕ, List, [], ◌∷◌, ◌++◌, Option, Ok, Err, count_by, is_ok, not}
use Rattle.std.specs.Prelude.{if◌then◌else◌}
use Rattle.serde_json.specs.Data.{Items}
use Rattle.dali_journal.specs.JournalState.{JournalState}
use Rattle.dali_text.specs.OrderLines.{order_lines, tally_line}
use Rattle.dali_input.specs.declared.fault.InputFault.{InputFault}
use Rattle.dali_input.specs.Input.{InputState, ReadsInput}
use Rattle.dali_input.specs.Orders.{Outcome, JudgesEach, AreItems, IsInputFault}
use Rattle.dali_input.specs.declared.command_fault.Fault.TheVariants.{Input}
use Rattle.dali_input.specs.declared.command_fault.Status.{Status}
use Rattle.dali_input.specs.declared.command_fault.Status.TheVariants.{Good, Refused}
use Rattle.dali_input.specs.CommandFaults.{IsFailure, IsRefusal, item_line}
use Rattle.dali_file_commands.specs.declared.known.Known.{Known}
use Rattle.dali_file_commands.specs.Known.{IsFreeText, IsKnownTo, known_lines}

-- the text of each of these outcomes, counted from a number on, one after the other
abbrev pub AreEach : (ℕ → Outcome → List ℕ → Type 0) → ℕ → List Outcome → List ℕ → Type 0
AreEach IsOne number [] text = text ≡ []
AreEach IsOne number (outcome ∷ outcomes) text = (here : List ℕ) × (later : List ℕ)
    × IsOne number outcome here × AreEach IsOne (number + 1) outcomes later × (text ≡ here ++ later)

-- the lines of an accepted item with its updates, and what the journal that is asked says of it, or of a refused one
abbrev pub AreItemLines : Option JournalState → ℕ → Outcome → List ℕ → Type 0
AreItemLines journal number (Ok order) text =
    (known : Option Known) × IsKnownTo journal order known × (text ≡ order_lines number order ++ known_lines known)
AreItemLines journal number (Err fault) text = text ≡ item_line number fault

abbrev pub accepted_count : List Outcome → ℕ
accepted_count outcomes = count_by is_ok outcomes

abbrev pub refused_count : List Outcome → ℕ
refused_count outcomes = count_by (λ outcome. not (is_ok outcome)) outcomes

-- all that is written of the items, beside the journal that is asked, if one is
pub record IsReportText (journal : Option JournalState) (outcomes : List Outcome) (text : List ℕ) : Type 0 where
  pub lines : List ℕ
  pub last : List ℕ
  pub of_items : AreEach (AreItemLines journal) 1 outcomes lines
  pub of_journal : IsFreeText journal last
  pub text_is : text ≡ (lines ++ tally_line (accepted_count outcomes) (refused_count outcomes)) ++ last

-- refused where an item is
abbrev pub report_status : List Outcome → Status
report_status outcomes = if refused_count outcomes == 0 then Good else Refused

-- the status and the text of an input's items
pub record IsReport (journal : Option JournalState) (limit : ℕ) (input : List ℕ) (status : Status) (text : List ℕ)
    : Type 0 where
  pub items : Items
  pub outcomes : List Outcome
  pub are_items : AreItems limit input items
  pub judged : JudgesEach items outcomes
  pub status_is : status ≡ report_status outcomes
  pub text_is : IsReportText journal outcomes text

-- the status and the text of an input that has no items
pub record IsNoReport (limit : ℕ) (input : List ℕ) (status : Status) (text : List ℕ) : Type 0 where
  pub fault : InputFault
  pub stands : IsInputFault limit input fault
  pub refusal : IsRefusal (Input fault) status text

-- what is answered and written of an input that was read
abbrev pub IsAnswered : Option JournalState → ℕ → List ℕ → Status → List ℕ → Type 0
IsAnswered journal limit input status text =
    IsReport journal limit input status text ⊎ IsNoReport limit input status text

-- what `check` answers and writes, by what the reader had before and has after it
abbrev pub IsChecked : Option JournalState → ℕ → InputState → InputState → Status → List ℕ → Type 0
IsChecked journal limit before after status text =
    ((input : List ℕ) × ReadsInput limit before after input × IsAnswered journal limit input status text)
    ⊎ IsFailure before after status text

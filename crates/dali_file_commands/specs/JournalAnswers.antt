-- The answers of `journal`, and what it writes.
use Rattle.std.specs.Prelude.{◌≡◌, ◌⊎◌, Bool, ℕ, List, length}
use Rattle.dali_journal.specs.declared.version.Version.{Version}
use Rattle.dali_journal.specs.JournalState.{JournalState}
use Rattle.dali_text.specs.JournalLines.{journal_text}
use Rattle.dali_input.specs.Input.{InputState, ReadsInput}
use Rattle.dali_input.specs.declared.command_fault.Fault.{Fault}
use Rattle.dali_input.specs.declared.command_fault.Status.{Status}
use Rattle.dali_input.specs.declared.command_fault.Status.TheVariants.{Good}
use Rattle.dali_input.specs.CommandFaults.{IsFailure, IsRefusal}
use Rattle.dali_input.specs.JournalInput.{IsJournalIn, IsUnloaded, journal_limit}

-- the status and the text of a journal, with the updates of each begun order or without
pub record IsJournalReport (with_updates : Bool) (input : List ℕ) (status : Status) (text : List ℕ) : Type 0 where
  pub journal : JournalState
  pub counted : ℕ
  pub version : Version
  pub loaded : IsJournalIn input journal counted version
  pub status_is : status ≡ Good
  pub text_is : text ≡ journal_text with_updates version journal.records counted (length input)

-- the status and the text of an input that is none
pub record IsNoJournal (input : List ℕ) (status : Status) (text : List ℕ) : Type 0 where
  pub fault : Fault
  pub stands : IsUnloaded input fault
  pub refusal : IsRefusal fault status text

-- what is answered and written of an input that was read
abbrev pub TellsInput : Bool → List ℕ → Status → List ℕ → Type 0
TellsInput with_updates input status text =
    IsJournalReport with_updates input status text ⊎ IsNoJournal input status text

-- what `journal` answers and writes, by what the reader had before and has after it
abbrev pub IsJournalAnswer : Bool → InputState → InputState → Status → List ℕ → Type 0
IsJournalAnswer with_updates before after status text =
    ((input : List ℕ) × ReadsInput journal_limit before after input × TellsInput with_updates input status text)
    ⊎ IsFailure before after status text

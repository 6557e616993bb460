-- The answers of `show`, and what it writes.
use Rattle.std.specs.Prelude.{◌≡◌, ◌⊎◌, List, ℕ}
use Rattle.dali_text.specs.BankLines.{AreLines, rows}
use Rattle.dali_input.specs.declared.fault.InputFault.{InputFault}
use Rattle.dali_input.specs.BankText.{IsBankIn, IsTextFault, text_limit}
use Rattle.dali_input.specs.Input.{InputState, ReadsInput}
use Rattle.dali_input.specs.declared.command_fault.Fault.TheVariants.{Input}
use Rattle.dali_input.specs.declared.command_fault.Status.{Status}
use Rattle.dali_input.specs.declared.command_fault.Status.TheVariants.{Good}
use Rattle.dali_input.specs.CommandFaults.{IsFailure, IsRefusal}

-- the status and the text of the bank in an input
pub record IsBankAnswer (input : List ℕ) (status : Status) (text : List ℕ) : Type 0 where
  pub bank : List ℕ
  pub is_in : IsBankIn input bank
  pub status_is : status ≡ Good
  pub lines : AreLines bank rows text

-- what is answered and written of an input that was read
abbrev pub IsShowAnswer : List ℕ → Status → List ℕ → Type 0
IsShowAnswer input status text =
    IsBankAnswer input status text
    ⊎ ((fault : InputFault) × IsTextFault input fault × IsRefusal (Input fault) status text)

-- what `show` answers and writes, by what the reader had before and has after it
abbrev pub ShowsInput : InputState → InputState → Status → List ℕ → Type 0
ShowsInput before after status text =
    ((input : List ℕ) × ReadsInput text_limit before after input × IsShowAnswer input status text)
    ⊎ IsFailure before after status text

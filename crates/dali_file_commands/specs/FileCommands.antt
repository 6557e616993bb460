-- The effect of each command over a file, as its own definition says.
use Rattle.std.specs.Prelude.{ℕ, List}
use Rattle.dali_input.specs.Input.{InputState}
use Rattle.dali_input.specs.BankText.{text_limit}
use Rattle.dali_input.specs.Orders.{orders_limit}
use Rattle.dali_input.specs.JournalInput.{journal_limit}
use Rattle.dali_input.specs.declared.command_fault.Status.{Status}
use Rattle.dali_file_commands.specs.declared.file_command.FileCommand.{FileCommand}
use Rattle.dali_file_commands.specs.declared.file_command.FileCommand.TheVariants.{Check, Run, Show, Journal}
use Rattle.dali_file_commands.specs.Known.{asked}
use Rattle.dali_file_commands.specs.Report.{IsChecked}
use Rattle.dali_file_commands.specs.RunAnswers.{IsRunAnswer, scenario_limit}
use Rattle.dali_file_commands.specs.BankAnswers.{ShowsInput}
use Rattle.dali_file_commands.specs.JournalAnswers.{IsJournalAnswer}

-- from this input, of which the rest was left, it gave this status and text
abbrev pub IsCarriedOut : FileCommand → InputState → InputState → Status → List ℕ → Type 0
IsCarriedOut (Check journal) input rest status text = IsChecked (asked journal) orders_limit input rest status text
IsCarriedOut (Run single_frames) input rest status text = IsRunAnswer single_frames input rest status text
IsCarriedOut Show input rest status text = ShowsInput input rest status text
IsCarriedOut (Journal with_updates) input rest status text = IsJournalAnswer with_updates input rest status text

-- the most bytes of its input
abbrev pub limit_of : FileCommand → ℕ
limit_of (Check journal) = orders_limit
limit_of (Run single_frames) = scenario_limit
limit_of Show = text_limit
limit_of (Journal with_updates) = journal_limit

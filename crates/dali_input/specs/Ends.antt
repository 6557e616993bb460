-- How a call ends that writes the text of a command.
use Rattle.std.specs.Prelude.{◌≡◌, ◌≢◌, Result, Ok, Err, false, true}
use Rattle.dali_text.specs.declared.output.Output.{Output}
use Rattle.dali_text.specs.Output.{has_failed, is_flushed}
use Rattle.dali_input.specs.declared.command_fault.Status.{Status}
use Rattle.dali_input.specs.declared.command_fault.Status.TheVariants.{Unwritten}

-- with a status if the output took all of it and is flushed, and else with an output that has failed
abbrev pub TellsEnd : {W E : Type 0} → Result Status E → Output W → Type 0
TellsEnd (Ok status) output = (status ≢ Unwritten) × (has_failed output ≡ false) × (is_flushed output ≡ true)
TellsEnd (Err error) output = has_failed output ≡ true

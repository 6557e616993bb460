-- The answers of `drive --follow`, and what it writes, for orders that come line by line: of its journal, and of what
-- was followed over its streams.
use Rattle.std.specs.Prelude.{◌≡◌, ℕ, Bool, true, false, List, Option}
use Rattle.dali_link_commands.specs.declared.stream.order_lines.OrderLines.{OrderLines}
use Rattle.dali_link_commands.specs.LinesGave.{state_of}
use Rattle.dali_input.specs.declared.fault.InputFault.TheVariants.{File}
use Rattle.dali_report.specs.declared.outcome.Outcome.{Outcome}
use Rattle.dali_input.specs.declared.command_fault.Fault.TheVariants.{Input}
use Rattle.dali_input.specs.declared.command_fault.Status.{Status}
use Rattle.dali_input.specs.declared.command_fault.Status.TheVariants.{Refused}
use Rattle.dali_job.specs.declared.link_command.Required.{Required}
use Rattle.dali_link_commands.specs.Bare.{TellsEnded}
use Rattle.dali_link_commands.specs.Told.{IsFaultTold}

-- How a command ends that followed a source to its end, and what is reported then: if the source has failed, that; else
-- if an item was refused, which was reported, it is refused; else it ends as a drive.
abbrev pub TellsFollowed : Bool → Bool → Required → Outcome → Status → Option (List ℕ) → Option (List ℕ) → Type 0
TellsFollowed true has_refused required outcome status before after = IsFaultTold (Input File) status before after
TellsFollowed false true required outcome status before after = (status ≡ Refused) × (after ≡ before)
TellsFollowed false false required outcome status before after = TellsEnded required outcome status before after

-- no line was read of them, nor reported as refused, this is the moment of an order that brings none, and their source
-- hasn't failed
pub record AreUnread {R : Type 0} (failed : R → Bool) (moment : ℕ) (orders : OrderLines R) : Type 0 where
  pub moment_is : (state_of orders).moment ≡ moment
  pub none_read : (state_of orders).count ≡ 0
  pub none_refused : (state_of orders).has_refused ≡ false
  pub unbegun : (state_of orders).is_begun ≡ false
  pub goes_on : (state_of orders).is_over ≡ false
  pub unfailed : failed (state_of orders).source ≡ false

-- How the end of a stream is answered, on both sides of each rule.
use Rattle.std.proofs.Common.{refl, ◌++◌, [], Some, codes, true, false, arith}
use Rattle.dali_input.specs.declared.fault.InputFault.TheVariants.{File}
use Rattle.dali_report.specs.declared.outcome.Outcome.TheVariants as outcomes
use Rattle.dali_input.specs.declared.command_fault.Fault.TheVariants.{Input}
use Rattle.dali_input.specs.declared.command_fault.Status.TheVariants.{Good, Refused, Failed}
use Rattle.dali_input.specs.CommandFaults.{told_line}
use Rattle.dali_job.specs.declared.link_command.Required.TheVariants.{Nothing, Done, DoneNow}
use Rattle.dali_link_commands.specs.FollowAnswers.{TellsFollowed}
use Rattle.dali_link_commands.specs.Told.{error_line}

-- a refused line shows in the status, whatever was done, and nothing more is reported
pub refused_line_refuses : TellsFollowed false true Nothing outcomes.DoneNow Refused (Some []) (Some [])
refused_line_refuses = (refl, refl)

pub refused_line_is_no_good_end : TellsFollowed false true DoneNow outcomes.DoneNow Good (Some []) (Some []) → ⊥
refused_line_is_no_good_end told = cc

pub refused_lines_are_no_empty_stream : TellsFollowed false true Done outcomes.Nothing Refused (Some []) (Some [])
refused_lines_are_no_empty_stream = (refl, refl)

-- an order that isn't done shows only if that is asked for
pub undone_refuses_where_it_is_asked :
    TellsFollowed false false Done outcomes.NotDone Refused (Some []) (Some [])
    × TellsFollowed false false Nothing outcomes.NotDone Good (Some []) (Some [])
undone_refuses_where_it_is_asked = ((refl, refl), (refl, refl))

pub all_well : TellsFollowed false false Done outcomes.Done Good (Some []) (Some [])
all_well = (refl, refl)

-- a source that has failed is reported, and is no good end, whatever came before
pub failed_source_told :
    TellsFollowed true false Done outcomes.Done Failed (Some [])
    (Some (error_line (codes "x") ++ told_line (Input File)))
failed_source_told = (
  error_line (codes "x") ++ told_line (Input File),
  (codes "x", omega arith, refl),
  λ written. (refl, refl),
)

pub failed_source_is_no_good_end : TellsFollowed true false Nothing outcomes.Done Good (Some []) (Some []) → ⊥
failed_source_is_no_good_end told = cc ((told.2 (λ is. cc)).0)

-- and of one that hasn't failed, nothing is reported
pub nothing_told_of_a_good_source :
    TellsFollowed false false Done outcomes.Done Good (Some []) (Some (codes "fault 21 File\n")) → ⊥
nothing_told_of_a_good_source told = cc

pub good_source_is_no_failure : TellsFollowed false false Done outcomes.Done Failed (Some []) (Some []) → ⊥
good_source_is_no_failure told = cc

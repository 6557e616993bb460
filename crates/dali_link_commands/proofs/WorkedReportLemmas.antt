-- How a command ends with its report, by hand, and what is near that.
use Rattle.std.proofs.Common.{◌≡◌, refl, Bool, true, false, ℕ, List, [], Option, Some, codes, arith}
use Rattle.dali_link_commands.specs.declared.report_output.ReportOutput.{ReportOutput}
use Rattle.dali_drive.specs.Desks.{Look}
use Rattle.dali_report.specs.declared.report.Report.{Report}
use Rattle.dali_report.specs.Told.{has_failed, has_output}
use Rattle.dali_input.specs.declared.command_fault.Status.{Status}
use Rattle.dali_input.specs.declared.command_fault.Status.TheVariants.{Good, Failed}
use Rattle.dali_link_commands.specs.LinkCommands.{EndsReported, IsReported}

-- no end is good if a report is lost
no_good_end : (lost : Bool) (ended : Status) (before after : Option (List ℕ)) → lost ≡ true
    → EndsReported lost ended Good before after → ⊥
no_good_end lost ended before after is ends = let told = rw is at ends in grind arith

module _ (answers : Report ReportOutput → Report ReportOutput → Look → Status → Look → Type 0) (first last : Look) where
  -- it has failed before anything is done
  pub failed_at_first : (wanted : Bool) (status : Status) (r : IsReported wanted answers first status last)
      → has_failed r.before ≡ true → ⊥
  failed_at_first wanted status r failed = let never = r.unfailed in cc

  -- one was wanted and isn't opened
  pub unopened_and_good : (r : IsReported true answers first Good last) → has_output r.before ≡ false → ⊥
  unopened_and_good r none = no_good_end _ r.ended r.lines last.streams.out (grind arith) r.reported

  -- it has failed
  pub failed_and_good : (r : IsReported true answers first Good last) → has_failed r.after ≡ true → ⊥
  failed_and_good r failed = no_good_end _ r.ended r.lines last.streams.out (grind arith) r.reported

  -- none was wanted, and the command ends as it did
  pub unreported_and_failed : (r : IsReported false answers first Failed last) → r.ended ≡ Good → ⊥
  unreported_and_failed r well = cc

  pub unreported_and_told : (r : IsReported false answers first Good last) → r.lines ≡ Some []
      → last.streams.out ≡ Some (codes "error: x\n") → ⊥
  unreported_and_told r silent told = cc

  pub unwanted_and_written : (status : Status) (r : IsReported false answers first status last)
      → has_output r.before ≡ true → ⊥
  unwanted_and_written status r goes = let never = r.only_wanted refl in cc

  -- nothing else than the command's own answer
  pub answered_otherwise : (r : IsReported true answers first Good last)
      → ((before after : Report ReportOutput) (status : Status) (end : Look)
      → answers before after first status end → ⊥) → ⊥
  answered_otherwise r never = never _ _ _ _ r.answered

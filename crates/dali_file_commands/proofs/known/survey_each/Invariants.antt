use Rattle.std.proofs.Common.{◌≡◌, List, length}
use Rattle.std.specs.List.{AllByRecursion, flat_map}
use Rattle.dali_journal.specs.declared.record.Record.{Record}
use Rattle.dali_journal.specs.declared.version.Version.TheVariants.{Two}
use Rattle.dali_journal.specs.Spelling.{IsRecord, spelling}
use Rattle.dali_file_commands.proofs.KnownLemmas.{SurveyedSoFar}
use Rattle.dali_file_commands.proofs.known.survey_each.Given as goal

abbrev pub invariant-loop-entry : goal.invariant-loop-entry
invariant-loop-entry l = (records : List Record) → AllByRecursion (IsRecord Two) records
    → l.bytes ≡ flat_map (spelling Two) records → SurveyedSoFar records l.rest l.survey

abbrev pub decreases-loop-entry : goal.decreases-loop-entry
decreases-loop-entry l = length l.rest

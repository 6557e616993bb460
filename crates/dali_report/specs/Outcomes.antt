-- The result of all last replies of a drive. A trace has the newest happening first.
use Rattle.std.specs.Prelude.{◌&&◌, Bool, true, false, List, [], ◌∷◌}
use Rattle.std.specs.List.{list_any}
use Rattle.dali_journal.specs.declared.record.Code.TheVariants as journal
use Rattle.dali_trace.specs.declared.happening.Reply.{Reply}
use Rattle.dali_trace.specs.declared.happening.Reply.TheVariants as replies
use Rattle.dali_trace.specs.declared.happening.Happening.{Happening}
use Rattle.dali_trace.specs.declared.happening.Happening.TheVariants.{Answered}
use Rattle.dali_trace.specs.Trace.{Start}
use Rattle.dali_report.specs.Reports.{is_ended_now, is_last_reply}
use Rattle.dali_report.specs.declared.outcome.Outcome.{Outcome}
use Rattle.dali_report.specs.declared.outcome.Outcome.TheVariants.{Nothing, DoneNow, Done, NotDone}

-- each last reply is `kept 0 Done`
abbrev pub is_well : Reply → Bool
is_well replies.Taken = true
is_well (replies.Kept journal.Done) = true
is_well other = false

abbrev pub all_done : List Happening → Bool
all_done [] = true
all_done (Answered id reply ∷ past) = all_done past && is_well reply
all_done (other ∷ past) = all_done past

-- at each last reply the order's end was kept in this drive
abbrev pub all_ended_now : Start → List Happening → Bool
all_ended_now start [] = true
all_ended_now start (Answered id replies.Taken ∷ past) = all_ended_now start past
all_ended_now start (Answered id reply ∷ past) = all_ended_now start past && is_ended_now start past id
all_ended_now start (other ∷ past) = all_ended_now start past

-- by whether there was a last reply, all were `kept 0 Done`, and all by this drive
abbrev pub outcome_by : Bool → Bool → Bool → Outcome
outcome_by false done now = Nothing
outcome_by true false now = NotDone
outcome_by true true false = Done
outcome_by true true true = DoneNow

abbrev pub outcome_of : Start → List Happening → Outcome
outcome_of start past = outcome_by (list_any is_last_reply past) (all_done past) (all_ended_now start past)

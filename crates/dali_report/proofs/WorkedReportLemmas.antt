-- The lines of a report on short traces, and what it holds, by hand, on both sides of each rule.
use Rattle.std.proofs.Common.{◌≡◌, ◌∙◌, ◌⊎◌, inl, inr, refl, ℕ, true, false, List, [], ◌∷◌, Option, Some, None, length, codes}
use Rattle.serde_json.specs.Data.{null, number, unsigned}
use Rattle.serde_json.specs.Find.{get}
use Rattle.dali_bank.specs.Order.{Contents}
use Rattle.dali_frame.specs.declared.forward.Frame.{Frame}
use Rattle.dali_frame.specs.declared.forward.Frame.TheVariants.{AskDtr1, Enable}
use Rattle.dali_journal.specs.declared.record.Code.TheVariants.{Done, Doubt}
use Rattle.dali_journal.specs.declared.record.Record.TheVariants.{Began, Opened, Ended}
use Rattle.dali_trace.specs.declared.fault.DriveFault.{DriveFault}
use Rattle.dali_trace.specs.declared.fault.DriveFault.TheVariants as faults
use Rattle.dali_trace.specs.declared.happening.Reply.TheVariants as replies
use Rattle.dali_trace.specs.declared.happening.Happening.{Happening}
use Rattle.dali_trace.specs.declared.happening.Happening.TheVariants.{Asked, Answered, Sent, Kept}
use Rattle.dali_trace.specs.Trace.{Start}
use Rattle.dali_report.specs.declared.outcome.Outcome.TheVariants as outcomes
use Rattle.dali_report.specs.declared.outcome.Outcome.TheVariants.{Nothing, DoneNow, NotDone}
use Rattle.dali_report.specs.declared.report.Report.{Report}
use Rattle.dali_report.specs.declared.tally.Tally.{Tally}
use Rattle.dali_drive.specs.Found.{Found, was_found}
use Rattle.dali_report.specs.Lines.{cause_data, end_data, escaped, found_data, is_plain, last_data}
use Rattle.dali_report.specs.Reports.{exchanges, is_ended_now, IsReportText, spoken_of, unfinished_at}
use Rattle.dali_report.specs.Outcomes.{all_done, outcome_of}
use Rattle.dali_report.specs.Reports.{IsCauseTold, told_at}
use Rattle.dali_report.specs.Tallies.{IsTally}
use Rattle.dali_report.specs.Told.{HasWritten, IsTold, IsToldEnd, IsToldFound, has_failed, report_held, spoken}
use Rattle.dali_write.specs.declared.ask.Cause.{Cause}
use Rattle.dali_write.specs.declared.ask.Cause.TheVariants.{Another, Unread}
use Rattle.dali_write.specs.declared.pace.Pace.TheVariants.{Checked}

-- ---- which order is spoken of, and whether it ended in this drive

abbrev first : Contents
first = record { id = 1; unit = 5; updates = (0x09, 0x00) ∷ [] }

abbrev second : Contents
second = record { id = 2; unit = 6; updates = (0x09, 0x01) ∷ [] }

-- a journal of no order, and one that has begun the first
abbrev new_start : Start
new_start = record { records = []; limit = 3; pace = Checked }

abbrev begun_start : Start
begun_start = record { records = Began first 7 ∷ []; limit = 3; pace = Checked }

-- and one that has ended it
abbrev ended_start : Start
ended_start = record { records = Ended Done ∷ Opened 5 ∷ Began first 7 ∷ []; limit = 3; pace = Checked }

pub the_newest_is_spoken_of : (spoken_of begun_start (Asked second 0 ∷ []) ≡ Some second)
    × (spoken_of begun_start [] ≡ Some first)
the_newest_is_spoken_of = (refl, refl)

pub an_ended_order_is_finished :
    (unfinished_at ended_start [] ≡ None) × (unfinished_at begun_start (Kept (Ended Done) ∷ []) ≡ None)
    × (unfinished_at begun_start [] ≡ Some first)
an_ended_order_is_finished = (refl, refl, refl)

-- the first is carried out, and its reply is said
abbrev first_done : List Happening
first_done = Kept (Ended Done) ∷ Kept (Opened 5) ∷ Kept (Began first 0) ∷ Answered 1 replies.Taken ∷ Asked first 0 ∷ []

abbrev first_said : List Happening
first_said = Answered 1 (replies.Kept Done) ∷ first_done

-- and it is, if a journal had begun it
abbrev resumed_done : List Happening
resumed_done = Kept (Ended Done) ∷ Kept (Opened 5) ∷ []

abbrev resumed_said : List Happening
resumed_said = Answered 1 (replies.Kept Done) ∷ resumed_done

pub ended_now : (is_ended_now new_start first_done 1 ≡ true) × (is_ended_now begun_start resumed_done 1 ≡ true)
ended_now = (refl, refl)

-- also if the order is taken once more between its end and its reply
pub taken_tells_no_end : is_ended_now new_start (Answered 1 replies.Taken ∷ first_done) 1 ≡ true
taken_tells_no_end = refl

-- once its reply was said, it counts as ended before: if it is asked again, and if it was resumed and is then asked
pub ended_before :
    (is_ended_now new_start (Asked first 0 ∷ first_said) 1 ≡ false)
    × (is_ended_now begun_start (Asked first 0 ∷ resumed_said) 1 ≡ false)
    × (is_ended_now ended_start (Asked first 0 ∷ []) 1 ≡ false)
ended_before = (refl, refl, refl)

-- and before its end was kept it hasn't ended
pub not_ended_yet :
    (is_ended_now begun_start [] 1 ≡ false) × (is_ended_now begun_start (Kept (Opened 5) ∷ []) 1 ≡ false)
not_ended_yet = (refl, refl)

pub no_other_ends_with_it :
    (is_ended_now begun_start resumed_done 2 ≡ false) × (is_ended_now new_start first_done 2 ≡ false)
no_other_ends_with_it = (refl, refl)

-- ---- which frames are counted

abbrev sent : Happening
sent = Sent (Enable 5) None

pub taken_ends_no_count : length (exchanges (sent ∷ Answered 1 replies.Taken ∷ sent ∷ [])) ≡ 2
taken_ends_no_count = refl

pub last_reply_ends_the_count : length (exchanges (sent ∷ Answered 1 replies.Busy ∷ sent ∷ [])) ≡ 1
last_reply_ends_the_count = refl

abbrev one_missed : Tally → Type 0
one_missed tally = IsTally (record { frame = AskDtr1 5; answer = None } ∷ []) tally

pub a_miss_is_counted : (tally : Tally) → one_missed tally → (tally.frames ≡ 1) × (tally.misses ≡ 1)
a_miss_is_counted tally is = (is.frames, is.misses)

-- ---- which replies are done

pub done_and_taken_are_well : all_done (Answered 1 (replies.Kept Done) ∷ Answered 1 replies.Taken ∷ []) ≡ true
done_and_taken_are_well = refl

pub one_in_doubt_is_not : all_done (Answered 2 (replies.Kept Done) ∷ Answered 1 (replies.Kept Doubt) ∷ []) ≡ false
one_in_doubt_is_not = refl

pub taken_has_no_line : (text : List ℕ) → IsReportText 1 new_start (Answered 1 replies.Taken ∷ []) text → text ≡ []
taken_has_no_line text is = is

-- ---- why an order ended badly

-- what is asked anew has no cause yet, and what ended in doubt has one until then
pub asked_anew_has_no_cause : (past : List Happening) (cause : Option Cause)
    → IsCauseTold new_start (Asked first 0 ∷ past) cause → cause ≡ None
asked_anew_has_no_cause past cause is = is

pub doubt_has_a_cause : (past : List Happening)
    → IsCauseTold new_start (Answered 1 (replies.Kept Doubt) ∷ Kept (Ended Doubt) ∷ past) None → ⊥
doubt_has_a_cause past is = let some = is.1 refl in cc

pub cause_is_told :
    (get (codes "location") (cause_data (Some (Another 4 0))) ≡ Some (number (unsigned 4)))
    × (get (codes "byte") (cause_data (Some (Another 4 0))) ≡ Some (number (unsigned 0)))
    × (get (codes "byte") (cause_data (Some (Unread 4))) ≡ Some null) × (cause_data None ≡ null)
cause_is_told = (refl, refl, refl, refl)

-- ---- the result of all last replies

pub nothing_where_none_is_replied :
    (outcome_of begun_start [] ≡ Nothing)
    × (outcome_of new_start (Answered 1 replies.Taken ∷ Asked first 0 ∷ []) ≡ Nothing)
nothing_where_none_is_replied = (refl, refl)

pub done_now : (outcome_of new_start first_said ≡ DoneNow) × (outcome_of begun_start resumed_said ≡ DoneNow)
done_now = (refl, refl)

-- one that the journal had ended is done, and not by this drive
pub done_before : outcome_of ended_start (Answered 1 (replies.Kept Done) ∷ Asked first 0 ∷ []) ≡ outcomes.Done
done_before = refl

-- though another one is
pub one_done_before_is_enough :
    outcome_of ended_start (Answered 2 (replies.Kept Done) ∷ Kept (Ended Done) ∷ Kept (Opened 6)
    ∷ Kept (Began second 0) ∷ Asked second 0 ∷ Answered 1 (replies.Kept Done) ∷ Asked first 0 ∷ []) ≡ outcomes.Done
one_done_before_is_enough = refl

-- one that is asked twice was done before the second time
pub asked_twice_is_done_before :
    outcome_of new_start (Answered 1 (replies.Kept Done) ∷ Asked first 0 ∷ first_said) ≡ outcomes.Done
asked_twice_is_done_before = refl

-- and so was one that is resumed and then asked
pub resumed_and_asked_is_done_before :
    outcome_of begun_start (Answered 1 (replies.Kept Done) ∷ Asked first 0 ∷ resumed_said) ≡ outcomes.Done
resumed_and_asked_is_done_before = refl

pub not_done_where_one_has_no_end :
    (outcome_of ended_start (Answered 1 replies.IdReused ∷ Asked first 0 ∷ []) ≡ NotDone)
    × (outcome_of new_start (Answered 1 (replies.Blocked 6) ∷ Asked first 0 ∷ []) ≡ NotDone)
not_done_where_one_has_no_end = (refl, refl)

pub not_done_in_doubt :
    outcome_of new_start (Answered 1 (replies.Kept Doubt) ∷ Kept (Ended Doubt) ∷ Asked first 0 ∷ []) ≡ NotDone
not_done_in_doubt = refl

-- ---- of which run a line is

pub run_is_told :
    (run : ℕ) → (get (codes "run") (found_data run (was_found first None []) []) ≡ Some (number (unsigned run)))
    × (get (codes "run") (end_data run faults.End (Enable 5) []) ≡ Some (number (unsigned run)))
    × (get (codes "run") (last_data (told_at run new_start [] 1 replies.Busy None)) ≡ Some (number (unsigned run)))
run_is_told run = (refl, refl, refl)

-- ---- which bytes stand for themselves

pub plain_from_a_space : (is_plain 0x1F ≡ false) × (is_plain 0x20 ≡ true)
plain_from_a_space = (refl, refl)

pub plain_to_a_tilde : (is_plain 0x7E ≡ true) × (is_plain 0x7F ≡ false)
plain_to_a_tilde = (refl, refl)

pub backslash_escaped : escaped (codes "1\\\r") ≡ codes "1\\x5C\\x0D"
backslash_escaped = refl

-- ---- what a report holds

pub want_of_memory_is_a_failure : {W : Type 0} (report : Report W) → report.starved ≡ true
    → has_failed report ≡ true
want_of_memory_is_a_failure report starved = rw starved refl

pub no_output_never_fails : {W : Type 0} (report : Report W) → report.starved ≡ false → report.output ≡ None
    → has_failed report ≡ false
no_output_never_fails report starved none = rw (starved, none) refl

module _ {W : Type 0} (contents : W → Option (List ℕ)) (first_report now : Report W) where
  pub good_has_written : has_failed now ≡ false → report_held contents first_report ≡ Some (codes "a")
      → report_held contents now ≡ Some (codes "a") → ¬ HasWritten contents first_report now (codes "b")
  good_has_written well held holds = λ written.
      let put = rw (held, holds) at written.0 well in cc

  pub failed_stays_failed : has_failed first_report ≡ true → has_failed now ≡ false → (text : List ℕ)
      → ¬ HasWritten contents first_report now text
  failed_stays_failed failed well text = λ written. let silent = written.1 failed in let stays = silent.0 in cc

  -- and what had failed holds what it held then
  pub failed_writes_no_more : (text : List ℕ) → HasWritten contents first_report now text
      → has_failed first_report ≡ true → report_held contents now ≡ report_held contents first_report
  failed_writes_no_more text written failed =
      let silent = written.1 failed in rw silent.1 refl

  pub not_done_where_one_is_refused : IsTold contents new_start first_report now (Answered 1 replies.IdReused ∷ [])
      → now.outcome ≡ NotDone
  not_done_where_one_is_refused told = told.outcome_is

  pub nothing_where_none_is_asked : IsTold contents new_start first_report now [] → now.outcome ≡ Nothing
  nothing_where_none_is_asked told = told.outcome_is

  -- though a drive breaks off after it
  pub not_done_though_broken_off : (fault : DriveFault) (frame : Frame) (text : List ℕ)
      → IsToldEnd contents new_start first_report now (Answered 1 replies.IdReused ∷ []) fault frame text
      → now.outcome ≡ NotDone
  not_done_though_broken_off fault frame text told = told.outcome_is

  pub speaks_of_the_newest : IsTold contents begun_start first_report now (Asked second 0 ∷ [])
      → (now.spoken ≡ Some (spoken second)) × (now.unfinished ≡ Some (spoken first)) × (now.ended ≡ None)
  speaks_of_the_newest told = (told.spoken_is, told.unfinished_is, told.ended_is)

  -- a report never becomes that of another run
  pub run_stays : (found : List Found) → first_report.run ≡ 3
      → (IsTold contents begun_start first_report now [] ⊎ IsToldFound contents first_report now found)
      → now.run ≡ 3
  run_stays found is (inl told) = told.run_is ∙ is
  run_stays found is (inr told) = told.same_run ∙ is

  pub end_is_kept_in_mind : IsTold contents begun_start first_report now (Kept (Ended Done) ∷ [])
      → now.ended ≡ Some (spoken first)
  end_is_kept_in_mind told = told.ended_is

-- How a report goes on.
use Rattle.std.specs.List.{list_any}
use Rattle.std.proofs.Common.{◌≡◌, ◌∙◌, refl, sym, true≢false, ◌&&◌, ◌++◌, ℕ, Bool, true, false, List, [], ◌∷◌, Option, Some, None}
use Rattle.std.proofs.Common.{option_map, subst, inl, inr, ◌⊎◌, IsOkAnd, IfOk, Result, Ok, Err, Vec, Global}
use Rattle.std.specs.Io.KnownBytes.{Appends}
use Rattle.std.proofs.KnownBytes.{Appends-trans}
use Rattle.dali_bank.specs.Order.{Contents}
use Rattle.dali_journal.specs.declared.record.Record.{Record}
use Rattle.dali_journal.specs.Orders.{moment_of}
use Rattle.dali_write.specs.Exchanges.{Exchange}
use Rattle.dali_write.specs.declared.ask.Cause.{Cause}
use Rattle.dali_trace.specs.declared.happening.Reply.{Reply}
use Rattle.dali_trace.specs.declared.happening.Reply.TheVariants as replies
use Rattle.dali_trace.specs.declared.happening.Happening.{Happening}
use Rattle.dali_trace.specs.declared.happening.Happening.TheVariants.{Answered, Asked, Kept, Sent, Stopped, Powered}
use Rattle.dali_trace.specs.Trace.{Start, records_of}
use Rattle.dali_report.specs.declared.line.LastReply.{LastReply}
use Rattle.dali_report.specs.declared.outcome.Outcome.{Outcome}
use Rattle.dali_report.specs.declared.report.Report.{Report}
use Rattle.dali_report.specs.declared.report.Spoken.{Spoken}
use Rattle.dali_report.specs.Lines.{line_of, last_data}
use Rattle.dali_report.specs.Reports.{spoken_of, newly_ended, is_number_of, exchanges, told_at, is_last_reply, IsReportText}
use Rattle.dali_report.specs.Reports.{IsCauseTold, is_ended_now}
use Rattle.dali_report.specs.Outcomes.{all_done, all_ended_now, is_well, outcome_by, outcome_of}
use Rattle.dali_report.specs.Tallies.{IsTally}
use Rattle.dali_report.specs.Told.{IsTold, HasWritten, IsSilent, report_held, has_failed, spoken, is_number}

-- the unit and the number of what is kept of an order
unit_of : (order : Option Contents)
    → option_map (λ (one : Spoken). one.unit) (option_map spoken order)
    ≡ option_map (λ (one : Contents). one.unit) order
unit_of None = refl
unit_of (Some order) = refl

number_of : (id : ℕ) (order : Option Contents) → is_number id (option_map spoken order) ≡ is_number_of id order
number_of id None = refl
number_of id (Some order) = refl

-- if no line is wanted none is missed
pub unwanted : {W : Type 0} (contents : W → Option (List ℕ)) (report : Report W) (text : List ℕ)
    → (has_failed report ≡ true) ⊎ (report.output ≡ None) → has_failed report ≡ false
    → Appends (report_held contents report) (report_held contents report) text
unwanted contents report text (inl failed) well = cc
unwanted contents report text (inr none) well = rw none tt

-- if one is wanted, this one was written
pub wanted : {W E : Type 0} (contents : W → Option (List ℕ)) (old new : Report W) (made : Result (Vec ℕ Global) E)
    (text : List ℕ)
    → ((has_failed old ≡ false)
    × IsOkAnd made (λ line. Appends (report_held contents old) (report_held contents new) line.items))
    → IfOk made (λ line. line.items ≡ text)
    → (has_failed old ≡ false) × Appends (report_held contents old) (report_held contents new) text
wanted contents old new (Ok line) text put is =
    (put.0, subst (λ (l : List ℕ). Appends (report_held contents old) (report_held contents new) l) is put.1)
wanted contents old new (Err error) text put is = absurd put.1

-- a text and then a line
pub more_written : {W : Type 0} (contents : W → Option (List ℕ)) (first old new : Report W) (text line : List ℕ)
    → HasWritten contents first old text
    → (has_failed new ≡ false → (has_failed old ≡ false)
    × Appends (report_held contents old) (report_held contents new) line)
    → (has_failed old ≡ true → IsSilent old new)
    → HasWritten contents first new (text ++ line)
more_written contents first old new text line before more silent = (
  λ well.
      let now = more well in
      Appends-trans (report_held contents first) (report_held contents old) (report_held contents new) text line
      (before.0 now.0) now.1,
  λ failed.
      let then = before.1 failed in
      let now = silent then.0 in
      (now.0, now.1 ∙ then.1),
)

-- if a line is wanted, none has failed
pub not_both : {W A : Type 0} (report : Report W) → has_failed report ≡ false → has_failed report ≡ true → A
not_both report well failed = absurd (true≢false (sym failed ∙ well))

-- a last reply has its line
abbrev MoreText : ℕ → Start → List Happening → ℕ → Reply → List ℕ → Option Cause → Type 0
MoreText run start past id reply text cause =
    IsReportText run start (Answered id reply ∷ past)
    (text ++ line_of (last_data (told_at run start past id reply cause)))

text_of_last : (run : ℕ) (start : Start) (past : List Happening) (id : ℕ) (reply : Reply) (text : List ℕ)
    (cause : Option Cause)
    → is_last_reply (Answered id reply) ≡ true → IsReportText run start past text → IsCauseTold start past cause
    → MoreText run start past id reply text cause
text_of_last run start past id replies.Taken text cause last before is = cc
text_of_last run start past id (replies.Kept code) text cause last before is = (text, cause, before, is, refl)
text_of_last run start past id replies.IdReused text cause last before is = (text, cause, before, is, refl)
text_of_last run start past id replies.Busy text cause last before is = (text, cause, before, is, refl)
text_of_last run start past id replies.Full text cause last before is = (text, cause, before, is, refl)
text_of_last run start past id (replies.Blocked unit) text cause last before is = (text, cause, before, is, refl)

-- and is one of those that the outcome is of
outcome_of_last : (start : Start) (past : List Happening) (id : ℕ) (reply : Reply)
    → is_last_reply (Answered id reply) ≡ true
    → outcome_of start (Answered id reply ∷ past)
    ≡ outcome_by true (all_done past && is_well reply) (all_ended_now start past && is_ended_now start past id)
outcome_of_last start past id replies.Taken last = cc
outcome_of_last start past id (replies.Kept code) last = refl
outcome_of_last start past id replies.IdReused last = refl
outcome_of_last start past id replies.Busy last = refl
outcome_of_last start past id replies.Full last = refl
outcome_of_last start past id (replies.Blocked unit) last = refl

-- before the first of them nothing was said against any
pub none_yet : (start : Start) (past : List Happening) → list_any is_last_reply past ≡ false
    → (all_done past ≡ true) × (all_ended_now start past ≡ true)
none_yet start [] none = (refl, refl)
none_yet start (Answered id replies.Taken ∷ past) none =
    let before = none_yet start past none in (rw before.0 refl, before.1)
none_yet start (Answered id (replies.Kept code) ∷ past) none = cc
none_yet start (Answered id replies.IdReused ∷ past) none = cc
none_yet start (Answered id replies.Busy ∷ past) none = cc
none_yet start (Answered id replies.Full ∷ past) none = cc
none_yet start (Answered id (replies.Blocked unit) ∷ past) none = cc
none_yet start (Asked order moment ∷ past) none = none_yet start past none
none_yet start (Kept record_ ∷ past) none = none_yet start past none
none_yet start (Sent frame answer ∷ past) none = none_yet start past none
none_yet start (Stopped pace ∷ past) none = none_yet start past none
none_yet start (Powered unit ∷ past) none = none_yet start past none

-- and no exchange after it
none_since : (past : List Happening) (id : ℕ) (reply : Reply) → is_last_reply (Answered id reply) ≡ true
    → exchanges (Answered id reply ∷ past) ≡ []
none_since past id reply last = rw last refl

-- and no end
none_ended : (start : Start) (past : List Happening) (id : ℕ) (reply : Reply)
    → is_last_reply (Answered id reply) ≡ true
    → None ≡ option_map spoken (newly_ended start (Answered id reply ∷ past))
none_ended start past id replies.Taken last = cc
none_ended start past id (replies.Kept code) last = refl
none_ended start past id replies.IdReused last = refl
none_ended start past id replies.Busy last = refl
none_ended start past id replies.Full last = refl
none_ended start past id (replies.Blocked unit) last = refl

module _ {W : Type 0} (contents : W → Option (List ℕ)) (start : Start) (first old : Report W) (past : List Happening)
    (told : IsTold contents start first old past) (id : ℕ) (reply : Reply) where
  -- the values that a report has in hand are those of the line at the reply
  pub last_is : (records : List Record) → records_of start past ≡ records → (last : LastReply)
      → last ≡ record {
        run = old.run;
        order = id;
        unit = option_map (λ (one : Spoken). one.unit) old.spoken;
        moment = moment_of id records;
        reply = reply;
        ended_now = is_number id old.ended;
        cause = old.cause;
        frames = old.tally.frames;
        misses = old.tally.misses;
      }
      → last ≡ told_at first.run start past id reply old.cause
  last_is records same last is =
      rw (
        is,
        sym same,
        told.run_is,
        told.spoken_is,
        told.ended_is,
        told.tally_is.frames,
        told.tally_is.misses,
        unit_of (spoken_of start past),
        number_of id (newly_ended start past),
      ) refl

  -- and the result of all last replies with it
  pub with_last : (done now : Bool) (comes : Outcome) → done ≡ is_well reply
      → now ≡ is_number id old.ended
      → ((had every all_now : Bool) → old.outcome ≡ outcome_by had every all_now
      → (had ≡ false → (every ≡ true) × (all_now ≡ true))
      → comes ≡ outcome_by true (every && done) (all_now && now))
      → comes ≡ outcome_by true (all_done past && is_well reply)
      (all_ended_now start past && is_ended_now start past id)
  with_last done now comes well ends with =
      let is_now : now ≡ is_ended_now start past id =
      rw (ends, told.ended_is, number_of id (newly_ended start past)) refl in
      rw (← is_now, ← well)
      (with (list_any is_last_reply past) (all_done past) (all_ended_now start past) told.outcome_is
      (none_yet start past))

  -- its line was written, and the next one begins
  pub told_last : (new : Report W) → is_last_reply (Answered id reply) ≡ true
      → new.unfinished ≡ old.unfinished → new.spoken ≡ old.spoken → new.ended ≡ None → new.cause ≡ old.cause
      → IsTally [] new.tally → new.run ≡ old.run
      → new.outcome ≡ outcome_by true (all_done past && is_well reply)
      (all_ended_now start past && is_ended_now start past id)
      → (has_failed new ≡ false → (has_failed old ≡ false)
      × Appends (report_held contents old) (report_held contents new)
      (line_of (last_data (told_at first.run start past id reply old.cause))))
      → (has_failed old ≡ true → IsSilent old new)
      → IsTold contents start first new (Answered id reply ∷ past)
  told_last new last remains speaks ends causes tallies runs comes writes silent = record {
    unfinished_is = remains ∙ told.unfinished_is;
    spoken_is = speaks ∙ told.spoken_is;
    ended_is = ends ∙ none_ended start past id reply last;
    tally_is = subst (λ (x : List Exchange). IsTally x new.tally) (sym (none_since past id reply last)) tallies;
    outcome_is = comes ∙ sym (outcome_of_last start past id reply last);
    cause_is = rw causes told.cause_is;
    run_is = runs ∙ told.run_is;
    written = (
      told.written.0 ++ line_of (last_data (told_at first.run start past id reply old.cause)),
      text_of_last first.run start past id reply told.written.0 old.cause last told.written.1 told.cause_is,
      more_written contents first old new told.written.0
          (line_of (last_data (told_at first.run start past id reply old.cause))) told.written.2 writes silent,
    );
  }

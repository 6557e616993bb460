-- The report of a drive: a line for each order at its last reply. A trace has the newest happening first.
use Rattle.std.specs.Prelude.{◌≡◌, ◌==◌, ℕ, Bool, true, false, List, [], ◌∷◌, ◌++◌, Option, Some, None, length}
use Rattle.std.specs.Prelude.{option_map}
use Rattle.dali_bank.specs.Order.{Contents}
use Rattle.dali_frame.specs.declared.forward.Frame.{Frame}
use Rattle.dali_journal.specs.declared.record.Record.TheVariants.{Ended}
use Rattle.dali_journal.specs.declared.standing.Standing.{Standing}
use Rattle.dali_journal.specs.declared.standing.Standing.TheVariants as standings
use Rattle.dali_journal.specs.Orders.{moment_of}
use Rattle.dali_write.specs.Exchanges.{Exchange}
use Rattle.dali_write.specs.declared.ask.Cause.{Cause}
use Rattle.dali_write.specs.Misses.{misses_in}
use Rattle.dali_trace.specs.declared.happening.Reply.{Reply}
use Rattle.dali_trace.specs.declared.happening.Reply.TheVariants as replies
use Rattle.dali_trace.specs.declared.happening.Happening.{Happening}
use Rattle.dali_trace.specs.declared.happening.Happening.TheVariants.{Asked, Answered, Kept}
use Rattle.dali_trace.specs.Cut.{since, frames_in}
use Rattle.dali_trace.specs.Trace.{Start, records_of, standing_at}
use Rattle.dali_trace.specs.Causes.{IsCauseBeside}
use Rattle.dali_trace.specs.declared.fault.DriveFault.{DriveFault}
use Rattle.dali_drive.specs.Found.{Found}
use Rattle.dali_report.specs.Lines.{counted, last_data, end_data, line_of, IsFoundLine}
use Rattle.dali_report.specs.declared.line.LastReply.{LastReply}

-- the order that a standing leaves unfinished
abbrev pub unfinished_in : Standing → Option Contents
unfinished_in (standings.Began order) = Some order
unfinished_in (standings.Opened order) = Some order
unfinished_in other = None

-- the one that was begun by now and hasn't ended
abbrev pub unfinished_at : Start → List Happening → Option Contents
unfinished_at start past = unfinished_in (standing_at start past)

-- the order that is spoken of: the newest that was asked, and before any was the one that is resumed
abbrev pub spoken_of : Start → List Happening → Option Contents
spoken_of start [] = unfinished_at start []
spoken_of start (Asked order moment ∷ past) = Some order
spoken_of start (other ∷ past) = spoken_of start past

-- ---- where a look back ends: at a last reply, which is any but `taken`

abbrev pub is_last_reply : Happening → Bool
is_last_reply (Answered id replies.Taken) = false
is_last_reply (Answered id reply) = true
is_last_reply other = false

-- the order whose end was kept since the last reply before
abbrev pub newly_ended : Start → List Happening → Option Contents
newly_ended start [] = None
newly_ended start (Kept (Ended code) ∷ past) = unfinished_at start past
newly_ended start (Answered id replies.Taken ∷ past) = newly_ended start past
newly_ended start (Answered id reply ∷ past) = None
newly_ended start (other ∷ past) = newly_ended start past

-- it is the one of this number: so an end is reported once as of now, in the drive that kept it
abbrev pub is_number_of : ℕ → Option Contents → Bool
is_number_of id None = false
is_number_of id (Some order) = order.id == id

abbrev pub is_ended_now : Start → List Happening → ℕ → Bool
is_ended_now start past id = is_number_of id (newly_ended start past)

-- the exchanges since the last reply before
abbrev pub exchanges : List Happening → List Exchange
exchanges past = frames_in (since is_last_reply past)

-- why the order that was asked last, or the one that is resumed, ended badly, if its end was kept
abbrev pub IsCauseTold : Start → List Happening → Option Cause → Type 0
IsCauseTold start [] cause = cause ≡ None
IsCauseTold start (Asked order moment ∷ past) cause = cause ≡ None
IsCauseTold start (Kept (Ended code) ∷ past) cause = IsCauseBeside start past (Kept (Ended code)) cause
IsCauseTold start (other ∷ past) cause = IsCauseTold start past cause

-- the line in this run for the order of this number at this reply
abbrev pub told_at : ℕ → Start → List Happening → ℕ → Reply → Option Cause → LastReply
told_at run start past id reply cause = record {
  run = run;
  order = id;
  unit = option_map (λ order. order.unit) (spoken_of start past);
  moment = moment_of id (records_of start past);
  reply = reply;
  ended_now = is_ended_now start past id;
  cause = cause;
  frames = counted (length (exchanges past));
  misses = counted (misses_in (exchanges past));
}

-- the text of a run in a report: a line for each last reply
abbrev pub IsReportText : ℕ → Start → List Happening → List ℕ → Type 0
IsReportText run start [] text = text ≡ []
IsReportText run start (Answered id replies.Taken ∷ past) text = IsReportText run start past text
IsReportText run start (Answered id reply ∷ past) text =
    (before : List ℕ) × (cause : Option Cause) × IsReportText run start past before × IsCauseTold start past cause
    × (text ≡ before ++ line_of (last_data (told_at run start past id reply cause)))
IsReportText run start (other ∷ past) text = IsReportText run start past text

-- and with the fault of an answer
abbrev pub IsBrokenText : ℕ → Start → List Happening → DriveFault → Frame → List ℕ → List ℕ → Type 0
IsBrokenText run start past fault frame read text =
    (before : List ℕ) × IsReportText run start past before × (text ≡ before ++ line_of (end_data run fault frame read))

-- ---- the text of what was found of orders

abbrev pub AreFoundLines : ℕ → List Found → List ℕ → Type 0
AreFoundLines run [] text = text ≡ []
AreFoundLines run (newest ∷ found) text =
    (before : List ℕ) × (line : List ℕ) × AreFoundLines run found before × IsFoundLine run newest line
    × (text ≡ before ++ line)

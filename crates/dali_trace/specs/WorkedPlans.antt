-- Worked traces near the edges of what is promised besides legality: by plan and not, at the limits of the work, and
-- with as much lost as may be.
use Rattle.std.specs.Prelude.{ℕ, zero, suc, List, [], ◌∷◌, Some, None}
use Rattle.dali_frame.specs.declared.forward.Frame.TheVariants.{Dtr0, Dtr1, Enable, AskDtr1, Read}
use Rattle.dali_journal.specs.declared.record.Code.{Code}
use Rattle.dali_journal.specs.declared.record.Code.TheVariants.{Done, Silent, DoubtOpen}
use Rattle.dali_journal.specs.declared.record.Record.TheVariants.{Began, Opened, Ended}
use Rattle.dali_trace.specs.declared.happening.Reply.TheVariants as replies
use Rattle.dali_trace.specs.declared.happening.Happening.{Happening}
use Rattle.dali_trace.specs.declared.happening.Happening.TheVariants.{Asked, Answered, Sent, Kept, Stopped}
use Rattle.dali_trace.specs.Trace.{Start}
use Rattle.dali_trace.specs.Worked.{read_at, read_try, eight_times, first_order, second_order, begun, opened, said}
use Rattle.dali_trace.specs.Worked.{second_taken, unreached, taken_again}
use Rattle.dali_write.specs.declared.pace.Pace.TheVariants.{Checked}

-- the first frame of a checked read, and another one
abbrev pub first_frame : List Happening
first_frame = Sent (Dtr1 1) None ∷ begun

abbrev pub another_first_frame : List Happening
another_first_frame = Sent (Dtr0 0) None ∷ begun

-- after a try that missed: the next one begins, or the frame after the miss is sent
abbrev pub next_try : List Happening
next_try = Sent (Dtr1 1) None ∷ read_try begun

abbrev pub frame_past_a_miss : List Happening
frame_past_a_miss = Sent (Dtr0 0) None ∷ read_try begun

-- after an answer that was wanted: the next frame, or a further try
abbrev pub half_tried : List Happening
half_tried = Sent (AskDtr1 5) (Some 1) ∷ first_frame

abbrev pub next_frame : List Happening
next_frame = Sent (Dtr0 0) None ∷ half_tried

abbrev pub try_without_a_miss : List Happening
try_without_a_miss = Sent (Dtr1 1) None ∷ half_tried

-- after a stop: the session begins anew, or its try goes on
abbrev pub begun_anew : List Happening
begun_anew = Sent (Dtr1 1) None ∷ Stopped Checked ∷ first_frame

abbrev pub try_through_a_stop : List Happening
try_through_a_stop = Sent (AskDtr1 5) (Some 1) ∷ Stopped Checked ∷ first_frame

-- once the unit is opened: it is enabled, or read as before
abbrev pub enabled_first : List Happening
enabled_first = Sent (Enable 5) None ∷ opened

abbrev pub read_once_opened : List Happening
read_once_opened = Sent (Dtr1 1) None ∷ opened

-- Silent after eight tries that missed, after seven, and after a read that was answered
abbrev pub seven_times : (List Happening → List Happening) → List Happening → List Happening
seven_times try past = try (try (try (try (try (try (try past))))))

abbrev pub silent_after_eight : List Happening
silent_after_eight = Kept (Ended Silent) ∷ eight_times read_try begun

abbrev pub silent_after_seven : List Happening
silent_after_seven = Kept (Ended Silent) ∷ seven_times read_try begun

abbrev pub silent_where_short : List Happening
silent_where_short = Kept (Ended Silent) ∷ read_at 5 0x00 0x07 begun

-- DoubtOpen with no frame to the opened unit
abbrev pub left_at_once : List Happening
left_at_once = Kept (Ended DoubtOpen) ∷ opened

-- Blocked with no frame to the left unit
abbrev pub blocked_at_once : List Happening
blocked_at_once = Answered 2 (replies.Blocked 5) ∷ second_taken

-- after the last try of closing a left unit: a further one, or another order is taken and the closing begins anew
abbrev pub try_past_the_end : List Happening
try_past_the_end = Sent (Enable 5) None ∷ unreached

abbrev pub closed_anew : List Happening
closed_anew = Sent (Enable 5) None ∷ taken_again

-- Near the limits of the work

-- this many more frames that ask for no answer, tries that miss, reads that are answered, and records
abbrev pub frames_more : ℕ → List Happening → List Happening
frames_more zero past = past
frames_more (suc frames) past = Sent (Dtr1 1) None ∷ frames_more frames past

-- reads of the first order's unit from a location on, which told these bytes, the newest first
abbrev pub row_told : ℕ → List ℕ → List Happening
row_told location [] = Sent (Dtr0 location) None ∷ begun
row_told location (byte ∷ bytes) = Sent (Read 5) (Some byte) ∷ row_told location bytes

abbrev pub tries_more : ℕ → List Happening → List Happening
tries_more zero past = past
tries_more (suc tries) past = read_try (tries_more tries past)

abbrev pub reads_more : ℕ → List Happening → List Happening
reads_more zero past = past
reads_more (suc reads) past = read_at 5 0x00 0x77 (reads_more reads past)

abbrev pub records_more : ℕ → List Happening → List Happening
records_more zero past = past
records_more (suc records) past = Kept (Began first_order 7) ∷ records_more records past

-- how the first order ended that was begun, or opened
abbrev pub begun_said : Code → List Happening → List Happening
begun_said code past = Answered 1 (replies.Kept code) ∷ Kept (Ended code) ∷ past

abbrev pub opened_said : Code → List Happening → List Happening
opened_said code past = begun_said code (Kept (Opened 5) ∷ past)

-- the second order is blocked
abbrev pub blocked_said : List Happening → List Happening
blocked_said past = Answered 2 (replies.Blocked 5) ∷ past

-- the second order is taken after others
abbrev pub second_taken_behind : List Happening → List Happening
second_taken_behind past = Answered 2 replies.Taken ∷ Asked second_order 9 ∷ past

-- a journal in which the first order was begun
abbrev pub at_work : Start
at_work = record { records = Began first_order 7 ∷ []; limit = 10; pace = Checked }

-- Happenings that don't say the order that is begun: a reply to a repeat of it, a saying of another number, one after a
-- stop, and one when no order is at hand.
abbrev pub repeated : List Happening
repeated = Answered 1 replies.Busy ∷ Asked first_order 7 ∷ begun

abbrev pub another_said : List Happening
another_said = Answered 2 (replies.Kept Done) ∷ begun

abbrev pub said_behind_a_stop : List Happening
said_behind_a_stop = Answered 1 (replies.Kept Done) ∷ Stopped Checked ∷ begun

abbrev pub said_again : List Happening
said_again = Answered 1 (replies.Kept Done) ∷ said

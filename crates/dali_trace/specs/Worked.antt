-- Worked traces: a GTIN order on a blank unit, an order that finds another unit left open, and what may not happen on
-- the way.
use Rattle.std.specs.Prelude.{◌≡◌, ◌==◌, ℕ, nat_le, false, List, [], ◌∷◌, Some, None, if◌then◌else◌}
use Rattle.dali_frame.specs.declared.forward.Frame.TheVariants.{Dtr0, Dtr1, Write, WriteSilent, Enable, AskDtr0}
use Rattle.dali_frame.specs.declared.forward.Frame.TheVariants.{AskDtr1, Read}
use Rattle.dali_bank.specs.Order.{Contents}
use Rattle.dali_bus.specs.World.{Gear, World, Memory}
use Rattle.dali_bus.specs.Hears.{up}
use Rattle.dali_journal.specs.declared.record.Code.TheVariants.{Done, Short, Format, Silent, Doubt, DoubtOpen}
use Rattle.dali_journal.specs.declared.record.Record.TheVariants.{Began, Opened, Ended, Closed}
use Rattle.dali_trace.specs.declared.happening.Reply.TheVariants as replies
use Rattle.dali_trace.specs.declared.happening.Happening.{Happening}
use Rattle.dali_trace.specs.declared.happening.Happening.TheVariants.{Asked, Answered, Sent, Kept, Stopped}
use Rattle.dali_trace.specs.Trace.{Start}
use Rattle.dali_trace.specs.Legal.{Legal}
use Rattle.dali_trace.specs.Moments.{Along}
use Rattle.dali_write.specs.declared.pace.Pace.TheVariants.{Checked}

-- four frames more, by which the unit is made sure to have selected the location of bank 1
abbrev pub select_at : ℕ → ℕ → List Happening → List Happening
select_at unit location past =
    Sent (AskDtr0 unit) (Some location) ∷ Sent (Dtr0 location) None ∷ Sent (AskDtr1 unit) (Some 1) ∷ Sent (Dtr1 1) None
    ∷ past

-- a checked read more, answered by the byte
abbrev pub read_at : ℕ → ℕ → ℕ → List Happening → List Happening
read_at unit location byte past =
    Sent (AskDtr1 unit) (Some 1) ∷ Sent (AskDtr0 unit) (Some (up location)) ∷ Sent (Read unit) (Some byte)
    ∷ select_at unit location past

-- two frames more that enable the unit
abbrev pub enable_twice : ℕ → List Happening → List Happening
enable_twice unit past = Sent (Enable unit) None ∷ Sent (Enable unit) None ∷ past

-- a checked write more, answered
abbrev pub write_at : ℕ → ℕ → ℕ → List Happening → List Happening
write_at unit location byte past = Sent (Write byte) (Some byte) ∷ select_at unit location (enable_twice unit past)

-- a try that misses at its first query
abbrev pub read_try : List Happening → List Happening
read_try past = Sent (AskDtr1 5) None ∷ Sent (Dtr1 1) None ∷ past

-- one after the other, the first update first
abbrev pub reads_of : ℕ → List (ℕ × ℕ) → List Happening → List Happening
reads_of unit [] past = past
reads_of unit (update ∷ updates) past = reads_of unit updates (read_at unit update.0 update.1 past)

abbrev pub write_all : ℕ → List (ℕ × ℕ) → List Happening → List Happening
write_all unit [] past = past
write_all unit (update ∷ updates) past = write_all unit updates (write_at unit update.0 update.1 past)

-- order 1 for unit 5 with the GTIN 4006381333931
abbrev pub first_order : Contents
first_order =
    record { id = 1; unit = 5; updates = (3, 0x03) ∷ (4, 0xA4) ∷ (5, 0xCE) ∷ (6, 0xEF) ∷ (7, 0xAD) ∷ (8, 0xAB) ∷ [] }

-- an empty journal of at most ten orders
abbrev pub empty : Start
empty = record { records = []; limit = 10; pace = Checked }

-- the trace, piece by piece
abbrev pub asked : List Happening
asked = Asked first_order 7 ∷ []

abbrev pub taken : List Happening
taken = Answered 1 replies.Taken ∷ asked

abbrev pub begun : List Happening
begun = Kept (Began first_order 7) ∷ taken

abbrev pub measured : List Happening
measured = read_at 5 0x00 0x77 begun

abbrev pub opened : List Happening
opened = Kept (Opened 5) ∷ measured

abbrev pub unlocked : List Happening
unlocked = write_at 5 0x02 0x55 opened

abbrev pub all_written : List Happening
all_written = write_all 5 first_order.updates unlocked

abbrev pub locked : List Happening
locked = write_at 5 0x02 0xFF all_written

abbrev pub lock_read : List Happening
lock_read = read_at 5 0x02 0xFF locked

abbrev pub all_read_back : List Happening
all_read_back = reads_of 5 first_order.updates lock_read

abbrev pub ended : List Happening
ended = Kept (Ended Done) ∷ all_read_back

abbrev pub said : List Happening
said = Answered 1 (replies.Kept Done) ∷ ended

-- with the order sent again
abbrev pub first_carried_out : List Happening
first_carried_out = Answered 1 (replies.Kept Done) ∷ Asked first_order 12 ∷ said

-- A blank unit at address 5, alone, and what becomes of it

-- its memory: bank 1 alone
abbrev pub blank : Memory
blank bank location =
    if bank == 1
    then (if location == 0x00
    then Some 0x77
    else (if location == 0x11
    then Some 0x00
    else (if location == 0x12 then Some 0x03 else (if nat_le location 0x77 then Some 0xFF else None))))
    else None

abbrev pub blank_unit : Gear
blank_unit = record { dtr0 = 0; dtr1 = 0; dtr2 = 0; enabled = false; memory = blank }

-- this unit alone, at address 5
abbrev pub alone : Gear → World
alone gear address = if address == 5 then Some gear else None

-- It goes along the first_carried_out trace with some worlds in between. Then DTR0 is 09h, DTR1 01h, the unit isn't
-- enabled, the lock byte is FFh, the order's bytes are there, and the byte after them is as it was.
abbrev pub GoesAlong : Type 0
GoesAlong =
    (last : Gear) × (states : List World)
    × Legal empty first_carried_out
    × Along (alone blank_unit) [] empty (alone blank_unit) first_carried_out (alone last) states
    × ((last.dtr0 ≡ 0x09) × (last.dtr1 ≡ 0x01) × (last.enabled ≡ false))
    × ((last.memory 1 0x02 ≡ Some 0xFF) × (last.memory 1 0x03 ≡ Some 0x03) × (last.memory 1 0x04 ≡ Some 0xA4)
    × (last.memory 1 0x05 ≡ Some 0xCE)
    × (last.memory 1 0x06 ≡ Some 0xEF) × (last.memory 1 0x07 ≡ Some 0xAD) × (last.memory 1 0x08 ≡ Some 0xAB)
    × (last.memory 1 0x09 ≡ Some 0xFF))

-- Happenings that may not come

-- a write, before the location is set and asked back
abbrev pub unguarded : List Happening
unguarded = Sent (Write 0x55) (Some 0x55) ∷ enable_twice 5 opened

-- the same if DTR0 was set and asked back, but not DTR1
abbrev pub bank_not_asked : List Happening
bank_not_asked =
    Sent (Write 0x55) (Some 0x55) ∷ Sent (AskDtr0 5) (Some 2) ∷ Sent (Dtr0 2) None ∷ Sent (Dtr1 1) None
    ∷ enable_twice 5 opened

-- the first update written where DTR0 has moved on after the write of the lock byte, and both were asked back
abbrev pub moved_on : List Happening
moved_on = Sent (AskDtr0 5) (Some 3) ∷ Sent (AskDtr1 5) (Some 1) ∷ unlocked

abbrev pub written_on : List Happening
written_on = Sent (Write 0x03) (Some 0x03) ∷ moved_on

-- the third update written if DTR0 was set before both were asked back
abbrev pub jumped_on : List Happening
jumped_on =
    Sent (Write 0xCE) (Some 0xCE) ∷ Sent (AskDtr0 5) (Some 5) ∷ Sent (AskDtr1 5) (Some 1)
    ∷ Sent (Dtr0 5) None ∷ unlocked

-- and if it was set between the two questions, while DTR1 wasn't set before them
abbrev pub set_between : List Happening
set_between =
    Sent (Write 0xCE) (Some 0xCE) ∷ Sent (AskDtr0 5) (Some 5) ∷ Sent (Dtr0 5) None
    ∷ Sent (AskDtr1 5) (Some 1) ∷ unlocked

-- the unit enabled between the two questions: it may have lost its power before, and then have bank 0 selected
abbrev pub enabled_between : List Happening
enabled_between =
    Sent (Write 0x55) (Some 0x55) ∷ Sent (AskDtr0 5) (Some 2)
    ∷ enable_twice 5 (Sent (AskDtr1 5) (Some 1) ∷ Sent (Dtr1 1) None ∷ opened)

-- a write once more after its answer was lost, with DTR0 not asked back
abbrev pub written_twice : List Happening
written_twice =
    Sent (Write 0x55) (Some 0x55) ∷ Sent (Write 0x55) None ∷ select_at 5 0x02 (enable_twice 5 opened)

-- a byte that is no update of the order
abbrev pub another_byte : List Happening
another_byte = Sent (Write 0x04) (Some 0x04) ∷ select_at 5 0x03 unlocked

-- a frame when no order is at work
abbrev pub idle_frame : List Happening
idle_frame = Sent (Dtr1 1) None ∷ said

-- a frame to another unit, before and after Opened
abbrev pub frame_to_another_unit : List Happening
frame_to_another_unit = Sent (AskDtr1 6) (Some 1) ∷ begun

abbrev pub frame_to_another_unit_once_opened : List Happening
frame_to_another_unit_once_opened = Sent (AskDtr1 6) (Some 1) ∷ opened

-- another byte than 55h and FFh to the lock byte
abbrev pub another_lock_byte : List Happening
another_lock_byte = Sent (Write 0xAA) (Some 0xAA) ∷ select_at 5 0x02 (enable_twice 5 opened)

-- a unit enabled before it is opened
abbrev pub enabled_before_opened : List Happening
enabled_before_opened = Sent (Enable 5) None ∷ measured

-- opened with the length not read
abbrev pub opened_unread : List Happening
opened_unread = Kept (Opened 5) ∷ begun

-- Short by a byte that was read, with DTR1 not asked back after it
abbrev pub short_after_six_frames : List Happening
short_after_six_frames =
    Kept (Ended Short) ∷ Sent (AskDtr0 5) (Some 0x01) ∷ Sent (Read 5) (Some 0x02) ∷ select_at 5 0x00 begun

-- Done by the answers to the writes, with nothing read back
abbrev pub done_unread : List Happening
done_unread = Kept (Ended Done) ∷ locked

-- Done with the updates read back, but not the lock byte
abbrev pub done_with_the_lock_unread : List Happening
done_with_the_lock_unread = Kept (Ended Done) ∷ reads_of 5 first_order.updates locked

-- the order begun once more
abbrev pub begun_twice : List Happening
begun_twice = Kept (Began first_order 7) ∷ first_carried_out

-- a reply that isn't due, and one for another number
abbrev pub busy_at_once : List Happening
busy_at_once = Answered 1 replies.Busy ∷ asked

abbrev pub reply_to_another : List Happening
reply_to_another = Answered 2 replies.Taken ∷ asked

-- how it ended, said before the record is kept
abbrev pub said_before_ended : List Happening
said_before_ended = Answered 1 (replies.Kept Done) ∷ all_read_back

-- another number or another code than the record has
abbrev pub another_number_said : List Happening
another_number_said = Answered 2 (replies.Kept Done) ∷ ended

abbrev pub another_code_said : List Happening
another_code_said = Answered 1 (replies.Kept Short) ∷ ended

-- blocked, with no unit left open
abbrev pub blocked_by_no_unit : List Happening
blocked_by_no_unit = Answered 1 (replies.Blocked 5) ∷ taken

-- a write without an answer
abbrev pub silent_write : List Happening
silent_write = Sent (WriteSilent 0x55) None ∷ select_at 5 0x02 (enable_twice 5 opened)

-- The other replies

-- order 2 for unit 6, with the same updates
abbrev pub second_order : Contents
second_order = record { id = 2; unit = 6; updates = first_order.updates }

-- order 1 again, for another unit
abbrev pub first_elsewhere : Contents
first_elsewhere = record { id = 1; unit = 6; updates = first_order.updates }

-- each of them when it is due
abbrev pub busy_while_at_work : List Happening
busy_while_at_work = Answered 2 replies.Busy ∷ Asked second_order 9 ∷ begun

abbrev pub number_used_again : List Happening
number_used_again = Answered 1 replies.IdReused ∷ Asked first_elsewhere 8 ∷ said

-- a journal that may hold one order, and holds one
abbrev pub one_of_one : Start
one_of_one = record { records = Ended DoubtOpen ∷ Opened 5 ∷ Began first_order 7 ∷ []; limit = 1; pace = Checked }

-- the same if it is done
abbrev pub one_done_of_one : Start
one_done_of_one = record { records = Ended Done ∷ Opened 5 ∷ Began first_order 7 ∷ []; limit = 1; pace = Checked }

abbrev pub full : List Happening
full = Answered 2 replies.Full ∷ Asked second_order 9 ∷ []

-- The other ends of an order

-- too short, silent, in doubt, and in doubt with its unit left
abbrev pub short_ended : List Happening
short_ended = Kept (Ended Short) ∷ read_at 5 0x00 0x07 begun

abbrev pub silent_ended : List Happening
silent_ended = Kept (Ended Silent) ∷ begun

abbrev pub doubt_ended : List Happening
doubt_ended = Kept (Ended Doubt) ∷ read_at 5 0x02 0xFF opened

abbrev pub left_said : List Happening
left_said = Answered 1 (replies.Kept DoubtOpen) ∷ Kept (Ended DoubtOpen) ∷ read_at 5 0x02 0xFF opened

-- order 3 for the year of unit 5, which has another content format
abbrev pub third_order : Contents
third_order = record { id = 3; unit = 5; updates = (0x13, 24) ∷ [] }

abbrev pub third_begun : List Happening
third_begun = Kept (Began third_order 11) ∷ Answered 3 replies.Taken ∷ Asked third_order 11 ∷ []

abbrev pub format_ended : List Happening
format_ended = Kept (Ended Format) ∷ read_at 5 0x12 0x04 (read_at 5 0x11 0x00 (read_at 5 0x00 0x77 third_begun))

-- a try that missed, and the next one
abbrev pub tried_again : List Happening
tried_again = write_at 5 0x02 0x55 (read_try (enable_twice 5 opened))

-- Stops

-- an order that was opened, taken for Silent after a stop
abbrev pub silent_once_opened : List Happening
silent_once_opened = Kept (Ended Silent) ∷ Stopped Checked ∷ opened

-- before Opened is kept: the unit is read again
abbrev pub opened_anew : List Happening
opened_anew = Kept (Opened 5) ∷ read_at 5 0x00 0x77 (Stopped Checked ∷ measured)

-- after the unlock: all is all_written again
abbrev pub written_anew : List Happening
written_anew = write_at 5 0x02 0xFF
    (write_all 5 first_order.updates (write_at 5 0x02 0x55 (Stopped Checked ∷ unlocked)))

abbrev pub done_anew : List Happening
done_anew =
    Answered 1 (replies.Kept Done) ∷ Kept (Ended Done)
    ∷ reads_of 5 first_order.updates (read_at 5 0x02 0xFF written_anew)

-- before Done is said: nothing is said any more, the order's repeat is answered, and another order is taken
abbrev pub repeated_after_a_stop : List Happening
repeated_after_a_stop = Answered 1 (replies.Kept Done) ∷ Asked first_order 7 ∷ Stopped Checked ∷ ended

abbrev pub taken_after_a_stop : List Happening
taken_after_a_stop = Answered 2 replies.Taken ∷ Asked second_order 9 ∷ Stopped Checked ∷ ended

-- what may not happen after them: Opened by the read from before the stop, a write by the frames from before it, a
-- saying
abbrev pub opened_after_a_stop : List Happening
opened_after_a_stop = Kept (Opened 5) ∷ Stopped Checked ∷ measured

abbrev pub written_after_a_stop : List Happening
written_after_a_stop = Sent (Write 0x55) (Some 0x55) ∷ Stopped Checked ∷ select_at 5 0x02 (enable_twice 5 opened)

abbrev pub said_after_a_stop : List Happening
said_after_a_stop = Answered 1 (replies.Kept Done) ∷ Stopped Checked ∷ ended

-- A second order that finds unit 5 left open

-- the first order ended with its unit left open
abbrev pub left_open : Start
left_open = record { records = Ended DoubtOpen ∷ Opened 5 ∷ Began first_order 7 ∷ []; limit = 10; pace = Checked }

abbrev pub second_taken : List Happening
second_taken = Answered 2 replies.Taken ∷ Asked second_order 9 ∷ []

-- no answer comes in eight tries to lock the unit, nor in eight to read it
abbrev pub lock_try : List Happening → List Happening
lock_try past = read_try (enable_twice 5 past)

abbrev pub eight_times : (List Happening → List Happening) → List Happening → List Happening
eight_times try past = try (try (try (try (try (try (try (try past)))))))

abbrev pub unreached : List Happening
unreached = eight_times read_try (eight_times lock_try second_taken)

-- so the second order is blocked
abbrev pub blocked : List Happening
blocked = Answered 2 (replies.Blocked 5) ∷ unreached

-- it is sent again, the unit answers and is closed, and it begins
abbrev pub taken_again : List Happening
taken_again = Answered 2 replies.Taken ∷ Asked second_order 9 ∷ blocked

abbrev pub second_begun : List Happening
second_begun = Kept (Began second_order 9) ∷ Kept (Closed 5) ∷ read_at 5 0x02 0xFF (write_at 5 0x02 0xFF taken_again)

-- and what may not happen there: begun while the unit is left, closed with no read, blocked after a read
abbrev pub begun_while_left : List Happening
begun_while_left = Kept (Began second_order 9) ∷ second_taken

abbrev pub closed_unread : List Happening
closed_unread = Kept (Closed 5) ∷ write_at 5 0x02 0xFF second_taken

abbrev pub blocked_after_a_read : List Happening
blocked_after_a_read = Answered 2 (replies.Blocked 5) ∷ read_at 5 0x02 0xFF second_taken

-- blocked under another number, and a frame to another unit than the left one
abbrev pub blocked_under_another_number : List Happening
blocked_under_another_number = Answered 3 (replies.Blocked 5) ∷ unreached

abbrev pub frame_past_the_left_unit : List Happening
frame_past_the_left_unit = Sent (AskDtr1 6) (Some 1) ∷ second_taken

-- closed by a read from before the second order was taken
abbrev pub closed_by_an_old_read : List Happening
closed_by_an_old_read = Kept (Closed 5) ∷ Answered 2 replies.Taken ∷ Asked second_order 9 ∷ left_said

-- forgotten by a stop, and taken anew
abbrev pub taken_anew : List Happening
taken_anew = Answered 2 replies.Taken ∷ Asked second_order 9 ∷ Stopped Checked ∷ second_taken

-- a byte other than FFh to a left unit
abbrev pub left_unit_unlocked : List Happening
left_unit_unlocked = write_at 5 0x02 0x55 second_taken

-- forgotten by a stop
abbrev pub begun_after_a_stop : List Happening
begun_after_a_stop = Kept (Began first_order 7) ∷ Stopped Checked ∷ taken

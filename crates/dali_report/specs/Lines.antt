-- The lines of a report: each is a value of JSON in its shortest text, and says of which run it is: a command that
-- writes into the report.
use Rattle.std.specs.Prelude.{◌≡◌, ℕ, ◌^◌, ◌-◌, ◌++◌, Bool, true, false, List, [], ◌∷◌, Option, Some, None, codes, min}
use Rattle.std.specs.Prelude.{if◌then◌else◌, nat_le, ◌&&◌, not, ◌==◌}
use Rattle.std.specs.List.{flat_map}
use Rattle.serde_json.specs.Data.{Data, null, number, unsigned, string, object, member, no_members}
use Rattle.serde_json.specs.Written.{compact_text}
use Rattle.dali_frame.specs.declared.forward.Frame.{Frame}
use Rattle.dali_frame.specs.Frame.{frame_word}
use Rattle.dali_frame.specs.Hex.{byte_digits, word_digits}
use Rattle.dali_journal.specs.Spelling.{code_number, code_name}
use Rattle.dali_read.specs.declared.finding.Finding.{Finding}
use Rattle.dali_read.specs.declared.finding.Finding.TheVariants.{Same, Other, Short, Format}
use Rattle.dali_trace.specs.declared.happening.Reply.{Reply}
use Rattle.dali_trace.specs.declared.happening.Reply.TheVariants as replies
use Rattle.dali_trace.specs.Replies.{reply_text}
use Rattle.dali_trace.specs.declared.fault.DriveFault.{DriveFault}
use Rattle.dali_trace.specs.Faults.{drive_number, drive_name}
use Rattle.dali_drive.specs.Found.{Found}
use Rattle.dali_write.specs.declared.ask.Cause.{Cause}
use Rattle.dali_write.specs.declared.ask.Cause.TheVariants.{Unread, Unwritten, Another}
use Rattle.dali_report.specs.Differences.{Difference, AreDifferences, differences_data, held_bank, wanted_bank}
use Rattle.dali_report.specs.declared.line.LastReply.{LastReply}

-- the line of a value
abbrev pub line_of : Data → List ℕ
line_of value = compact_text value ++ codes "\n"

-- a number, or null
abbrev pub number_or_null : Option ℕ → Data
number_or_null None = null
number_or_null (Some value) = number (unsigned value)

-- ---- of an order at its last reply

-- why it ended badly, the location of that, and the byte that was read there
abbrev pub cause_of : List ℕ → ℕ → Data → Data
cause_of was location byte = object (
    member (codes "byte") byte
    (member (codes "location") (number (unsigned location)) (member (codes "was") (string was) no_members)))

abbrev pub cause_data : Option Cause → Data
cause_data None = null
cause_data (Some (Unread location)) = cause_of (codes "unread") location null
cause_data (Some (Unwritten location)) = cause_of (codes "unwritten") location null
cause_data (Some (Another location byte)) = cause_of (codes "other") location (number (unsigned byte))

-- whether an order's end was kept in this drive, or is known from the journal
abbrev pub ended_text : Bool → List ℕ
ended_text true = codes "now"
ended_text false = codes "before"

-- a count, given up to 2⁶⁴ - 1
abbrev pub counted : ℕ → ℕ
counted count = min count (2 ^ 64 - 1)

-- the members whose values depend on the reply
abbrev pub code_data : Reply → Data
code_data (replies.Kept code) = number (unsigned (code_number code))
code_data other = null

abbrev pub name_data : Reply → Data
name_data (replies.Kept code) = string (code_name code)
name_data other = null

abbrev pub ended_data : Reply → Bool → Data
ended_data (replies.Kept code) ended_now = string (ended_text ended_now)
ended_data other ended_now = null

abbrev pub last_data : LastReply → Data
last_data last = object (
    member (codes "cause") (cause_data last.cause)
    (member (codes "code") (code_data last.reply)
    (member (codes "ended") (ended_data last.reply last.ended_now)
    (member (codes "frames") (number (unsigned last.frames))
    (member (codes "misses") (number (unsigned last.misses))
    (member (codes "moment") (number_or_null last.moment)
    (member (codes "name") (name_data last.reply)
    (member (codes "order") (number (unsigned last.order))
    (member (codes "reply") (string (reply_text last.reply))
    (member (codes "run") (number (unsigned last.run))
    (member (codes "unit") (number_or_null last.unit) no_members)))))))))))

-- ---- of an answer that broke a drive off

-- a character from 20h to 7Eh except for the backslash is written as itself, each other byte as its two digits
abbrev pub is_plain : ℕ → Bool
is_plain byte = nat_le 0x20 byte && nat_le byte 0x7E && not (byte == 0x5C)

abbrev pub escaped_byte : ℕ → List ℕ
escaped_byte byte = if is_plain byte then byte ∷ [] else codes "\\x" ++ byte_digits byte

abbrev pub escaped : List ℕ → List ℕ
escaped bytes = flat_map escaped_byte bytes

-- the fault, the frame, and what was read of the answer, in this run of the report
abbrev pub end_data : ℕ → DriveFault → Frame → List ℕ → Data
end_data run fault frame text = object (
    member (codes "answer") (string (escaped text))
    (member (codes "fault") (number (unsigned (drive_number fault)))
    (member (codes "frame") (string (word_digits (frame_word frame)))
    (member (codes "name") (string (drive_name fault))
    (member (codes "run") (number (unsigned run)) no_members)))))

-- ---- of an order whose unit was read

abbrev pub found_text : Option Finding → List ℕ
found_text None = codes "silent"
found_text (Some Same) = codes "same"
found_text (Some (Other location byte)) = codes "other"
found_text (Some Short) = codes "short"
found_text (Some Format) = codes "format"

-- the first location that holds another byte, and that byte
abbrev pub location_data : Option Finding → Data
location_data (Some (Other location byte)) = number (unsigned location)
location_data other = null

abbrev pub byte_data : Option Finding → Data
byte_data (Some (Other location byte)) = number (unsigned byte)
byte_data other = null

abbrev pub found_data : ℕ → Found → List Difference → Data
found_data run found differences = object (
    member (codes "byte") (byte_data found.finding)
    (member (codes "differs") (differences_data differences)
    (member (codes "found") (string (found_text found.finding))
    (member (codes "location") (location_data found.finding)
    (member (codes "order") (number (unsigned found.order.id))
    (member (codes "run") (number (unsigned run))
    (member (codes "unit") (number (unsigned found.order.unit)) no_members)))))))

-- the line of what was found in this run, with the fields in which the unit differs
abbrev pub IsFoundLine : ℕ → Found → List ℕ → Type 0
IsFoundLine run found line =
    (differences : List Difference)
    × AreDifferences (held_bank found.order found.bytes) (wanted_bank found.order) differences
    × (line ≡ line_of (found_data run found differences))

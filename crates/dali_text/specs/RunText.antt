-- How a run is printed.
use Rattle.std.specs.Prelude.{ℕ, ◌+◌, ◌==◌, Bool, true, false, List, [], ◌∷◌, ◌++◌, Option, Some, None, codes, count_by}
use Rattle.std.specs.Prelude.{decimal, if◌then◌else◌}
use Rattle.std.specs.List.{flat_map}
use Rattle.dali_frame.specs.Frame.{frame_word}
use Rattle.dali_frame.specs.Hex.{byte_digits, word_digits}
use Rattle.dali_gear.specs.UnitState.{UnitState}
use Rattle.dali_trace.specs.declared.happening.Happening.{Happening}
use Rattle.dali_trace.specs.declared.happening.Happening.TheVariants.{Asked, Answered, Sent, Kept, Stopped, Powered}
use Rattle.dali_trace.specs.Replies.{reply_line}
use Rattle.dali_text.specs.RecordText.{record_text}
use Rattle.dali_text.specs.UnitLines.{unit_text}

-- ---- a happening

-- an answer, or that none came
abbrev pub answer_text : Option ℕ → List ℕ
answer_text None = codes "--"
answer_text (Some byte) = byte_digits byte

-- a happening by itself
abbrev pub happening_line : Happening → List ℕ
happening_line (Asked order moment) = codes "ask " ++ decimal order.id ++ codes "\n"
happening_line (Answered id reply) = reply_line id reply
happening_line (Sent frame answer) =
    codes "send " ++ word_digits (frame_word frame) ++ codes " " ++ answer_text answer ++ codes "\n"
happening_line (Kept entry) = codes "keep " ++ record_text entry ++ codes "\n"
happening_line (Stopped pace) = codes "stop\n"
happening_line (Powered address) = codes "power " ++ decimal address ++ codes "\n"

-- ---- a trace, the oldest happening first

abbrev pub is_sent : Happening → Bool
is_sent (Sent frame answer) = true
is_sent other = false

-- how many sent frames in a row a trace begins with
abbrev pub frames_ahead : List Happening → ℕ
frames_ahead [] = 0
frames_ahead (Sent frame answer ∷ rest) = frames_ahead rest + 1
frames_ahead (other ∷ rest) = 0

abbrev pub frames_line : ℕ → List ℕ
frames_line count = codes "frames " ++ decimal count ++ codes "\n"

-- this many frames, or nothing if there are none
abbrev pub run_line : ℕ → List ℕ
run_line count = if count == 0 then [] else frames_line count

-- the lines of a trace, by whether the happening just before it was a sent frame: a run of frames is printed where it
-- begins, and the others of it add nothing
abbrev pub summary : Bool → List Happening → List ℕ
summary in_run [] = []
summary true (Sent frame answer ∷ rest) = summary true rest
summary false (Sent frame answer ∷ rest) = frames_line (frames_ahead (Sent frame answer ∷ rest)) ++ summary true rest
summary in_run (other ∷ rest) = happening_line other ++ summary false rest

-- a trace with a line for each frame, or with one for each run of frames
abbrev pub trace_text : Bool → List Happening → List ℕ
trace_text true trace = flat_map happening_line trace
trace_text false trace = summary false trace

-- all sent frames, answered or not
abbrev pub total : List Happening → ℕ
total trace = count_by is_sent trace

-- ---- the whole

-- a trace, how many bytes the journal has, and the units
abbrev pub run_text : Bool → List Happening → ℕ → List UnitState → List ℕ
run_text single_frames trace journal units = trace_text single_frames trace
    ++ codes "total " ++ decimal (total trace) ++ codes "\n"
    ++ codes "journal " ++ decimal journal ++ codes "\n" ++ flat_map unit_text units

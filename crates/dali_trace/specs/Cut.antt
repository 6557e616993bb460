-- A trace cut once: what it tells since the newest happening at which a look back ends. A trace is a list of
-- happenings, the newest first.
use Rattle.std.specs.Prelude.{Bool, true, false, List, [], ◌∷◌, if◌then◌else◌}
use Rattle.dali_journal.specs.declared.record.Record.{Record}
use Rattle.dali_write.specs.Exchanges.{Exchange}
use Rattle.dali_trace.specs.declared.happening.Reply.TheVariants as replies
use Rattle.dali_trace.specs.declared.happening.Happening.{Happening}
use Rattle.dali_trace.specs.declared.happening.Happening.TheVariants.{Answered, Sent, Kept, Stopped}

-- the happenings since the newest at which the look back ends
abbrev pub since : (Happening → Bool) → List Happening → List Happening
since ends [] = []
since ends (next ∷ past) = if ends next then [] else next ∷ since ends past

-- and those from it on
abbrev pub up_to : (Happening → Bool) → List Happening → List Happening
up_to ends [] = []
up_to ends (next ∷ past) = if ends next then next ∷ past else up_to ends past

-- where a look back ends: at a stop; at a start of an order, which is a stop or where an order is taken; at a turn,
-- which is a start or where a record is kept
abbrev pub is_stop : Happening → Bool
is_stop (Stopped pace) = true
is_stop other = false

abbrev pub is_start : Happening → Bool
is_start (Answered id replies.Taken) = true
is_start other = is_stop other

abbrev pub is_turn : Happening → Bool
is_turn (Kept entry) = true
is_turn other = is_start other

-- the frames among them, with what came back
abbrev pub frames_in : List Happening → List Exchange
frames_in [] = []
frames_in (Sent frame answer ∷ past) = record { frame = frame; answer = answer } ∷ frames_in past
frames_in (other ∷ past) = frames_in past

-- the records among them
abbrev pub kept_in : List Happening → List Record
kept_in [] = []
kept_in (Kept entry ∷ past) = entry ∷ kept_in past
kept_in (other ∷ past) = kept_in past

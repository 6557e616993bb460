-- A small trace with a happening of each kind, cut at a stop, at a start and at a turn.
use Rattle.std.proofs.Common.{◌≡◌, refl, ap, Bool, true, false, List, [], ◌∷◌, ◌++◌, if◌then◌else◌, None, Some}
use Rattle.dali_frame.specs.declared.forward.Frame.TheVariants.{Dtr0, AskDtr0}
use Rattle.dali_journal.specs.declared.record.Record.TheVariants.{Closed}
use Rattle.dali_trace.specs.declared.happening.Reply.TheVariants as replies
use Rattle.dali_trace.specs.declared.happening.Happening.{Happening}
use Rattle.dali_trace.specs.declared.happening.Happening.TheVariants.{Asked, Answered, Sent, Kept, Stopped, Powered}
use Rattle.dali_trace.specs.Cut.{since, up_to, is_stop, is_start, is_turn, frames_in, kept_in}
use Rattle.dali_trace.specs.Worked.{first_order}
use Rattle.dali_write.specs.declared.pace.Pace.TheVariants.{Checked}

-- the two parts are the trace
pub parts_joined : (ends : Happening → Bool) (past : List Happening) → since ends past ++ up_to ends past ≡ past
parts_joined ends [] = refl
parts_joined ends (next ∷ past) = by (ends next) (parts_joined ends past)
  where
    by : (b : Bool) → since ends past ++ up_to ends past ≡ past
        → (if b then [] else next ∷ since ends past) ++ (if b then next ∷ past else up_to ends past) ≡ next ∷ past
    by true rest = refl
    by false rest = ap (λ (t : List Happening). next ∷ t) rest

-- a refused order and a loss of power are passed by
abbrev passed_by : List Happening
passed_by = Powered 5 ∷ Answered 1 replies.Busy ∷ Asked first_order 7 ∷ Sent (Dtr0 3) None ∷ []

abbrev record_before : List Happening
record_before = Kept (Closed 5) ∷ Sent (AskDtr0 5) (Some 3) ∷ Asked first_order 7 ∷ []

abbrev taken_before : List Happening
taken_before = Answered 1 replies.Taken ∷ Asked first_order 7 ∷ Sent (AskDtr0 6) (Some 3) ∷ []

abbrev stop_before : List Happening
stop_before = Stopped Checked ∷ Sent (AskDtr0 7) (Some 3) ∷ []

abbrev whole : List Happening
whole = passed_by ++ record_before ++ taken_before ++ stop_before

pub since_a_turn : since is_turn whole ≡ passed_by
since_a_turn = refl

pub since_a_start : since is_start whole ≡ passed_by ++ record_before
since_a_start = refl

pub since_a_stop : since is_stop whole ≡ passed_by ++ record_before ++ taken_before
since_a_stop = refl

pub a_start_at_a_stop : since is_start (passed_by ++ record_before ++ stop_before) ≡ passed_by ++ record_before
a_start_at_a_stop = refl

pub a_turn_at_a_start : since is_turn (passed_by ++ taken_before) ≡ passed_by
a_turn_at_a_start = refl

pub up_to_a_start : up_to is_start whole ≡ taken_before ++ stop_before
up_to_a_start = refl

-- if there is no end, all is since
pub since_the_first : since is_turn passed_by ≡ passed_by
since_the_first = refl

pub up_to_none : up_to is_turn passed_by ≡ []
up_to_none = refl

-- frames and records, each among all else
pub frames_among : frames_in (passed_by ++ record_before)
    ≡ record { frame = Dtr0 3; answer = None } ∷ record { frame = AskDtr0 5; answer = Some 3 } ∷ []
frames_among = refl

pub records_among : kept_in whole ≡ Closed 5 ∷ []
records_among = refl

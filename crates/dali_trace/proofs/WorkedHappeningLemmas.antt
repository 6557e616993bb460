-- The happenings that a part of a trace has and hasn't, those that are the same except for their answer, and how
-- replies are numbered and reported.
use Rattle.std.proofs.Common.{◌≡◌, refl, ap, ℕ, List, [], ◌∷◌, Some, None, codes, arith}
use Rattle.std.proofs.lemmas.Fmt.{decimal_digit}
use Rattle.dali_frame.specs.declared.forward.Frame.TheVariants.{Dtr0, Read}
use Rattle.dali_journal.specs.declared.record.Code.TheVariants.{Done, DoubtOpen}
use Rattle.dali_journal.specs.declared.record.Record.TheVariants.{Opened, Closed}
use Rattle.dali_trace.specs.declared.happening.Reply.TheVariants as replies
use Rattle.dali_trace.specs.declared.happening.Happening.{Happening}
use Rattle.dali_trace.specs.declared.happening.Happening.TheVariants.{Asked, Answered, Sent, Kept, Stopped, Powered}
use Rattle.dali_trace.specs.Quiet.{NoneTaken, NoneSent}
use Rattle.dali_trace.specs.Next.{IsSameBut}
use Rattle.dali_trace.specs.Replies.{reply_number, reply_text}
use Rattle.dali_trace.specs.Worked.{first_order, begun}
use Rattle.dali_write.specs.declared.pace.Pace.TheVariants.{Checked}

-- Frames

abbrev one_frame : List Happening
one_frame = Sent (Dtr0 3) None ∷ []

-- none is sent where all else happens
pub none_sent : NoneSent (Powered 5 ∷ Kept (Closed 5) ∷ Stopped Checked ∷ begun)
none_sent = refl

pub not_none_sent : NoneSent one_frame → ⊥
not_none_sent none = cc

pub not_none_sent_with_an_answer : NoneSent (Sent (Read 5) (Some 7) ∷ []) → ⊥
not_none_sent_with_an_answer none = cc

-- after each other happening, the frame still counts as sent
pub sent_behind_a_record : NoneSent (Kept (Opened 5) ∷ one_frame) → ⊥
sent_behind_a_record none = cc

pub sent_behind_a_stop : NoneSent (Stopped Checked ∷ one_frame) → ⊥
sent_behind_a_stop none = cc

pub sent_behind_a_loss_of_power : NoneSent (Powered 5 ∷ one_frame) → ⊥
sent_behind_a_loss_of_power none = cc

pub sent_behind_a_refused_order : NoneSent (Answered 1 replies.Busy ∷ Asked first_order 7 ∷ one_frame) → ⊥
sent_behind_a_refused_order none = cc

-- Orders

-- each other reply takes none, nor does an order that isn't answered yet, a frame, a record, a stop or a loss of power
pub none_taken_by_a_refused_order : NoneTaken (Answered 1 replies.Busy ∷ Asked first_order 7 ∷ [])
none_taken_by_a_refused_order = tt

pub none_taken_by_another_reply : NoneTaken
    (Answered 1 (replies.Kept Done) ∷ Answered 1 replies.IdReused ∷ Answered 1 replies.Full
    ∷ Answered 1 (replies.Blocked 5) ∷ [])
none_taken_by_another_reply = tt

pub none_taken_by_an_unanswered_order : NoneTaken (Asked first_order 7 ∷ [])
none_taken_by_an_unanswered_order = tt

pub none_taken_by_a_stop : NoneTaken (Stopped Checked ∷ [])
none_taken_by_a_stop = tt

pub none_taken_by_all_else : NoneTaken (Powered 5 ∷ Kept (Closed 5) ∷ one_frame)
none_taken_by_all_else = tt

pub not_none_taken : NoneTaken (Answered 1 replies.Taken ∷ []) → ⊥
not_none_taken none = none

pub taken_behind_a_stop : NoneTaken (Stopped Checked ∷ begun) → ⊥
taken_behind_a_stop none = none

pub taken_behind_a_refused_order : NoneTaken (Answered 1 replies.Busy ∷ Asked first_order 7 ∷ begun) → ⊥
taken_behind_a_refused_order none = none

-- The same except for an answer

pub same_with_another_answer : IsSameBut (Sent (Read 5) (Some 7)) (Sent (Read 5) None)
same_with_another_answer = (None, refl)

pub same_record : IsSameBut (Kept (Opened 5)) (Kept (Opened 5))
same_record = refl

-- the byte that a frame sets in DTR0
abbrev dtr0_of : Happening → ℕ
dtr0_of (Sent (Dtr0 byte) answer) = byte
dtr0_of other = 0x100

pub not_another_frame : IsSameBut (Sent (Dtr0 3) None) (Sent (Dtr0 4) None) → ⊥
not_another_frame same = omega (arith, ap dtr0_of same.1)

abbrev opened_of : Happening → ℕ
opened_of (Kept (Opened unit)) = unit
opened_of other = 0x100

pub not_another_record : IsSameBut (Kept (Opened 5)) (Kept (Opened 6)) → ⊥
not_another_record same = omega (arith, ap opened_of same)

abbrev number_of : Happening → ℕ
number_of (Answered id reply) = id
number_of other = 0

pub not_another_saying : IsSameBut (Answered 1 replies.Taken) (Answered 2 replies.Taken) → ⊥
not_another_saying same = omega (arith, ap number_of same)

pub not_a_frame_for_a_record : IsSameBut (Kept (Opened 5)) (Sent (Dtr0 3) None) → ⊥
not_a_frame_for_a_record same = omega (arith, ap opened_of same)

-- The numbers of replies

pub numbered : (reply_number (replies.Kept Done) ≡ 1) × (reply_number replies.IdReused ≡ 2)
    × (reply_number replies.Busy ≡ 3) × (reply_number replies.Full ≡ 4) × (reply_number replies.Taken ≡ 5)
    × (reply_number (replies.Blocked 5) ≡ 6)
numbered = (refl, refl, refl, refl, refl, refl)

-- Replies as bytes

pub taken_told : reply_text replies.Taken ≡ 116 ∷ 97 ∷ 107 ∷ 101 ∷ 110 ∷ []
taken_told = refl

pub kept_told : reply_text (replies.Kept Done) ≡ codes "kept 0 Done"
kept_told = rw (decimal_digit 0 (omega arith)) refl

pub kept_in_doubt_told : reply_text (replies.Kept DoubtOpen) ≡ codes "kept 5 DoubtOpen"
kept_in_doubt_told = rw (decimal_digit 5 (omega arith)) refl

pub reused_told : reply_text replies.IdReused ≡ 114 ∷ 101 ∷ 117 ∷ 115 ∷ 101 ∷ 100 ∷ []
reused_told = refl

pub busy_told : reply_text replies.Busy ≡ 98 ∷ 117 ∷ 115 ∷ 121 ∷ []
busy_told = refl

pub full_told : reply_text replies.Full ≡ 102 ∷ 117 ∷ 108 ∷ 108 ∷ []
full_told = refl

pub blocked_told : reply_text (replies.Blocked 5) ≡ codes "blocked 5"
blocked_told = rw (decimal_digit 5 (omega arith)) refl

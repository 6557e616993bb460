-- The reply that is due to an order: the first of Kept, IdReused, Busy, Full and Taken that applies. And how a reply is
-- reported.
use Rattle.std.specs.Prelude.{◌≡◌, ◌≢◌, ◌++◌, ℕ, Bool, true, false, List, codes, decimal, ⊤}
use Rattle.dali_bank.specs.Order.{Contents}
use Rattle.dali_journal.specs.declared.kept.Kept.{Kept}
use Rattle.dali_journal.specs.declared.kept.Kept.TheVariants as kepts
use Rattle.dali_journal.specs.Orders.{kept_of}
use Rattle.dali_journal.specs.Spelling.{code_number, code_name}
use Rattle.dali_trace.specs.declared.happening.Reply.{Reply}
use Rattle.dali_trace.specs.declared.happening.Reply.TheVariants as replies
use Rattle.dali_trace.specs.declared.happening.Happening.{Happening}
use Rattle.dali_trace.specs.Trace.{Start, records_of, is_busy, is_full}

-- the journal has the order's number for another order
abbrev pub IsReused : Contents → Kept → Type 0
IsReused order kepts.Absent = ⊥
IsReused order (kepts.Unfinished old) = old ≢ order
IsReused order (kepts.Ended old code) = old ≢ order

-- the journal doesn't have the order, or hasn't ended it
abbrev pub IsNotEnded : Contents → Kept → Type 0
IsNotEnded order kepts.Absent = ⊤
IsNotEnded order (kepts.Unfinished old) = old ≡ order
IsNotEnded order (kepts.Ended old code) = ⊥

-- the reply that is due to an order, by what the journal has under its number. Kept: it has ended so. IdReused: the
-- number is another order's. Else Busy, Full or Taken
abbrev pub IsReplyBy : Contents → Kept → Bool → Bool → Reply → Type 0
IsReplyBy order kept busy full (replies.Kept code) = kept ≡ kepts.Ended order code
IsReplyBy order kept busy full replies.IdReused = IsReused order kept
IsReplyBy order kept busy full replies.Busy = IsNotEnded order kept × (busy ≡ true)
IsReplyBy order kept busy full replies.Full = IsNotEnded order kept × (busy ≡ false) × (full ≡ true)
IsReplyBy order kept busy full replies.Taken = IsNotEnded order kept × (busy ≡ false) × (full ≡ false)
IsReplyBy order kept busy full (replies.Blocked unit) = ⊥

-- the reply that is due to an order at this moment
abbrev pub IsReply : Start → List Happening → Contents → Reply → Type 0
IsReply start past order reply =
    IsReplyBy order (kept_of order.id (records_of start past)) (is_busy start past) (is_full start past) reply

-- the reply that the journal has for an order, whatever else is at work
abbrev pub IsKnownReply : Contents → Kept → Reply → Type 0
IsKnownReply order kept (replies.Kept code) = kept ≡ kepts.Ended order code
IsKnownReply order kept replies.IdReused = IsReused order kept
IsKnownReply order kept _ = ⊥

-- the number of a reply
abbrev pub reply_number : Reply → ℕ
reply_number (replies.Kept code) = 1
reply_number replies.IdReused = 2
reply_number replies.Busy = 3
reply_number replies.Full = 4
reply_number replies.Taken = 5
reply_number (replies.Blocked unit) = 6

-- a reply, in what a program prints
abbrev pub reply_text : Reply → List ℕ
reply_text replies.Taken = codes "taken"
reply_text (replies.Kept code) = codes "kept " ++ decimal (code_number code) ++ codes " " ++ code_name code
reply_text replies.IdReused = codes "reused"
reply_text replies.Busy = codes "busy"
reply_text replies.Full = codes "full"
reply_text (replies.Blocked unit) = codes "blocked " ++ decimal unit

-- the line of a reply to the order of this number, or of a saying
abbrev pub reply_line : ℕ → Reply → List ℕ
reply_line id reply = codes "reply " ++ decimal id ++ codes " " ++ reply_text reply ++ codes "\n"

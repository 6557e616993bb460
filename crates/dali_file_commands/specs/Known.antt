-- A journal's answer about an order before it is driven, and which number is free for the next one. A journal's records
-- are listed newest first.
use Rattle.std.specs.Prelude.{◌≡◌, ◌≤◌, ◌<◌, ◌^◌, ◌||◌, ◌++◌, ℕ, Bool, true, false, nat_le, List, [], ◌∷◌, Option, Some, None}
use Rattle.std.specs.Prelude.{IsSomeAnd, codes, decimal, option_map}
use Rattle.std.specs.Borrow.{Bor}
use Rattle.dali_bank.specs.Order.{Contents}
use Rattle.dali_journal.specs.declared.kept.Kept.TheVariants as kepts
use Rattle.dali_journal.specs.declared.record.Code.{Code}
use Rattle.dali_journal.specs.declared.record.Code.TheVariants.{DoubtOpen}
use Rattle.dali_journal.specs.declared.record.Record.{Record}
use Rattle.dali_journal.specs.declared.record.Record.TheVariants as records
use Rattle.dali_journal.specs.JournalState.{JournalState, order_count}
use Rattle.dali_journal.specs.Orders.{kept_of}
use Rattle.dali_journal.specs.Sentence.{is_begun}
use Rattle.dali_trace.specs.declared.happening.Reply.{Reply}
use Rattle.dali_trace.specs.declared.happening.Reply.TheVariants as replies
use Rattle.dali_trace.specs.Replies.{IsReplyBy, reply_text}
use Rattle.dali_file_commands.specs.declared.known.Known.{Known}
use Rattle.dali_file_commands.specs.declared.known.Known.TheVariants.{Kept, Reused, Begun, New, Full}

-- the journal that is asked, if one is
abbrev pub asked : Option (Bor JournalState) → Option JournalState
asked journal = option_map (λ (those : Bor JournalState). those.now) journal

-- the reply that is due to the order from a writer that has this journal and is at work on nothing
abbrev pub IsDue : JournalState → Contents → Reply → Type 0
IsDue journal order reply =
    IsReplyBy order (kept_of order.id journal.records) false (nat_le journal.limit (order_count journal)) reply

-- a unit was closed after the order of this number began
abbrev pub is_closed_since : ℕ → List Record → Bool
is_closed_since id [] = false
is_closed_since id (records.Closed unit ∷ older) = is_begun id older || is_closed_since id older
is_closed_since id (other ∷ older) = is_closed_since id older

-- the order of this number ended so that its unit was left open, and was closed since
abbrev pub is_closed : Code → ℕ → List Record → Bool
is_closed DoubtOpen id records = is_closed_since id records
is_closed other id records = false

-- what the journal says of an order: the reply that is due to it, and of one that would be taken whether it was begun
abbrev pub IsKnown : JournalState → Contents → Known → Type 0
IsKnown journal order (Kept code closed) =
    IsDue journal order (replies.Kept code) × (closed ≡ is_closed code order.id journal.records)
IsKnown journal order Reused = IsDue journal order replies.IdReused
IsKnown journal order Begun = kept_of order.id journal.records ≡ kepts.Unfinished order
IsKnown journal order New =
    (kept_of order.id journal.records ≡ kepts.Absent) × IsDue journal order replies.Taken
IsKnown journal order Full =
    (kept_of order.id journal.records ≡ kepts.Absent) × IsDue journal order replies.Full

-- the same of the journal that is asked: nothing if none is
abbrev pub IsKnownTo : Option JournalState → Contents → Option Known → Type 0
IsKnownTo None order known = known ≡ None
IsKnownTo (Some journal) order known = IsSomeAnd known (IsKnown journal order)

-- the line for that
abbrev pub known_line : Known → List ℕ
known_line (Kept code false) = codes "known " ++ reply_text (replies.Kept code) ++ codes "\n"
known_line (Kept code true) = codes "known " ++ reply_text (replies.Kept code) ++ codes " closed\n"
known_line Reused = codes "known reused\n"
known_line Begun = codes "known begun\n"
known_line New = codes "new\n"
known_line Full = codes "full\n"

abbrev pub known_lines : Option Known → List ℕ
known_lines None = []
known_lines (Some known) = known_line known

-- each order that was begun has a number below this one
abbrev pub IsAbove : List Record → ℕ → Type 0
IsAbove records number = (id : ℕ) → is_begun id records ≡ true → id < number

-- the first such number
abbrev pub IsFirstAbove : List Record → ℕ → Type 0
IsFirstAbove records number = IsAbove records number × ((other : ℕ) → IsAbove records other → number ≤ other)

-- the first number above all that were begun, or none where an order can't have it
abbrev pub IsFree : List Record → Option ℕ → Type 0
IsFree records (Some number) = IsFirstAbove records number × (number < 2 ^ 64)
IsFree records None = IsFirstAbove records (2 ^ 64)

-- the line for that
abbrev pub free_line : Option ℕ → List ℕ
free_line None = codes "free none\n"
free_line (Some number) = codes "free " ++ decimal number ++ codes "\n"

-- the text of it if a journal is asked
abbrev pub IsFreeText : Option JournalState → List ℕ → Type 0
IsFreeText None text = text ≡ []
IsFreeText (Some journal) text = (free : Option ℕ) × IsFree journal.records free × (text ≡ free_line free)

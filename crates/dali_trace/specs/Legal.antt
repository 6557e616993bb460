-- Which traces are legal: each happening is judged by those before it.
use Rattle.std.specs.Prelude.{◌≡◌, ◌⊎◌, ℕ, true, List, [], ◌∷◌, Option, Some, None, IsSome, ⊤}
use Rattle.dali_frame.specs.declared.forward.Frame.{Frame}
use Rattle.dali_frame.specs.declared.forward.Frame.TheVariants.{Dtr0, Dtr1, Write, Enable, AskDtr0, AskDtr1, Read}
use Rattle.dali_bank.specs.Order.{Contents, update_at}
use Rattle.dali_journal.specs.declared.record.Code.{Code}
use Rattle.dali_journal.specs.declared.record.Record.{Record}
use Rattle.dali_journal.specs.declared.record.Record.TheVariants.{Began, Closed}
use Rattle.dali_journal.specs.declared.kept.Progress.{Progress}
use Rattle.dali_journal.specs.declared.kept.Progress.TheVariants as reached
use Rattle.dali_journal.specs.declared.standing.Standing.{Standing}
use Rattle.dali_journal.specs.declared.standing.Standing.TheVariants as standings
use Rattle.dali_journal.specs.Sentence.{named_unit, IsSentenceWithin}
use Rattle.dali_journal.specs.Orders.{orders_of}
use Rattle.dali_write.specs.Worlds.{Selects}
use Rattle.dali_write.specs.Reads.{StillRead, HasRead}
use Rattle.dali_trace.specs.declared.happening.Reply.{Reply}
use Rattle.dali_trace.specs.declared.happening.Reply.TheVariants as replies
use Rattle.dali_trace.specs.declared.happening.Happening.{Happening}
use Rattle.dali_trace.specs.declared.happening.Happening.TheVariants.{Asked, Answered, Sent, Kept}
use Rattle.dali_trace.specs.Trace.{Start, records_of, standing_at, sent_of, sent_since_taken, waiting}
use Rattle.dali_trace.specs.Trace.{waiting_since, has_ended}
use Rattle.dali_trace.specs.Replies.{IsReply}
use Rattle.dali_trace.specs.Grounds.{Grounds}

-- Frames

-- the unit that frames may be sent to: that of the order at work, or a left one while an order waits
abbrev pub Serves : List Happening → Standing → ℕ → Type 0
Serves past standings.Idle unit = ⊥
Serves past (standings.Began order) unit = unit ≡ order.unit
Serves past (standings.Opened order) unit = unit ≡ order.unit
Serves past (standings.Left left) unit = (unit ≡ left) × IsSome (waiting past)

-- the byte may be written to the location: an update of the opened order, or 55h or FFh to the lock byte, in a left
-- unit FFh alone
abbrev pub MayPut : Standing → ℕ → ℕ → Type 0
MayPut (standings.Opened order) location byte =
    (update_at order.updates location ≡ Some byte) ⊎ ((location ≡ 0x02) × ((byte ≡ 0x55) ⊎ (byte ≡ 0xFF)))
MayPut (standings.Left unit) location byte = (location ≡ 0x02) × (byte ≡ 0xFF)
MayPut other location byte = ⊥

-- a write is guarded: just before it the named unit told bank 1 and then the location, with nothing between the two
-- questions or in the four frames that select the location
pub record IsGuardedWrite (past : List Happening) (stands : Standing) (byte : ℕ) : Type 0 where
  pub unit : ℕ
  pub location : ℕ
  pub serves : Serves past stands unit
  pub is_named : named_unit stands ≡ Some unit
  pub may : MayPut stands location byte
  pub selected : Selects unit location (sent_of past)

-- the frame may be sent: DTR0 and DTR1, which every unit hears, while some unit is served
abbrev pub MaySend : List Happening → Standing → Frame → Type 0
MaySend past stands (Dtr0 byte) = (unit : ℕ) × Serves past stands unit
MaySend past stands (Dtr1 byte) = (unit : ℕ) × Serves past stands unit
MaySend past stands (AskDtr0 unit) = Serves past stands unit
MaySend past stands (AskDtr1 unit) = Serves past stands unit
MaySend past stands (Read unit) = Serves past stands unit
MaySend past stands (Enable unit) = Serves past stands unit × (named_unit stands ≡ Some unit)
MaySend past stands (Write byte) = IsGuardedWrite past stands byte
MaySend past stands other = ⊥

-- Records

-- an order is begun that waits, with the moment at which it was submitted, and a left unit is closed for one that
-- waits, after a read of a block of it since that was taken
abbrev pub IsDue : List Happening → Record → Type 0
IsDue past (Began order moment) = (waiting past ≡ Some order) × (moment ≡ waiting_since past)
IsDue past (Closed unit) = IsSome (waiting past) × HasRead unit (sent_since_taken past)
IsDue past other = ⊤

-- the record may be kept: the records are a sentence with it, of no more orders than there may be, and it rests on
-- reads of blocks
pub record MayKeep (start : Start) (past : List Happening) (entry : Record) : Type 0 where
  pub whole : IsSentenceWithin start.limit (entry ∷ records_of start past)
  pub due : IsDue past entry
  pub grounds : Grounds (StillRead (sent_of past)) (standing_at start past) entry

-- Sayings

-- the newest order has this number and ended so
abbrev pub EndsAs : ℕ → Code → List (Contents × Progress) → Type 0
EndsAs id code ((order, reached.Ended last) ∷ older) = (order.id ≡ id) × (last ≡ code)
EndsAs id code other = ⊥

-- there is an order, and it has this number
abbrev pub HasNumber : ℕ → Option Contents → Type 0
HasNumber id None = ⊥
HasNumber id (Some order) = order.id ≡ id

-- this may be said of the order of this number: how it ended, just now, or that it is blocked by a left unit of which
-- no block was read
abbrev pub MaySay : Start → List Happening → ℕ → Reply → Type 0
MaySay start past id (replies.Kept code) = (has_ended past ≡ true) × EndsAs id code (orders_of (records_of start past))
MaySay start past id (replies.Blocked unit) =
    (standing_at start past ≡ standings.Left unit) × HasNumber id (waiting past)
    × (HasRead unit (sent_since_taken past) → ⊥)
MaySay start past id other = ⊥

-- Traces

-- this may happen when no reply is due
abbrev pub MayHappen : Start → List Happening → Happening → Type 0
MayHappen start past (Answered id reply) = MaySay start past id reply
MayHappen start past (Sent frame answer) = MaySend past (standing_at start past) frame
MayHappen start past (Kept entry) = MayKeep start past entry
MayHappen start past other = ⊤

-- an order is followed at once by its reply
abbrev pub Replies : Start → List Happening → Contents → Happening → Type 0
Replies start past order (Answered id reply) = (id ≡ order.id) × IsReply start past order reply
Replies start past order other = ⊥

-- this may happen next
abbrev pub MayFollow : Start → List Happening → Happening → Type 0
MayFollow start (Asked order moment ∷ past) next = Replies start past order next
MayFollow start past next = MayHappen start past next

-- the start is a journal within its limit, and each happening was one that might follow those before it
abbrev pub Legal : Start → List Happening → Type 0
Legal start [] = IsSentenceWithin start.limit start.records
Legal start (next ∷ past) = Legal start past × MayFollow start past next

-- no reply is due
abbrev pub IsFinished : List Happening → Type 0
IsFinished (Asked order moment ∷ past) = ⊥
IsFinished past = ⊤

-- The laws of a writer. They speak of traces and worlds alone.
use Rattle.std.specs.Prelude.{◌≡◌, ◌≢◌, ◌↔◌, false, List, [], ◌∷◌, ◌++◌, ℕ}
use Rattle.std.specs.List.{Contains}
use Rattle.dali_bank.specs.Order.{Contents}
use Rattle.dali_bus.specs.World.{World}
use Rattle.dali_bus.specs.Chain.{IsChain, AtEachMoment}
use Rattle.dali_journal.specs.declared.record.Code.{Code}
use Rattle.dali_journal.specs.declared.kept.Progress.TheVariants as reached
use Rattle.dali_journal.specs.Sentence.{IsSentenceWithin}
use Rattle.dali_journal.specs.Orders.{orders_of}
use Rattle.dali_trace.specs.declared.happening.Reply.{Reply}
use Rattle.dali_trace.specs.declared.happening.Reply.TheVariants as replies
use Rattle.dali_trace.specs.declared.happening.Happening.{Happening}
use Rattle.dali_trace.specs.declared.happening.Happening.TheVariants.{Asked, Answered}
use Rattle.dali_trace.specs.Trace.{Start, records_of, is_busy}
use Rattle.dali_trace.specs.Replies.{IsReply}
use Rattle.dali_trace.specs.Legal.{Legal, MayFollow, IsFinished}
use Rattle.dali_trace.specs.ByPlan.{IsPlanned}
use Rattle.dali_trace.specs.Taken.{taken_orders, begun_orders}
use Rattle.dali_trace.specs.Moves.{Moves}
use Rattle.dali_trace.specs.WhenKept.{WhenKept}
use Rattle.dali_trace.specs.Quiet.{NoneTaken, NoneSent}

-- along every chain of worlds of a legal trace a record is true when it is kept, whichever units were enabled at first
abbrev pub RecordsAreTrue : Type 0
RecordsAreTrue = (start : Start) (first : World) (past : List Happening) (last : World) (states : List World)
    → Legal start past → IsChain Moves first past last states → AtEachMoment (WhenKept start) past last states

-- the records are a sentence within the limit
abbrev pub RecordsAreASentence : Type 0
RecordsAreASentence = (start : Start) (past : List Happening) → Legal start past
    → IsSentenceWithin start.limit (records_of start past)

-- the orders of the records are the taken ones, after those of the start (lists have the newest first)
abbrev pub TakenOrdersAreKept : Type 0
TakenOrdersAreKept = (start : Start) (past : List Happening) → Legal start past
    → begun_orders (records_of start past) ≡ taken_orders past ++ begun_orders start.records

-- one reply is due to an order, and no other
abbrev pub OneReplyIsDue : Type 0
OneReplyIsDue = (start : Start) (past : List Happening) (order : Contents)
    → (due : Reply) × IsReply start past order due × ((other : Reply) → IsReply start past order other → other ≡ due)

-- straight after an order that has ended comes its kept reply
abbrev pub RepeatsAreAnswered : Type 0
RepeatsAreAnswered =
    (start : Start) (past : List Happening) (order : Contents) (moment : ℕ) (code : Code) (next : Happening)
    → Contains (orders_of (records_of start past)) (order, reached.Ended code)
    → Legal start (next ∷ Asked order moment ∷ past)
    → next ≡ Answered order.id (replies.Kept code)

-- no frame is sent and no record is kept by this part of a trace
abbrev pub NothingIsDone : Start → List Happening → List Happening → Type 0
NothingIsDone start more past = NoneSent more × (records_of start (more ++ past) ≡ records_of start past)

-- if a trace isn't busy, nothing is done until an order is taken
abbrev pub QuietUntilTaken : Type 0
QuietUntilTaken = (start : Start) (past more : List Happening)
    → Legal start (more ++ past) → is_busy start past ≡ false → NoneTaken more → NothingIsDone start more past

-- An order that gets another reply than Taken, as each repeat does, changes nothing, wherever it is in a trace and
-- whatever is at work: with it or without it, exactly the same may come next, after whatever came after it, and the
-- plan asks for exactly the same.
abbrev pub RefusedOrdersChangeNothing : Type 0
RefusedOrdersChangeNothing =
    (start : Start) (past more : List Happening) (order : Contents) (moment : ℕ) (reply : Reply) (next : Happening)
    → IsFinished past → reply ≢ replies.Taken
    → (MayFollow start (more ++ Answered order.id reply ∷ Asked order moment ∷ past) next
    ↔ MayFollow start (more ++ past) next)
    × (IsPlanned start (more ++ Answered order.id reply ∷ Asked order moment ∷ past) next
    ↔ IsPlanned start (more ++ past) next)

-- if a trace isn't busy, nothing is done by the repeat of an order that has ended, nor from there until an order is
-- taken
abbrev pub RepeatsAreQuiet : Type 0
RepeatsAreQuiet =
    (start : Start) (past more : List Happening) (order : Contents) (moment : ℕ) (code : Code) (next : Happening)
    → Contains (orders_of (records_of start past)) (order, reached.Ended code) → is_busy start past ≡ false
    → Legal start (more ++ next ∷ Asked order moment ∷ past) → NoneTaken more
    → NothingIsDone start (more ++ next ∷ Asked order moment ∷ []) past

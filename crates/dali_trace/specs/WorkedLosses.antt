-- Small buses and banks near the edges of what is promised if little is lost.
use Rattle.std.specs.Prelude.{◌≡◌, ◌≤◌, ℕ, true, false, replicate, map, List, [], ◌∷◌, ◌++◌, Option, Some, None}
use Rattle.std.specs.Prelude.{drop}
use Rattle.dali_frame.specs.declared.forward.Frame.{Frame}
use Rattle.dali_frame.specs.declared.forward.Frame.TheVariants.{Dtr1, Write}
use Rattle.dali_bank.specs.Order.{Contents, AreUpdates}
use Rattle.dali_gear.specs.Fate.{whole, next_fate}
use Rattle.dali_gear.specs.SimState.{SimState, SimStep, unit_after, unit_powered, world_of}
use Rattle.dali_bus.specs.Chain.{IsChain}
use Rattle.dali_bus.specs.Unenabled.{NoneEnabled}
use Rattle.dali_gear.specs.UnitState.{BankState, UnitState, new_unit}
use Rattle.dali_journal.specs.declared.record.Code.{Code}
use Rattle.dali_journal.specs.declared.record.Code.TheVariants as codes
use Rattle.dali_journal.specs.declared.record.Record.TheVariants.{Began, Opened, Ended, Closed}
use Rattle.dali_journal.specs.Sentence.{named_unit}
use Rattle.dali_write.specs.Misses.{misses_in}
use Rattle.dali_write.specs.Successes.{HasBank}
use Rattle.dali_trace.specs.declared.happening.Reply.{Reply}
use Rattle.dali_trace.specs.declared.happening.Reply.TheVariants as replies
use Rattle.dali_trace.specs.declared.happening.Happening.{Happening}
use Rattle.dali_trace.specs.declared.happening.Happening.TheVariants.{Asked, Answered, Sent, Kept, Powered}
use Rattle.dali_trace.specs.Trace.{Start, sent_since_taken, is_at_work}
use Rattle.dali_trace.specs.Legal.{Legal}
use Rattle.dali_trace.specs.ByPlan.{ByPlan}
use Rattle.dali_trace.specs.Moves.{MovesBy}
use Rattle.dali_trace.specs.Work.{stood_at, order_at_hand}
use Rattle.dali_trace.specs.Spared.{state_at_start, losses_since, UnrefusedSince, KeepsPowerSince, due_code, NoneFixed}
use Rattle.dali_trace.specs.Spared.{LosesLittle, IsSpared}
use Rattle.dali_trace.specs.Worked.{select_at, read_at, write_at, enable_twice, read_try, lock_try, taken}
use Rattle.dali_trace.specs.Worked.{third_order, third_begun}

-- a bus whose next frame is lost to the units of these bits, and one whose next frame is refused
abbrev pub losing : ℕ → SimState
losing bits = record { units = []; fates = record whole { lost = bits } ∷ [] }

abbrev pub refusing : SimState
refusing = record { units = []; fates = record whole { refuse = true } ∷ [] }

abbrev pub clear : SimState
clear = record { units = []; fates = [] }

-- one frame since an order was taken, or since a stop, and one before that
abbrev pub one_since : Happening → List Happening
one_since start = Sent (Dtr1 1) None ∷ start ∷ Sent (Dtr1 1) None ∷ taken

abbrev pub start_taken : Happening
start_taken = Answered 2 replies.Taken

-- bank 1 up to 12h, which 00h says to reach to 77h, with this content format
abbrev pub of_format : ℕ → ℕ → List ℕ
of_format high low = 0x77 ∷ (replicate 0x10 0xFF ++ high ∷ low ∷ [])

-- banks with fixed locations beside 08h and 09h, and at 09h
abbrev pub fixed_beside : BankState
fixed_beside = record { bytes = []; fixed = 0x07 ∷ 0x0A ∷ [] }

abbrev pub fixed_there : BankState
fixed_there = record { bytes = []; fixed = 0x07 ∷ 0x09 ∷ [] }

-- the bus after what happened, and the states before each happening
abbrev pub bus_after : SimState → List Happening → SimState
bus_after first [] = first
bus_after first (Sent frame answer ∷ past) =
    let old = bus_after first past in
    record { units = map (unit_after (next_fate old.fates) frame) old.units; fates = drop 1 old.fates }
bus_after first (Powered address ∷ past) =
    let old = bus_after first past in
    record { units = map (unit_powered address) old.units; fates = old.fates }
bus_after first (other ∷ past) = bus_after first past

abbrev pub buses_along : SimState → List Happening → List SimState
buses_along first [] = []
buses_along first (next ∷ past) = bus_after first past ∷ buses_along first past

-- all premises of the promise how an order ends hold together, of one that ends with this code, after this many losses,
-- on this bus and after what happened on it
pub record MeetsAll (start : Start) (first : SimState) (order : Contents) (bank : BankState) (code : Code) (lost : ℕ)
    (past : List Happening) : Type 0 where
  pub legal : Legal start (Answered order.id (replies.Kept code) ∷ past)
  pub planned : ByPlan start (Answered order.id (replies.Kept code) ∷ past)
  pub chain : IsChain (MovesBy SimStep) first past (bus_after first past) (buses_along first past)
  pub none : NoneEnabled (world_of first.units)
  pub valid : AreUpdates order.updates
  pub hand : order_at_hand start past ≡ Some order
  pub little : LosesLittle start order bank past (bus_after first past) (buses_along first past)
  pub losses : losses_since order.unit (named_unit (stood_at start past)) past (buses_along first past) ≡ lost
  pub misses : misses_in (sent_since_taken past) ≡ lost
  pub due : due_code bank.bytes order.updates ≡ code

-- a bank of 17 bytes, and the whole of one with another content format
abbrev pub small_bank : BankState
small_bank = record { bytes = 0x10 ∷ replicate 0x10 0xFF; fixed = [] }

abbrev pub another_format : BankState
another_format = record { bytes = of_format 0x00 0x04 ++ replicate 0x65 0xFF; fixed = [] }

-- units 5 and 6 with the small bank
abbrev pub small_units : List UnitState
small_units = new_unit 5 small_bank.bytes [] ∷ new_unit 6 small_bank.bytes [] ∷ []

-- Short, after one answer was lost and another unit lost its power
abbrev pub short_bus : SimState
short_bus = record { units = small_units; fates = whole ∷ record whole { answer_lost = true } ∷ [] }

abbrev pub short_order_ended : List Happening
short_order_ended = Kept (Ended codes.Short) ∷ read_at 5 0x00 0x10 (Powered 6 ∷ read_try third_begun)

-- Format, with nothing lost
abbrev pub format_bus : SimState
format_bus = record { units = new_unit 5 another_format.bytes [] ∷ []; fates = [] }

-- Done: order 4 writes 08h of unit 5, and the answer to its write is lost
abbrev pub fourth_order : Contents
fourth_order = record { id = 4; unit = 5; updates = (0x08, 0xAB) ∷ [] }

abbrev pub done_bus : SimState
done_bus = record { units = small_units; fates = replicate 20 whole ++ record whole { answer_lost = true } ∷ [] }

abbrev pub fourth_begun : List Happening
fourth_begun = Kept (Began fourth_order 13) ∷ Answered 4 replies.Taken ∷ Asked fourth_order 13 ∷ []

abbrev pub fourth_opened : List Happening
fourth_opened = Kept (Opened 5) ∷ read_at 5 0x00 0x10 fourth_begun

abbrev pub fourth_written : List Happening
fourth_written =
    write_at 5 0x08 0xAB (Sent (Write 0xAB) None ∷ select_at 5 0x08
    (enable_twice 5 (write_at 5 0x02 0x55 fourth_opened)))

abbrev pub fourth_ended : List Happening
fourth_ended =
    Kept (Ended codes.Done) ∷ read_at 5 0x08 0xAB (read_at 5 0x02 0xFF (write_at 5 0x02 0xFF fourth_written))

-- Short, if unit 5 was left open, and an answer of it is lost: order 6 for the year of unit 6
abbrev pub sixth_order : Contents
sixth_order = record { id = 6; unit = 6; updates = third_order.updates }

abbrev pub left_bus : SimState
left_bus = record { units = small_units; fates = replicate 3 whole ++ record whole { answer_lost = true } ∷ [] }

abbrev pub sixth_taken : List Happening
sixth_taken = Answered 6 replies.Taken ∷ Asked sixth_order 15 ∷ []

abbrev pub sixth_closing : List Happening
sixth_closing = lock_try sixth_taken

abbrev pub sixth_closed : List Happening
sixth_closed = Kept (Closed 5) ∷ read_at 5 0x02 0xFF (write_at 5 0x02 0xFF sixth_closing)

abbrev pub sixth_begun : List Happening
sixth_begun = Kept (Began sixth_order 15) ∷ sixth_closed

abbrev pub sixth_ended : List Happening
sixth_ended = Kept (Ended codes.Short) ∷ read_at 6 0x00 0x10 sixth_begun

-- With seven losses an order that little else befalls ends as it is to end, and misses no more often.
abbrev pub SparesSeven : Type 0
SparesSeven =
    (start : Start) (id : ℕ) (reply : Reply) (frame : Frame) (answer : Option ℕ) (older : List Happening)
    (last state : SimState) (states : List SimState) (order : Contents) (bank : BankState)
    → IsSpared start (Answered id reply ∷ Sent frame answer ∷ older) last (state ∷ states)
    → order_at_hand start (Sent frame answer ∷ older) ≡ Some order
    → is_at_work (stood_at start (Sent frame answer ∷ older)) ≡ false
    → HasBank order.unit bank (state_at_start (Sent frame answer ∷ older) state states).units
    → UnrefusedSince (Sent frame answer ∷ older) states
    → KeepsPowerSince order.unit (named_unit (stood_at start (Sent frame answer ∷ older))) (Sent frame answer ∷ older)
    → losses_since order.unit (named_unit (stood_at start (Sent frame answer ∷ older)))
    (Sent frame answer ∷ older) states
    ≡ 7
    → (due_code bank.bytes order.updates ≡ codes.Done → NoneFixed bank order.updates)
    → (reply ≡ replies.Kept (due_code bank.bytes order.updates))
    × (misses_in (sent_since_taken (Sent frame answer ∷ older)) ≤ 7)

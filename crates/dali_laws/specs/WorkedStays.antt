-- Small stays near the edges: a unit is exchanged between two orders, in the middle of one, beside one, and after a
-- read that a later order rests on without having made it.
use Rattle.std.specs.Prelude.{List, [], ◌∷◌, ◌==◌, not, true, Option, Some, None, if◌then◌else◌}
use Rattle.dali_bank.specs.Order.{Contents}
use Rattle.dali_bus.specs.World.{World, Gear, stored}
use Rattle.dali_frame.specs.declared.forward.Frame.TheVariants.{Dtr1}
use Rattle.dali_journal.specs.declared.record.Code.TheVariants.{Done, Silent, DoubtOpen}
use Rattle.dali_journal.specs.declared.record.Record.TheVariants.{Began, Opened, Ended}
use Rattle.dali_trace.specs.declared.happening.Reply.TheVariants as replies
use Rattle.dali_trace.specs.declared.happening.Happening.{Happening}
use Rattle.dali_trace.specs.declared.happening.Happening.TheVariants.{Asked, Answered, Sent, Kept, Powered}
use Rattle.dali_trace.specs.Trace.{Start}
use Rattle.dali_trace.specs.Worked.{first_order, measured, empty, alone, blank, blank_unit, write_at}
use Rattle.dali_laws.specs.Stays.{Stay, among}
use Rattle.dali_write.specs.declared.pace.Pace.TheVariants.{Checked}

-- a stay of all units that begins at rest with this world
abbrev pub at_rest : World → List Happening → World → List World → Stay
at_rest first past last states = record {
  staying = λ address. true;
  zero = first;
  lost = [];
  start = empty;
  first = first;
  past = past;
  last = last;
  states = states;
}

-- order 1 for unit 5 was done
abbrev pub done_once : Start
done_once = record { records = Ended Done ∷ Opened 5 ∷ Began first_order 7 ∷ []; limit = 10; pace = Checked }

-- order 2 for the same short address
abbrev pub next_order : Contents
next_order = record { id = 2; unit = 5; updates = first_order.updates }

-- A blank unit is there now. It loses its power between the order and its reply, and hears the first frame.
abbrev pub exchanged : Stay
exchanged =
    let w = alone blank_unit in
    at_rest w
    (Sent (Dtr1 1) None ∷ Kept (Began next_order 20) ∷ Answered 2 replies.Taken ∷ Powered 5 ∷ Asked next_order 20 ∷ [])
    (alone (record blank_unit { dtr1 = 1 })) (w ∷ w ∷ w ∷ w ∷ w ∷ [])

-- order 1 was opened, and a blank unit comes in the place of the one that was read; the lock byte is written
abbrev pub opened_once : Start
opened_once = record { records = Opened 5 ∷ Began first_order 7 ∷ []; limit = 10; pace = Checked }

-- order 1 left its unit open, or one left unit 6 open
abbrev pub left_once : Start
left_once = record { records = Ended DoubtOpen ∷ opened_once.records; limit = 10; pace = Checked }

abbrev pub left_at_6 : Start
left_at_6 = record {
  records = Ended DoubtOpen ∷ Opened 6 ∷ Began (record first_order { unit = 6 }) 7 ∷ [];
  limit = 10;
  pace = Checked;
}

abbrev pub unlocking : List Happening
unlocking = write_at 5 0x02 0x55 []

-- order 1 ended as Silent though its read was answered, and order 2 is opened by that read, with no unit there any more
abbrev pub read_before : List Happening
read_before = Answered 1 (replies.Kept Silent) ∷ Kept (Ended Silent) ∷ measured

abbrev pub opened_unread : List Happening
opened_unread = Kept (Opened 5) ∷ Kept (Began next_order 20) ∷ Answered 2 replies.Taken ∷ Asked next_order 20 ∷ []

abbrev pub no_units : World
no_units address = None

abbrev pub unread : Stay
unread = at_rest no_units opened_unread no_units (no_units ∷ no_units ∷ no_units ∷ no_units ∷ [])

-- while order 2 is at work at unit 5, the luminaire at 6 is exchanged for one that has 03h at 03h
abbrev pub written : Gear
written = record blank_unit { memory = stored blank 1 3 0x03 }

abbrev pub beside_one : Gear → Option Gear → World
beside_one five six address = if address == 5 then Some five else (if address == 6 then six else None)

abbrev pub beside : Stay
beside =
    let w = beside_one blank_unit (Some blank_unit) in
    record (at_rest w
    (Sent (Dtr1 1) None ∷ Kept (Began next_order 20) ∷ Answered 2 replies.Taken ∷ Asked next_order 20 ∷ [])
    (beside_one (record blank_unit { dtr1 = 1 }) (Some written)) (w ∷ w ∷ w ∷ w ∷ [])) {
      staying = λ address. not (address == 6);
      zero = among (λ address. not (address == 6)) w;
    }

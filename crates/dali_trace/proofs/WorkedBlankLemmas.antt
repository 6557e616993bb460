-- A blank unit, alone on its bus, goes along the worked trace.
use Rattle.std.proofs.Common.{◌≡◌, inl, inr, refl, ℕ, Bool, true, false, ◌==◌, List, [], ◌∷◌, Option, Some, None}
use Rattle.std.proofs.Common.{if◌then◌else◌}
use Rattle.std.proofs.lemmas.Bool.{eqb-true}
use Rattle.std.specs.Prelude.{IfSome, ⊤}
use Rattle.dali_frame.specs.declared.forward.Frame.{Frame}
use Rattle.dali_frame.specs.declared.forward.Frame.TheVariants.{Dtr0, Dtr1, Write, Enable, AskDtr0, AskDtr1, Read}
use Rattle.dali_bus.specs.World.{Gear, stored}
use Rattle.dali_bus.proofs.OpenLemmas.{is_open}
use Rattle.dali_bus.specs.Hears.{Stores, Hears, up}
use Rattle.dali_bus.specs.Carry.{Carry, MayHear, Answered as AnsweredBy}
use Rattle.dali_bus.specs.Chain.{Chain}
use Rattle.dali_journal.specs.declared.record.Code.TheVariants.{Done}
use Rattle.dali_journal.specs.declared.record.Record.TheVariants.{Began, Opened, Ended}
use Rattle.dali_trace.specs.declared.happening.Reply.TheVariants as replies
use Rattle.dali_trace.specs.declared.happening.Happening.{Happening}
use Rattle.dali_trace.specs.declared.happening.Happening.TheVariants.{Asked, Answered, Sent, Kept}
use Rattle.dali_trace.specs.Moves.{Moves}
use Rattle.dali_trace.specs.Fits.{Fits, OnlyNamed}
use Rattle.dali_trace.specs.Worked.{select_at, read_at, write_at, write_all, reads_of, all_written, alone, blank_unit}
use Rattle.dali_trace.specs.Worked.{empty, first_order, asked, taken, begun, measured, opened, unlocked, locked}
use Rattle.dali_trace.specs.Worked.{lock_read, all_read_back, ended, said, first_carried_out, GoesAlong}
use Rattle.dali_trace.proofs.WorkedLemmas.{whole_legal}

-- the unit, alone, hears a frame
pub heard : (old new : Gear) (frame : Frame) (answer : Option ℕ) → Hears 5 old frame answer new
    → Carry (alone old) frame answer (alone new)
heard old new frame answer hears =
    record { units = λ address. units address (address == 5) refl; answers = answers answer hears } where
      units : (address : ℕ) (here : Bool) → (address == 5) ≡ here
          → MayHear address (if here then Some old else None) frame (if here then Some new else None)
      units address true e = inr (answer, rw (eqb-true address 5 e) hears)
      units address false e = tt

      answers : (given : Option ℕ) → Hears 5 old frame given new
          → IfSome given (λ byte. AnsweredBy (alone old) frame byte (alone new))
      answers None hears = tt
      answers (Some byte) hears =
          record { address = 5; before = old; after = new; was = refl; is = refl; hears = hears }

-- what has come of a blank unit
abbrev pub Comes : List Happening → Gear → Type 0
Comes past gear = Chain Moves (alone blank_unit) past (alone gear)

-- one frame more
sent : (past : List Happening) (old new : Gear) (frame : Frame) (answer : Option ℕ) → Comes past old
    → Hears 5 old frame answer new → Comes (Sent frame answer ∷ past) new
sent past old new frame answer chain hears =
    record { states = alone old ∷ chain.states; steps = (heard old new frame answer hears, chain.steps) }

-- and one happening more that is no frame
besides : (past : List Happening) (gear : Gear) (next : Happening) → Comes past gear
    → Moves (alone gear) next (alone gear) → Comes (next ∷ past) gear
besides past gear next chain still = record { states = alone gear ∷ chain.states; steps = (still, chain.steps) }

-- the unit after four frames that select
abbrev after_select : Gear → ℕ → Gear
after_select gear location = record gear { dtr0 = location; dtr1 = 1 }

select_comes : (past : List Happening) (gear : Gear) (location : ℕ) → Comes past gear
    → Comes (select_at 5 location past) (after_select gear location)
select_comes past gear location chain =
    let g1 : Gear = record gear { dtr1 = 1 } in
    let g2 : Gear = after_select gear location in
    let h1 : Hears 5 gear (Dtr1 1) None g1 = record { obeyed = g1; obeys = (refl, refl); ends = inl refl } in
    let h2 : Hears 5 g1 (AskDtr1 5) (Some 1) g1 =
    record { obeyed = g1; obeys = inl (refl, (refl, refl)); ends = inl refl } in
    let h3 : Hears 5 g1 (Dtr0 location) None g2 = record { obeyed = g2; obeys = (refl, refl); ends = inl refl } in
    let h4 : Hears 5 g2 (AskDtr0 5) (Some location) g2 =
    record { obeyed = g2; obeys = inl (refl, (refl, refl)); ends = inl refl } in
    let p1 : List Happening = Sent (Dtr1 1) None ∷ past in
    let p2 : List Happening = Sent (AskDtr1 5) (Some 1) ∷ p1 in
    let p3 : List Happening = Sent (Dtr0 location) None ∷ p2 in
    sent p3 g2 g2 (AskDtr0 5) (Some location)
    (sent p2 g1 g2 (Dtr0 location) None
    (sent p1 g1 g1 (AskDtr1 5) (Some 1) (sent past gear g1 (Dtr1 1) None chain h1) h2) h3)
    h4

-- after a checked read
abbrev after_read : Gear → ℕ → Gear
after_read gear location = record (after_select gear location) { dtr0 = up location; enabled = false }

read_comes : (past : List Happening) (gear : Gear) (location byte : ℕ) → gear.memory 1 location ≡ Some byte
    → Comes past gear
    → Comes (read_at 5 location byte past) (after_read gear location)
read_comes past gear location byte there chain =
    let g1 : Gear = after_select gear location in
    let g2 : Gear = after_read gear location in
    let h : Hears 5 g1 (Read 5) (Some byte) g2 =
    record { obeyed = g2; obeys = inl (refl, inl (rw there refl, rw there refl, refl)); ends = inl refl } in
    let h6 : Hears 5 g2 (AskDtr0 5) (Some (up location)) g2 =
    record { obeyed = g2; obeys = inl (refl, (refl, refl)); ends = inl refl } in
    let h7 : Hears 5 g2 (AskDtr1 5) (Some 1) g2 =
    record { obeyed = g2; obeys = inl (refl, (refl, refl)); ends = inl refl } in
    let p4 : List Happening = select_at 5 location past in
    let p5 : List Happening = Sent (Read 5) (Some byte) ∷ p4 in
    sent (Sent (AskDtr0 5) (Some (up location)) ∷ p5) g2 g2 (AskDtr1 5) (Some 1)
    (sent p5 g2 g2 (AskDtr0 5) (Some (up location))
    (sent p4 g1 g2 (Read 5) (Some byte) (select_comes past gear location chain) h) h6)
    h7

-- after a checked write
abbrev pub after_write : Gear → ℕ → ℕ → Gear
after_write gear location byte =
    record gear { dtr0 = up location; dtr1 = 1; enabled = true; memory = stored gear.memory 1 location byte }

pub write_comes : (past : List Happening) (gear : Gear) (location byte old : ℕ) → gear.memory 1 location ≡ Some old
    → Comes past gear
    → Comes (write_at 5 location byte past) (after_write gear location byte)
write_comes past gear location byte old there chain =
    let on : Gear = record gear { enabled = true } in
    let g1 : Gear = after_select on location in
    let g2 : Gear = after_write gear location byte in
    let half : Hears 5 gear (Enable 5) None gear =
    record { obeyed = gear; obeys = inr (refl, refl); ends = inl refl } in
    let pair : Hears 5 gear (Enable 5) None on =
    record { obeyed = on; obeys = inl (refl, refl, refl); ends = inl refl } in
    let h : Hears 5 g1 (Write byte) (Some byte) g2 =
    let stores : Stores byte g1 g2 =
    (refl, rw there refl, (stored gear.memory 1 location byte, (λ bank place. inl refl), refl)) in
    record { obeyed = g2; obeys = inl (stores, refl); ends = inl refl } in
    let p1 : List Happening = Sent (Enable 5) None ∷ past in
    let p2 : List Happening = Sent (Enable 5) None ∷ p1 in
    sent (select_at 5 location p2) g1 g2 (Write byte) (Some byte)
    (select_comes p2 on location
    (sent p1 gear on (Enable 5) None (sent past gear gear (Enable 5) None chain half) pair))
    h

-- the unit along the worked trace, piece by piece
begun_comes : Comes begun blank_unit
begun_comes =
    let first : Comes [] blank_unit = record { states = []; steps = refl } in
    besides taken blank_unit (Kept (Began first_order 7))
    (besides asked blank_unit (Answered 1 replies.Taken) (besides [] blank_unit (Asked first_order 7) first refl) refl)
    refl

abbrev unlocked_gear : Gear
unlocked_gear = after_write (after_read blank_unit 0x00) 0x02 0x55

unlocked_comes : Comes unlocked unlocked_gear
unlocked_comes =
    let measured_comes = read_comes begun blank_unit 0x00 0x77 refl begun_comes in
    let opened_comes = besides measured (after_read blank_unit 0x00) (Kept (Opened 5)) measured_comes refl in
    write_comes opened (after_read blank_unit 0x00) 0x02 0x55 0xFF refl opened_comes

-- the unit after checked writes of the updates, and after checked reads of their locations
abbrev after_writes : List (ℕ × ℕ) → Gear → Gear
after_writes [] gear = gear
after_writes (update ∷ updates) gear = after_writes updates (after_write gear update.0 update.1)

abbrev after_reads : List (ℕ × ℕ) → Gear → Gear
after_reads [] gear = gear
after_reads (update ∷ updates) gear = after_reads updates (after_read gear update.0)

-- each location is there before it is written, and holds its byte when it is read
abbrev AllThere : List (ℕ × ℕ) → Gear → Type 0
AllThere [] gear = ⊤
AllThere (update ∷ updates) gear =
    (gear.memory 1 update.0 ≡ Some 0xFF) × AllThere updates (after_write gear update.0 update.1)

abbrev AllHeld : List (ℕ × ℕ) → Gear → Type 0
AllHeld [] gear = ⊤
AllHeld (update ∷ updates) gear = (gear.memory 1 update.0 ≡ Some update.1) × AllHeld updates (after_read gear update.0)

writes_come : (updates : List (ℕ × ℕ)) (past : List Happening) (gear : Gear) → AllThere updates gear → Comes past gear
    → Comes (write_all 5 updates past) (after_writes updates gear)
writes_come [] past gear there comes = comes
writes_come (update ∷ updates) past gear there comes =
    writes_come updates (write_at 5 update.0 update.1 past) (after_write gear update.0 update.1) there.1
    (write_comes past gear update.0 update.1 0xFF there.0 comes)

reads_come : (updates : List (ℕ × ℕ)) (past : List Happening) (gear : Gear) → AllHeld updates gear → Comes past gear
    → Comes (reads_of 5 updates past) (after_reads updates gear)
reads_come [] past gear held comes = comes
reads_come (update ∷ updates) past gear held comes =
    reads_come updates (read_at 5 update.0 update.1 past) (after_read gear update.0) held.1
    (read_comes past gear update.0 update.1 held.0 comes)

abbrev locked_gear : Gear
locked_gear = after_write (after_writes first_order.updates unlocked_gear) 0x02 0xFF

locked_comes : Comes locked locked_gear
locked_comes =
    write_comes all_written (after_writes first_order.updates unlocked_gear) 0x02 0xFF 0x55 refl
    (writes_come first_order.updates unlocked unlocked_gear (refl, (refl, (refl, (refl, (refl, (refl, tt))))))
    unlocked_comes)

abbrev last_gear : Gear
last_gear = after_reads first_order.updates (after_read locked_gear 0x02)

read_back_comes : Comes all_read_back last_gear
read_back_comes =
    reads_come first_order.updates lock_read (after_read locked_gear 0x02)
    (refl, (refl, (refl, (refl, (refl, (refl, tt))))))
    (read_comes locked locked_gear 0x02 0xFF refl locked_comes)

whole_comes : Comes first_carried_out last_gear
whole_comes =
    let ended_comes = besides all_read_back last_gear (Kept (Ended Done)) read_back_comes refl in
    let said_comes = besides ended last_gear (Answered 1 (replies.Kept Done)) ended_comes refl in
    let asked_comes = besides said last_gear (Asked first_order 12) said_comes refl in
    besides (Asked first_order 12 ∷ said) last_gear (Answered 1 (replies.Kept Done)) asked_comes refl

-- it begins with a world that fits, in which no unit is enabled
fits : Fits (alone blank_unit) empty.records [] (alone blank_unit)
fits = record {
  places = λ address bank location. refl;
  bytes = λ address bank location first byte lock was is. same first byte was is;
  locks = λ address bank above closed. inl refl;
  indicators = λ address closed. refl;
} where
  same : {x : Option ℕ} (first byte : ℕ) → x ≡ Some first → x ≡ Some byte → byte ≡ first
  same first byte was is = cc

pub only : OnlyNamed empty.records (alone blank_unit)
only address on = off (address == 5) on where
  off : (here : Bool) → is_open (if here then Some blank_unit else None) ≡ true → None ≡ Some address
  off true e = cc
  off false e = cc

-- so the law's premises are met, and the unit is as the order and the rules of units say
pub goes_along : GoesAlong
goes_along = (
  last_gear,
  whole_comes.states,
  whole_legal,
  record { fits = fits; only = only; chain = whole_comes.steps },
  (refl, refl, refl),
  (refl, refl, refl, refl, refl, refl, refl, refl),
)

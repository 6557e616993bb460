-- Stays near the edges: traces that they let through, and traces that they don't.
use Rattle.std.proofs.Common.{◌≡◌, ◌⊎◌, inl, inr, refl, ap, sym, append-nil, true, false, ℕ, Bool}
use Rattle.std.proofs.Common.{List, [], ◌∷◌, ◌++◌, Option, Some}
use Rattle.std.proofs.Common.{None, arith, ◌==◌, ◌≢◌, ◌∙◌, if◌then◌else◌}
use Rattle.std.specs.Prelude.{is_some, IfSome}
use Rattle.std.proofs.lemmas.Bool.{eqb-true}
use Rattle.dali_bus.specs.World.{World, Gear, byte_at, stored}
use Rattle.dali_bus.proofs.OpenLemmas.{is_open}
use Rattle.dali_bus.specs.Power.{LosesPower, MayRelock}
use Rattle.dali_bus.specs.Chain.{IsChain, AtEachMoment}
use Rattle.dali_frame.specs.declared.forward.Frame.TheVariants.{Dtr1}
use Rattle.dali_journal.specs.declared.record.Record.{Record}
use Rattle.dali_journal.specs.declared.standing.Standing.TheVariants.{Idle, Opened, Left}
use Rattle.dali_journal.specs.Sentence.{standing_of}
use Rattle.dali_trace.specs.declared.happening.Reply.TheVariants as replies
use Rattle.dali_trace.specs.declared.happening.Happening.{Happening}
use Rattle.dali_trace.specs.declared.happening.Happening.TheVariants.{Asked, Answered, Sent, Stopped}
use Rattle.dali_trace.specs.Trace.{Start, records_of, standing_at}
use Rattle.dali_trace.specs.Legal.{Legal}
use Rattle.dali_trace.specs.Moves.{Moves}
use Rattle.dali_trace.specs.Moments.{Along, OnlyNamedAt, IsRight}
use Rattle.dali_write.specs.Worlds.{IsAmong}
use Rattle.dali_write.specs.Plans.{read_length}
use Rattle.dali_write.specs.declared.ask.Ask.TheVariants as asks
use Rattle.dali_trace.specs.ByPlan.{ByPlan}
use Rattle.dali_trace.specs.Worked.{empty, first_order, begun, opened, alone, blank, blank_unit}
use Rattle.dali_trace.proofs.WorkedBlankLemmas.{heard, Comes, write_comes, after_write}
use Rattle.dali_trace.proofs.WorkedLemmas.{measured_legal, write_legal, read_stands}
use Rattle.dali_trace.proofs.WorkedPlanLemmas.{wants_so}
use Rattle.dali_trace.proofs.WorkedWorldLemmas.{past_apart}
use Rattle.dali_laws.specs.Powered.{unpowered}
use Rattle.dali_laws.specs.Stays.{Stay, among, MovesAmid, unit_at_work, IsAlong, IsRightThrough}
use Rattle.dali_laws.specs.Stays.{bare, IsAtRest, Begins, IsStay, IsReady, IsReadyAtRest}
use Rattle.dali_laws.specs.WorkedStays.{at_rest, done_once, next_order, exchanged, opened_once, left_once, left_at_6}
use Rattle.dali_laws.specs.WorkedStays.{unlocking}
use Rattle.dali_laws.specs.WorkedStays.{read_before, opened_unread, no_units, unread}
use Rattle.dali_laws.proofs.AmongLemmas.{at_the_last}
use Rattle.dali_laws.proofs.StayLemmas.{ready_begins, stay_right}
use Rattle.dali_write.specs.declared.pace.Pace.TheVariants.{Checked}

-- Which units a stay may begin with

none_on : (here : Bool) → is_open (if here then Some blank_unit else None) ≡ false
none_on true = refl
none_on false = refl

pub ready_when_blank : IsReady Idle (alone blank_unit)
ready_when_blank = λ address. none_on (address == 5)

abbrev enabled_unit : Gear
enabled_unit = record blank_unit { enabled = true }

pub not_ready_when_enabled : IsReady Idle (alone enabled_unit) → ⊥
not_ready_when_enabled ready = let off : true ≡ false = ready 5 in cc

off_elsewhere : (address : ℕ) (here : Bool) → (address == 5) ≡ here → address ≢ 5
    → is_open (if here then Some enabled_unit else None) ≡ false
off_elsewhere address true e other = absurd (other (eqb-true address 5 e))
off_elsewhere address false e other = refl

pub ready_with_the_left_unit_enabled : IsReady (Left 5) (alone enabled_unit)
ready_with_the_left_unit_enabled = λ address other. off_elsewhere address (address == 5) refl other

pub not_ready_with_another_enabled : IsReady (Left 6) (alone enabled_unit) → ⊥
not_ready_with_another_enabled ready = let off : true ≡ false = ready 5 (λ same. omega (arith, same)) in cc

pub not_ready_amid_an_order : IsReady (Opened first_order) (alone blank_unit) → ⊥
not_ready_amid_an_order ready = ready

pub not_at_rest_when_enabled : IsReadyAtRest (at_rest (alone blank_unit) [] (alone enabled_unit) []) → ⊥
not_at_rest_when_enabled ready = not_ready_when_enabled (ready refl)

pub not_at_rest_with_another_enabled : IsReadyAtRest
    (record (at_rest (alone blank_unit) [] (alone enabled_unit) []) { start = left_at_6 }) → ⊥
not_at_rest_with_another_enabled ready = not_ready_with_another_enabled (ready refl)

-- a lock byte of a bank from 2 up may be open
abbrev open_above : Gear
open_above = record blank_unit { memory = stored blank 2 2 0x55 }

pub ready_with_an_open_lock_byte_above : IsReady Idle (alone open_above)
ready_with_an_open_lock_byte_above = λ address. by (address == 5) where
  by : (here : Bool) → is_open (if here then Some open_above else None) ≡ false
  by true = refl
  by false = refl

-- Exchanged between two orders: what the new unit held when it came is what counts, and the order of the old one is not

blank_powers_up : LosesPower (alone blank_unit) 5 (alone blank_unit)
blank_powers_up = record {
  there = record {
    dtr0 = refl;
    dtr1 = refl;
    dtr2 = refl;
    off = refl;
    lock = refl;
    other_locks = λ bank above. inr refl;
    rest = λ bank location free. refl;
  };
  others = λ other elsewhere. refl;
}

-- if all stay, nobody comes, and whoever is at work stays
pub nobody_comes : (staying : ℕ → Bool) (first : World) (past : List Happening) (last : World) (states : List World)
    → IsChain Moves first past last states → IsChain (MovesAmid staying) first past last states
nobody_comes staying first [] last [] same = same
nobody_comes staying first [] last (state ∷ states) wrong = absurd wrong
nobody_comes staying first (next ∷ past) last [] wrong = absurd wrong
nobody_comes staying first (next ∷ past) last (state ∷ states) steps =
    ((state, (λ address. inl refl), steps.0), nobody_comes staying first past state states steps.1)

stays_too : (found : Option ℕ) → IfSome found (λ unit. true ≡ true)
stays_too None = tt
stays_too (Some unit) = refl

pub all_stay : (start : Start) (first : World) (past : List Happening) (last : World) (states : List World)
    → IsChain Moves first past last states
    → AtEachMoment (λ moment now. IfSome (unit_at_work (standing_at start moment)) (λ unit. true ≡ true)) past last
    states
all_stay start first [] last [] same = stays_too (unit_at_work (standing_at start []))
all_stay start first [] last (state ∷ states) wrong = absurd wrong
all_stay start first (next ∷ past) last [] wrong = absurd wrong
all_stay start first (next ∷ past) last (state ∷ states) steps =
    (stays_too (unit_at_work (standing_at start (next ∷ past))), all_stay start first past state states steps.1)

exchanged_chain : IsChain Moves (alone blank_unit) exchanged.past exchanged.last exchanged.states
exchanged_chain = (
  heard blank_unit (record blank_unit { dtr1 = 1 }) (Dtr1 1) None
      (record { obeyed = record blank_unit { dtr1 = 1 }; obeys = (refl, refl); ends = inl refl }),
  (refl, (refl, (blank_powers_up, (refl, refl)))),
)

pub exchanged_is_a_stay : IsStay done_once (unpowered exchanged.past) exchanged
exchanged_is_a_stay = record {
  before = [];
  later = [];
  is_part = refl;
  begins = record {
    newest = [];
    older = done_once.records;
    are = refl;
    idle = refl;
    told = inr (refl, inl refl);
  };
  along =
      ready_begins exchanged [] refl refl ready_when_blank
      (all_stay empty exchanged.first exchanged.past exchanged.last exchanged.states exchanged_chain)
      (nobody_comes exchanged.staying exchanged.first exchanged.past exchanged.last exchanged.states exchanged_chain);
}

-- so all is right in it, though no start world suits
exchanged_legal : Legal done_once (unpowered exchanged.past)
exchanged_legal = (
  (
    ((((((tt, tt, refl), refl, tt), tt, tt), omega arith), tt), (refl, search)),
    record {
      whole = (((((tt, tt, refl), refl, tt), tt, tt), tt, refl), omega arith);
      due = (refl, refl);
      grounds = tt;
    },
  ),
  (5, refl),
)

exchanged_planned : ByPlan done_once (unpowered exchanged.past)
exchanged_planned =
    ((((tt, tt), tt), tt), wants_so 5 (read_length Checked first_order.updates) [] (asks.Send (Dtr1 1)) tt refl)

pub exchanged_is_right : IsRightThrough exchanged
exchanged_is_right =
    stay_right done_once (unpowered exchanged.past) exchanged exchanged_legal exchanged_planned exchanged_is_a_stay

by_byte : (zero last : World) (lost : List ℕ) (past : List Happening) (states : List World) (held : Option ℕ)
    → byte_at zero 5 1 8 ≡ held → Along zero lost done_once (alone blank_unit) past last states → ⊥
by_byte zero last lost past states None is along =
    let there : true ≡ is_some (byte_at zero 5 1 8) = along.fits.places 5 1 8 in
    let none : is_some (byte_at zero 5 1 8) ≡ false = ap is_some is in cc
by_byte zero last lost past states (Some first) is along =
    omega (arith, along.fits.bytes 5 1 8 first 0xFF (past_apart (omega arith)) is refl)

-- told against the start of all, no world at all would do: the done order's bytes aren't in the new unit
pub no_start_world_suits : (zero last : World) (lost : List ℕ) (past : List Happening) (states : List World)
    → Along zero lost done_once (alone blank_unit) past last states → ⊥
no_start_world_suits zero last lost past states along =
    by_byte zero last lost past states (byte_at zero 5 1 8) refl along

-- the number, or 100h, which is no byte
abbrev or_none : Option ℕ → ℕ
or_none None = 0x100
or_none (Some number) = number

-- Exchanged in the middle of an order: no stay begins there, and told by no records it would not be right

-- what an order at work leaves at rest
not_at_rest_when_opened : IsAtRest empty opened → ⊥
not_at_rest_when_opened (inl idle) = cc
not_at_rest_when_opened (inr free) = let never : true ≡ false = free in cc

pub none_begins_amid_an_order : (stay : Stay) → Begins empty opened stay → ⊥
none_begins_amid_an_order stay begins = by begins.told where
  by : ((stay.start.records ≡ begins.newest) × ((opened ≡ []) ⊎ IsAtRest empty opened))
      ⊎ ((stay.start.records ≡ bare begins.newest) × IsAtRest empty opened)
      → ⊥
  by (inl (same, inl none)) = cc
  by (inl (same, inr rests)) = not_at_rest_when_opened rests
  by (inr (same, rests)) = not_at_rest_when_opened rests

-- at the very start one begins there, of units that fit the records so far
pub one_begins_amid_an_order_at_the_start : Begins opened_once []
    (record (at_rest (alone blank_unit) [] (alone blank_unit) []) { start = opened_once })
one_begins_amid_an_order_at_the_start = record {
  newest = opened_once.records;
  older = [];
  are = append-nil opened_once.records;
  idle = refl;
  told = inl (refl, inl refl);
}

pub none_begins_amid_an_order_by_no_records : (stay : Stay) → stay.start.records ≡ [] → Begins opened_once [] stay → ⊥
none_begins_amid_an_order_by_no_records stay none begins = by begins.told where
  nothing : List Happening
  nothing = []

  by : ((stay.start.records ≡ begins.newest) × ((nothing ≡ []) ⊎ IsAtRest opened_once nothing))
      ⊎ ((stay.start.records ≡ bare begins.newest) × IsAtRest opened_once nothing)
      → ⊥
  by (inl (same, rests)) =
      let all : opened_once.records ≡ begins.older =
      begins.are ∙ ap (λ (own : List Record). own ++ begins.older) (sym same ∙ none) in
      let never : Opened first_order ≡ Idle = ap standing_of all ∙ begins.idle in cc
  by (inr (same, inl idle)) = cc
  by (inr (same, inr free)) = let never : true ≡ false = free in cc

-- if a unit is left, one begins while no order waits, and none amid the frames that close it
abbrev left_stay : Stay
left_stay =
    record (at_rest (alone blank_unit) [] (alone blank_unit) []) {
      start = record { records = bare left_once.records; limit = 10; pace = Checked };
    }

pub one_begins_where_a_unit_is_left : Begins left_once (Stopped Checked ∷ []) left_stay
one_begins_where_a_unit_is_left = record {
  newest = left_once.records;
  older = [];
  are = append-nil left_once.records;
  idle = refl;
  told = inr (refl, inr refl);
}

pub none_begins_while_it_is_closed : (stay : Stay)
    → Begins left_once (Sent (Dtr1 1) None ∷ Answered 2 replies.Taken ∷ Asked next_order 20 ∷ []) stay → ⊥
none_begins_while_it_is_closed stay begins = by begins.told where
  closing : List Happening
  closing = Sent (Dtr1 1) None ∷ Answered 2 replies.Taken ∷ Asked next_order 20 ∷ []

  at_work : IsAtRest left_once closing → ⊥
  at_work (inl idle) = cc
  at_work (inr free) = let never : true ≡ false = free in cc

  by : ((stay.start.records ≡ begins.newest) × ((closing ≡ []) ⊎ IsAtRest left_once closing))
      ⊎ ((stay.start.records ≡ bare begins.newest) × IsAtRest left_once closing)
      → ⊥
  by (inl (same, inl none)) = cc
  by (inl (same, inr rests)) = at_work rests
  by (inr (same, rests)) = at_work rests

pub unlocking_comes : Comes unlocking (after_write blank_unit 0x02 0x55)
unlocking_comes = write_comes [] blank_unit 0x02 0x55 0xFF refl (record { states = []; steps = refl })

abbrev pub amid : Stay
amid = at_rest (alone blank_unit) unlocking (alone (after_write blank_unit 0x02 0x55)) unlocking_comes.states

pub unlocking_legal : Legal opened_once unlocking
unlocking_legal =
    write_legal opened_once [] 5 0x02 0x55 (((tt, tt, refl), refl, tt), omega arith) (refl, refl) refl refl
    (inr (refl, inl refl))

pub along_amid_an_order : IsAlong amid
along_amid_an_order =
    ready_begins amid [] refl refl ready_when_blank
    (all_stay empty amid.first unlocking amid.last amid.states unlocking_comes.steps)
    (nobody_comes amid.staying amid.first unlocking amid.last amid.states unlocking_comes.steps)

pub not_right_amid_an_order : IsRightThrough amid → ⊥
not_right_amid_an_order right =
    by ((at_the_last (λ moment now. OnlyNamedAt amid.zero [] empty moment now
    × IsRight amid.zero [] empty moment (among amid.staying now)) unlocking amid.last unlocking_comes.states
    right).1.0.locks 5 1 (omega arith) (λ one opened. opened)) where
      by : MayRelock (IsAmong [] 5) 1 2 (Some 0xFF) (Some 0x55) → ⊥
      by (inl same) = omega (arith, ap (λ (held : Option ℕ). or_none held) same)
      by (inr relocks) = absurd relocks.0

-- Exchanged after a read that a later order rests on: legal, but not by plan, and not right

read_before_legal : Legal empty read_before
read_before_legal = (
  (measured_legal, record { whole = (((tt, tt, refl), tt, tt), omega arith); due = tt; grounds = tt }),
  (refl, (refl, refl)),
)

pub unread_legal : Legal empty (opened_unread ++ read_before)
unread_legal = (
  (
    (
      (read_before_legal, tt),
      (refl, search),
    ),
    record { whole = ((((tt, tt, refl), tt, tt), tt, refl), omega arith); due = (refl, refl); grounds = tt },
  ),
  record {
    whole = (((((tt, tt, refl), tt, tt), tt, refl), refl, tt), omega arith);
    due = tt;
    grounds = (0x77, read_stands begun 5 0x00 0x77, omega arith, λ needed. absurd (omega (arith, needed)));
  },
)

pub unread_along : IsAlong unread
unread_along = record {
  fits = record {
    places = λ address bank location. refl;
    bytes = λ address bank location first byte lock was is. let never : None ≡ Some byte = is in cc;
    locks = λ address bank above closed. inl refl;
    indicators = λ address closed. refl;
  };
  only = λ address on. let never : false ≡ true = on in cc;
  work = (refl, (refl, (tt, (tt, tt))));
  chain =
      nobody_comes unread.staying no_units opened_unread no_units unread.states
      (refl, (refl, (refl, (refl, refl))));
}

pub unread_is_a_stay : IsStay empty (opened_unread ++ read_before) unread
unread_is_a_stay = record {
  before = read_before;
  later = [];
  is_part = refl;
  begins = record {
    newest = [];
    older = records_of empty read_before;
    are = refl;
    idle = refl;
    told = inr (refl, inl refl);
  };
  along = unread_along;
}

pub not_right_unless_planned : IsRightThrough unread → ⊥
not_right_unless_planned right = by right.0.1.3.grounds.1 where
  by : MayRelock (IsAmong [] 5) 1 0 (Some right.0.1.3.grounds.0) None → ⊥
  by (inl same) = cc
  by (inr relocks) = absurd relocks.0

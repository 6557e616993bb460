-- Two drives over a store, one after the other, are sittings, and what is near them is not.
use Rattle.std.proofs.Common.{◌≡◌, ◌≤◌, ◌∙◌, ◌++◌, refl, sym, ap, inl, inr, ℕ, List, [], ◌∷◌, Option, Some, None}
use Rattle.std.proofs.Common.{take, drop, take-append-drop, arith}
use Rattle.std.proofs.lemmas.List.{length-take-le}
use Rattle.std.specs.Prelude.{length}
use Rattle.dali_bus.specs.World.{Gear, World}
use Rattle.dali_bus.specs.Chain.{IsChain}
use Rattle.dali_bus.specs.Carry.{Carry, MayHear}
use Rattle.dali_frame.specs.declared.forward.Frame.TheVariants.{Dtr1}
use Rattle.dali_journal.proofs.SpellingLemmas.{none_begins_another}
use Rattle.dali_journal.specs.declared.record.Record.{Record}
use Rattle.dali_journal.specs.declared.record.Record.TheVariants.{Began}
use Rattle.dali_journal.specs.declared.version.Version.TheVariants.{Two}
use Rattle.dali_journal.specs.Spelling.{spelling}
use Rattle.dali_journal.specs.JournalState.{AreKept}
use Rattle.dali_journal.specs.Loading.{IsTorn, IsLoadable}
use Rattle.dali_engine.proofs.StopLemmas.{cut_of_some}
use Rattle.dali_trace.specs.declared.happening.Happening.{Happening}
use Rattle.dali_trace.specs.declared.happening.Happening.TheVariants.{Sent, Kept, Stopped}
use Rattle.dali_trace.specs.Legal.{IsFinished}
use Rattle.dali_trace.specs.Next.{IsNext}
use Rattle.dali_trace.specs.Moves.{Moves}
use Rattle.dali_trace.specs.Worked.{empty, first_order, taken, begun, alone, blank_unit}
use Rattle.dali_trace.specs.WorkedPlans.{first_frame}
use Rattle.dali_trace.proofs.WorkedLemmas.{begun_legal}
use Rattle.dali_trace.proofs.WorkedPlanLemmas.{first_planned}
use Rattle.dali_laws.specs.Joined.{Sitting}
use Rattle.dali_laws.specs.Stays.{IsAlong}
use Rattle.dali_laws.specs.WorkedStays.{at_rest, opened_once}
use Rattle.dali_laws.proofs.WorkedStayLemmas.{amid, not_right_amid_an_order, ready_when_blank, nobody_comes, all_stay}
use Rattle.dali_laws.proofs.StayLemmas.{ready_begins}
use Rattle.dali_store.specs.Opened.{Loads}
use Rattle.dali_store.proofs.OpenLemmas.{whole_loads}
use Rattle.dali_trace.specs.declared.fault.DriveFault.TheVariants.{Link, NoMemory}
use Rattle.dali_drive.specs.Driven.{IsDriven, IsBrokenDrive, LeavesBetween}
use Rattle.dali_drive.specs.Stored.{IsBegun, IsPartBehind}
use Rattle.dali_drive.specs.Sittings.{MayHaveHappened, KeptWhereWhole, BrokeOff}
use Rattle.dali_drive.specs.Kills.{FrameInHand, RecordInHand, WasKilled}
use Rattle.dali_drive.specs.Repeats.{IsSameFile, HasSat, HaveSat, ActOnce}
use Rattle.dali_drive.specs.WorkedSittings.{bare_file, begun_file, torn_file, before_on, after_taken, after_begun}
use Rattle.dali_drive.specs.WorkedSittings.{amid_frame, first_sitting, second_sitting, second_without_the_frame}
use Rattle.dali_drive.specs.WorkedSittings.{both_sittings, worlds}
use Rattle.dali_drive.proofs.KillLemmas.{one_records}
use Rattle.dali_drive.proofs.RepeatLemmas.{sat_so, loads_still, act_once}
use Rattle.dali_drive.proofs.WorkedDriveLemmas.{first_is_record, first_next, taken_line, no_record}
use Rattle.dali_drive.proofs.SittingLemmas.{broke_off}
use Rattle.dali_write.specs.declared.pace.Pace.TheVariants.{Checked}

none_kept : AreKept Two 10 []
none_kept = record { in_range = tt; whole = (tt, omega arith) }

one_kept : AreKept Two 10 (Began first_order 7 ∷ [])
one_kept = record { in_range = (first_is_record, tt); whole = ((tt, tt, refl), omega arith) }

begun_loads : Loads 10 (Began first_order 7 ∷ []) begun_file
begun_loads = whole_loads 10 (Began first_order 7 ∷ []) one_kept

torn_is : IsTorn Two torn_file [] 4
torn_is =
    let spelled = spelling Two (Began first_order 7) in
    let cut = cut_of_some (Began first_order 7) spelled 5 refl first_is_record (omega arith) in
    record { rest = take 5 spelled; spelled = refl; cut = cut; counts = refl }

torn_loads : Loads 10 [] torn_file
torn_loads = record { version = Two; len = 4; kept = none_kept; loadable = torn_is }

abbrev begun_on : (file : List ℕ) (counted : ℕ) → length file ≤ 100 → IsLoadable Two file [] counted
    → IsBegun 10 100 (before_on file)
begun_on file counted within holds = record {
  journal = record { records = []; limit = 10; room = 0; numbers = []; index_room = 0 };
  opened = record {
    version = Two;
    counted = counted;
    total = length file;
    found = record { bytes = file; shown = refl; within = within; total_is = refl; loaded = (refl, none_kept, holds) };
  };
  middle = Some bare_file;
  written = refl;
}

-- the order is taken, and begun

taken_driven : IsDriven empty taken (before_on bare_file) after_taken
taken_driven = record {
  legal = begun_legal.0;
  planned = first_planned.0.0;
  in_turn = (tt, (refl, tt));
  in_range = tt;
  text = record { heard = []; lines = refl; journal = refl; link = refl; answers = refl; out = sym taken_line };
}

begun_driven : IsDriven empty begun (before_on bare_file) after_begun
begun_driven = record {
  legal = begun_legal;
  planned = first_planned.0;
  in_turn = (tt, (tt, (refl, tt)));
  in_range = (first_is_record, tt);
  text = record { heard = []; lines = refl; journal = refl; link = refl; answers = refl; out = sym taken_line };
}

begun_next : IsNext empty taken (Kept (Began first_order 7))
begun_next = record { work = tt; may = begun_legal.1; planned = first_planned.0.1 }

-- The first is killed while it puts the record

pub first_killed : WasKilled 10 100 [] first_sitting torn_file
first_killed = record {
  pace = Checked;
  first = before_on [];
  now = after_taken;
  is_found = refl;
  begun = begun_on [] 0 (omega arith) (refl, refl, refl);
  older = taken;
  driven = taken_driven;
  past = taken;
  at = inr (inr (inl (record {
    entry = Began first_order 7;
    next = begun_next;
    in_range = first_is_record;
    count = 5;
    less = omega arith;
    is = refl;
    bytes = refl;
  })));
  is = refl;
}

-- The second is stopped while the frame is under way: it was carried, or it wasn't

abbrev frame_broken : IsBrokenDrive empty ((first_order, 7) ∷ []) Link (before_on bare_file) amid_frame
frame_broken = record {
  past = begun;
  rest = [];
  middle = after_begun;
  driven = begun_driven;
  asked = refl;
  broken = (
    Dtr1 1,
    (λ answer. record { work = tt; may = first_next.may; planned = first_next.planned }),
    inl (record {
      journal = refl;
      link = record { count = 3; within = omega arith; part = refl };
      answers = refl;
      out = refl;
    }),
  );
}

-- after the begun order no record is next, so none counts
stopped_amid_frame : (past : List Happening) → MayHaveHappened empty begun Link past → IsFinished past
    → BrokeOff 10 100 torn_file (record { start = empty; past = past }) begun_file
stopped_amid_frame past happened finished =
    broke_off Checked {first = before_on torn_file} refl (begun_on torn_file 4 (omega arith) torn_is) frame_broken
    begun_file
    ([], [], refl, refl) past happened finished (λ entry next. absurd (no_record entry next))

pub second_broke_off : BrokeOff 10 100 torn_file second_sitting begun_file
second_broke_off = stopped_amid_frame first_frame (inr (Sent (Dtr1 1) None, (Dtr1 1, None, refl, first_next), refl)) tt

pub or_without_the_frame : BrokeOff 10 100 torn_file second_without_the_frame begun_file
or_without_the_frame = stopped_amid_frame begun (inl refl) tt

pub both_sat : HaveSat 10 100 [] (second_sitting ∷ first_sitting ∷ []) begun_file
both_sat = (_, _, ([], _, inl refl, inr (inr first_killed), inl refl), inr (inl second_broke_off), inl refl)

-- Along the worlds of a blank unit that hears no frame they act as one

unheard : Carry (alone blank_unit) (Dtr1 1) None (alone blank_unit)
unheard = record { units = λ address. same address (alone blank_unit address); answers = tt } where
  same : (address : ℕ) (unit : Option Gear) → MayHear address unit (Dtr1 1) unit
  same address None = tt
  same address (Some gear) = inl refl

stays_along : (past : List Happening) (states : List World)
    → IsChain Moves (alone blank_unit) past (alone blank_unit) states
    → IsAlong (at_rest (alone blank_unit) past (alone blank_unit) states)
stays_along past states chain =
    let stay = at_rest (alone blank_unit) past (alone blank_unit) states in
    ready_begins stay [] refl refl ready_when_blank
    (all_stay empty (alone blank_unit) past (alone blank_unit) states chain)
    (nobody_comes stay.staying (alone blank_unit) past (alone blank_unit) states chain)

both_chain : IsChain Moves (alone blank_unit) both_sittings (alone blank_unit) worlds
both_chain = search unheard depth 12

pub both_act_once : ActOnce empty (second_sitting ∷ first_sitting ∷ []) begun_file
    (at_rest (alone blank_unit) both_sittings (alone blank_unit) worlds)
both_act_once =
    act_once empty 100 [] begun_file (second_sitting ∷ first_sitting ∷ []) _
    (record { version = Two; len = 0; kept = none_kept; loadable = (refl, refl, refl) }) both_sat (tt, (refl, tt))
    (record {
      before = [];
      later = [];
      is_part = refl;
      begins = record { newest = []; older = []; are = refl; idle = refl; told = inl (refl, inl refl) };
      along = stays_along both_sittings worlds both_chain;
    })

-- A unit that came between the two: the second drive is judged against what that held then, and acts once over it
pub over_a_new_unit : ActOnce empty (second_sitting ∷ first_sitting ∷ []) begun_file
    (at_rest (alone blank_unit) first_frame (alone blank_unit)
    (alone blank_unit ∷ alone blank_unit ∷ alone blank_unit ∷ alone blank_unit ∷ []))
over_a_new_unit =
    act_once empty 100 [] begun_file (second_sitting ∷ first_sitting ∷ []) _
    (record { version = Two; len = 0; kept = none_kept; loadable = (refl, refl, refl) }) both_sat (tt, (refl, tt))
    (record {
      before = Stopped Checked ∷ taken;
      later = [];
      is_part = refl;
      begins = record { newest = []; older = []; are = refl; idle = refl; told = inr (refl, inl refl) };
      along =
          stays_along first_frame (alone blank_unit ∷ alone blank_unit ∷ alone blank_unit ∷ alone blank_unit ∷ [])
          (search unheard depth 12);
    })

-- one that came while an order was opened: what is promised of other stays is not so of its
pub not_once_over_a_unit_that_came_amid : (sittings : List Sitting) (left : List ℕ)
    → ActOnce opened_once sittings left amid → ⊥
not_once_over_a_unit_that_came_amid sittings left once = not_right_amid_an_order once.right

-- Near misses of these

begun_not_bare : Loads 10 [] begun_file → ⊥
begun_not_bare here = let never = one_records 10 begun_file (Began first_order 7 ∷ []) [] begun_loads here in cc

torn_not_begun : Loads 10 (Began first_order 7 ∷ []) torn_file → ⊥
torn_not_begun here = let never = one_records 10 torn_file [] (Began first_order 7 ∷ []) torn_loads here in cc

-- a sitting from fewer records than were found
pub not_from_fewer : (left : List ℕ) → HasSat 10 100 begun_file first_sitting left → ⊥
not_from_fewer left sat = begun_not_bare (sat_so 10 100 begun_file first_sitting left sat).found_loads

-- a record that is cut off and counts as kept, and one that is whole and doesn't
pub not_kept_unless_whole : HasSat 10 100 [] second_without_the_frame torn_file → ⊥
not_kept_unless_whole sat = torn_not_begun (sat_so 10 100 [] second_without_the_frame torn_file sat).left_loads

pub kept_where_whole : HasSat 10 100 [] first_sitting begun_file → ⊥
kept_where_whole sat = begun_not_bare (sat_so 10 100 [] first_sitting begun_file sat).left_loads

pub not_counted_unless_whole : KeptWhereWhole empty taken begun torn_file → ⊥
not_counted_unless_whole counts = omega (arith, ap (length {A = ℕ}) ((counts (Began first_order 7) begun_next).0 refl))

pub counted_where_whole : KeptWhereWhole empty taken taken begun_file → ⊥
counted_where_whole counts =
    omega (arith, ap (length {A = Happening}) ((counts (Began first_order 7) begun_next).1 refl))

-- no frame is in hand before its record is kept, and no record that is whole
pub no_frame_before_its_record : (past : List Happening) (left : List ℕ) → FrameInHand empty taken past left → ⊥
no_frame_before_its_record past left hand = hand.next.planned

pub no_whole_record_in_hand : RecordInHand empty taken taken begun_file → ⊥
no_whole_record_in_hand hand =
    let bytes = spelling Two hand.entry in
    let rest = drop hand.count bytes in
    let front : spelling Two (Began first_order 7) ≡ take hand.count bytes = ap (drop 4) hand.bytes in
    let whole : bytes ≡ spelling Two (Began first_order 7) ++ rest =
    sym (take-append-drop hand.count bytes) ∙ ap (λ (l : List ℕ). l ++ rest) (sym front) in
    let same = none_begins_another Two (Began first_order 7) hand.entry rest first_is_record hand.in_range whole in
    let less = hand.less in
    omega (
      arith,
      ap (length {A = ℕ}) front,
      length-take-le hand.count bytes (omega (arith, less)),
      less,
      ap (λ (entry : Record). length (spelling Two entry)) same,
    )

-- a file of other records is no same one
pub no_same_file : IsSameFile 10 begun_file torn_file → ⊥
no_same_file same = torn_not_begun (loads_still 10 (Began first_order 7 ∷ []) begun_file torn_file same begun_loads)

-- a fault breaks off a step of its own, and want of memory none
pub no_step_without_memory : MayHaveHappened empty begun NoMemory first_frame → ⊥
no_step_without_memory (inl same) = omega (arith, ap (length {A = Happening}) same)
no_step_without_memory (inr (next, step, same)) = absurd step

pub no_record_of_the_link : MayHaveHappened empty taken Link begun → ⊥
no_record_of_the_link (inl same) = omega (arith, ap (length {A = Happening}) same)
no_record_of_the_link (inr (next, (frame, answer, is, may), same)) =
    let kept : next ≡ Kept (Began first_order 7) = cc in cc

-- what was kept before a step that was broken off may not be lost, nor more be left than was put
pub none_lost : LeavesBetween (Some begun_file) (Some begun_file) (λ c. c ≡ torn_file) → ⊥
none_lost left = omega (arith, ap (length {A = ℕ}) (left torn_file refl).2)

pub no_part_of_fewer : IsPartBehind 10 (Some begun_file) (Some begun_file) torn_file → ⊥
no_part_of_fewer (records, loads, (more, rest, front, whole)) =
    let same = one_records 10 begun_file (Began first_order 7 ∷ []) records begun_loads loads in
    omega (arith, ap (length {A = ℕ}) (rw same at front))

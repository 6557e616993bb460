-- The result of a drive over a store.
use Rattle.std.proofs.Common.{◌≡◌, ◌<◌, ◌≤◌, ◌⊎◌, refl, sym, ap, ◌∙◌, inl, inr, ℕ, List, [], ◌∷◌, ◌++◌, Option, Some}
use Rattle.std.proofs.Common.{None, length, take, drop, arith, length-append, take-append-drop}
use Rattle.std.proofs.lemmas.List.{append_assoc, append-nil, append_cancel_left}
use Rattle.std.specs.List.{AllByRecursion}
use Rattle.std.specs.Io.KnownBytes.{Appends, Keeps}
use Rattle.dali_bank.specs.Order.{Contents}
use Rattle.dali_frame.specs.declared.forward.Frame.{Frame}
use Rattle.dali_journal.specs.declared.record.Record.{Record}
use Rattle.dali_journal.specs.declared.version.Version.TheVariants.{Two}
use Rattle.dali_journal.specs.Spelling.{spelling, header, journal_spelling, IsRecord}
use Rattle.dali_journal.specs.Reading.{IsCutOf}
use Rattle.dali_journal.specs.JournalState.{AreKept}
use Rattle.dali_journal.proofs.AheadLemmas.{spelling_append}
use Rattle.dali_trace.specs.declared.happening.Happening.{Happening}
use Rattle.dali_trace.specs.declared.happening.Happening.TheVariants.{Asked, Answered, Sent, Kept}
use Rattle.dali_trace.specs.Cut.{kept_in}
use Rattle.dali_trace.specs.Trace.{Start, records_of}
use Rattle.dali_trace.specs.Legal.{Legal, IsFinished}
use Rattle.dali_trace.specs.ByPlan.{ByPlan}
use Rattle.dali_trace.specs.Next.{IsNext}
use Rattle.dali_laws.specs.Joined.{Sitting}
use Rattle.dali_laws.proofs.NextLemmas.{one_next}
use Rattle.dali_laws.proofs.RepeatLemmas.{legal_sentence}
use Rattle.dali_engine.specs.WriterState.{WriterState, start_by}
use Rattle.dali_engine.proofs.StopLemmas.{cut_of_none, cut_of_some}
use Rattle.dali_store.specs.Stores.{IsBetween}
use Rattle.dali_store.specs.Opened.{Loads}
use Rattle.dali_store.proofs.OpenLemmas.{found_loads, found_kept}
use Rattle.dali_trace.specs.declared.fault.DriveFault.{DriveFault}
use Rattle.dali_trace.specs.declared.fault.DriveFault.TheVariants.{Journal, Link, NoMemory, Out}
use Rattle.dali_drive.specs.Transcript.{Streams, recorded}
use Rattle.dali_drive.specs.Driven.{KeepsRecords, IsDriven, IsDrive, IsNextFrame, IsBrokenDrive, BrokenOff, CutRecord}
use Rattle.dali_drive.specs.Stored.{IsBegun}
use Rattle.dali_drive.specs.Sittings.{IsBrokenStep, MayHaveHappened, KeptWhereWhole, CameToItsEnd, BrokeOff}
use Rattle.dali_drive.specs.Kills.{IsKilledAt}
use Rattle.dali_write.specs.declared.pace.Pace.{Pace}

-- what a sitting is to the sittings around it
pub record IsSat (limit : ℕ) (found : List ℕ) (sitting : Sitting) (left : List ℕ) : Type 0 where
  pub limit_is : sitting.start.limit ≡ limit
  pub found_loads : Loads limit sitting.start.records found
  pub legal : Legal sitting.start sitting.past
  pub planned : ByPlan sitting.start sitting.past
  pub finished : IsFinished sitting.past
  pub left_loads : Loads limit (records_of sitting.start sitting.past) left

-- Bytes that are known

pub grown_known : (new : Option (List ℕ)) (was more : List ℕ) → Appends (Some was) new more → new ≡ Some (was ++ more)
grown_known new was more grown = grind arith

pub kept_known : (new : Option (List ℕ)) (was : List ℕ) → Keeps (Some was) new → new ≡ Some was
kept_known new was keeps = grind arith

-- what lies between known bytes has the first ones, and then a first part of what was put
between_known : (was more c : List ℕ) → IsBetween (Some was) (Some (was ++ more)) c
    → (front : List ℕ) × (rest : List ℕ) × (c ≡ was ++ front) × (more ≡ front ++ rest)
between_known was more c (front, rest, begins, whole) =
    let all = whole ∙ ap (λ (l : List ℕ). l ++ rest) begins ∙ append_assoc was front rest in
    (front, rest, begins, append_cancel_left was more (front ++ rest) all)

pub between_still : (was c : List ℕ) → IsBetween (Some was) (Some was) c → c ≡ was
between_still was c ([], rest, begins, whole) = begins ∙ append-nil was
between_still was c (x ∷ front, rest, begins, whole) =
    absurd (omega (arith, ap (length {A = ℕ}) begins, ap (length {A = ℕ}) whole, length-append {A = ℕ}))

-- The records in the journal along a trace

-- the journal's bytes are those of the start and the recorded ones
pub journal_recorded : (start : Start) (past : List Happening)
    → journal_spelling Two (records_of start past) ≡ journal_spelling Two start.records ++ recorded past
journal_recorded start past = ap (λ (b : List ℕ). header Two ++ b) (spelling_append (kept_in past) start.records)

pub all_both : (newer older : List Record) → AllByRecursion (IsRecord Two) newer → AllByRecursion (IsRecord Two) older
    → AllByRecursion (IsRecord Two) (newer ++ older)
all_both [] older now then = then
all_both (entry ∷ newer) older now then = (now.0, all_both newer older now.1 then)

pub kept_so : (start : Start) (past : List Happening) → AreKept Two start.limit start.records → Legal start past
    → KeepsRecords past → AreKept Two start.limit (records_of start past)
kept_so start past kept legal keeps = record {
  in_range = all_both (kept_in past) start.records keeps kept.in_range;
  whole = legal_sentence start past legal;
}

pub drive_holds : {start : Start} {past : List Happening} {first last : Streams} → IsDriven start past first last
    → first.journal ≡ Some (journal_spelling Two start.records)
    → last.journal ≡ Some (journal_spelling Two (records_of start past))
drive_holds {start} {past} {first} {last} d is =
    grown_known last.journal (journal_spelling Two start.records) (recorded past) (rw is at d.text.journal)
    ∙ ap Some (sym (journal_recorded start past))

-- if a frame or a record is next, no reply is due
frame_finished : (start : Start) (past : List Happening) (frame : Frame) → IsNextFrame start past frame
    → IsFinished past
frame_finished start (Asked order moment ∷ past) frame next = absurd (next None).may
frame_finished start _ frame next = tt

pub record_finished : (start : Start) (past : List Happening) (entry : Record) → IsNext start past (Kept entry)
    → IsFinished past
record_finished start (Asked order moment ∷ past) entry next = absurd next.may
record_finished start _ entry next = tt

-- a record has bytes, so a journal with one more is another
has_bytes : (entry : Record) → 0 < length (spelling Two entry)
has_bytes entry = grind arith

-- A drive over a store that showed these bytes

-- legal and by plan, and the records are in their ranges
abbrev pub IsTrail : Start → List Happening → Type 0
IsTrail start past = Legal start past × ByPlan start past × KeepsRecords past

-- the streams once the journal was opened
abbrev pub from : {limit most : ℕ} {first : Streams} → IsBegun limit most first → Streams
from {limit} {most} {first} b = record first { journal = b.middle }

module _ {limit most : ℕ} {found : List ℕ} {first : Streams} (is : first.journal ≡ Some found)
    (b : IsBegun limit most first) where
  pub made : b.middle ≡ Some (journal_spelling Two b.journal.records)
  made = let written = rw is at b.written in grind arith

  pub loads : Loads limit b.journal.records found
  loads = rw (rw is at b.opened.found.shown) (found_loads limit most first.journal b.journal _ _ _ b.opened.found)

module _ (pace : Pace) {limit most : ℕ} {found : List ℕ} {first : Streams} (is : first.journal ≡ Some found)
    (b : IsBegun limit most first) where
  abbrev Sat : List Happening → List ℕ → Type 0
  Sat past left = IsSat limit found (record { start = start_by pace b.journal; past = past }) left

  so : (past : List Happening) → IsTrail (start_by pace b.journal) past
      → AreKept Two limit (records_of (start_by pace b.journal) past)
  so past trail =
      let kept = found_kept limit most first.journal b.journal _ _ _ b.opened.found in
      let limit_is = b.opened.found.loaded.0 in
      rw limit_is at (kept_so (start_by pace b.journal) past (rw limit_is kept) trail.0 trail.2)

  -- its records are there, followed by part of another, or nothing
  with_left : (past : List Happening) (left rest : List ℕ) → IsTrail (start_by pace b.journal) past → IsFinished past
      → (last : Record) × IsCutOf Two rest last
      → left ≡ journal_spelling Two (records_of (start_by pace b.journal) past) ++ rest → Sat past left
  with_left past left rest trail finished cut same =
      let loads_left : Loads limit (records_of (start_by pace b.journal) past) left = rw same (record {
        version = Two;
        len = length (journal_spelling Two (records_of (start_by pace b.journal) past));
        kept = so past trail;
        loadable = record { rest = rest; spelled = refl; cut = cut; counts = refl };
      }) in
      assumption (b.opened.found.loaded, loads is b)

  whole : (past : List Happening) (left : List ℕ) → IsTrail (start_by pace b.journal) past → IsFinished past
      → left ≡ journal_spelling Two (records_of (start_by pace b.journal) past) → Sat past left
  whole past left trail finished same = with_left past left [] trail finished cut_of_none (same ∙ sym (append-nil _))

  -- whatever was in hand where it was killed
  pub sat_killed : (older past : List Happening) (left : List ℕ) → IsTrail (start_by pace b.journal) older
      → IsKilledAt (start_by pace b.journal) older past left → Sat past left
  sat_killed older past left t (inl none) = rw none.is (whole older left t none.finished none.bytes)
  sat_killed older past left t (inr (inl sent)) =
      rw sent.is (whole (Sent sent.frame sent.answer ∷ older) left ((t.0, sent.next.may), (t.1, sent.next.planned), t.2)
      tt sent.bytes)
  sat_killed older past left t (inr (inr (inl cut))) =
      rw cut.is (with_left older left (take cut.count (spelling Two cut.entry)) t
      (record_finished (start_by pace b.journal) older cut.entry cut.next)
      (cut_of_some cut.entry (spelling Two cut.entry) cut.count refl cut.in_range cut.less) cut.bytes)
  sat_killed older past left t (inr (inr (inr said))) =
      rw said.is (whole (Answered said.id said.reply ∷ older) left
      ((t.0, said.next.may), (t.1, said.next.planned), t.2) tt said.bytes)

  pub came_to_its_end : {orders : List (Contents × ℕ)} {writer : WriterState} {last : Streams} {left : List ℕ}
      (d : IsDrive (start_by pace b.journal) orders (from b) writer last) → last.journal ≡ Some left
      → CameToItsEnd limit most found (record { start = start_by pace b.journal; past = d.past }) left
  came_to_its_end {orders} {writer} {last} {left} d held = record {
    pace = pace;
    orders = orders;
    first = first;
    writer = writer;
    last = last;
    is_found = is;
    begun = b;
    drive = d;
    is_left = held;
    is = refl;
  }

-- A drive that broke off

step_next : (start : Start) (past : List Happening) (fault : DriveFault) (next : Happening)
    → IsBrokenStep start past fault next → IsNext start past next
step_next start past Journal next step = step.2
step_next start past NoMemory next never = absurd never
step_next start past Out next step = step.3
step_next start past fault next step = step.3

module _ (start : Start) (past : List Happening) (old new : Streams) where
  -- nothing was put into the journal, and so much may have happened without a record; or a record was put, or a part
  abbrev pub BrokeWith : DriveFault → Type 0
  BrokeWith fault =
      (Keeps old.journal new.journal × (then : List Happening) × MayHaveHappened start past fault then × IsFinished then
      × ((entry : Record) → then ≡ Kept entry ∷ past → ⊥))
      ⊎ ((fault ≡ Journal) × ((entry : Record) × IsNext start past (Kept entry) × CutRecord entry old new))

  still_past : (fault : DriveFault) → Keeps old.journal new.journal → IsFinished past → BrokeWith fault
  still_past fault keeps finished =
      inl (keeps, past, inl refl, finished, λ entry same. omega (arith, ap (length {A = Happening}) same))

  pub broke_with : (fault : DriveFault) (rest : List (Contents × ℕ)) → BrokenOff start past rest fault old new
      → BrokeWith fault
  broke_with Journal rest off = inr (refl, off)
  broke_with Out rest off =
      let said : Happening = Answered off.0 off.1 in
      inl (off.3.journal, said ∷ past, inr (said, (off.0, off.1, refl, off.2), refl), tt, λ entry same. cc)
  broke_with NoMemory [] never = absurd never
  broke_with NoMemory (order ∷ rest) off = still_past NoMemory off.3.journal off.0
  broke_with Link rest (frame, next, inl cut) = still_past Link cut.journal (frame_finished start past frame next)
  broke_with Link rest (frame, next, inr none) = still_past Link none.journal (frame_finished start past frame next)
  broke_with fault rest off = still_past fault off.2.journal (frame_finished start past off.0 off.1)

module _ (pace : Pace) {limit most : ℕ} {found : List ℕ} {first last : Streams} (is : first.journal ≡ Some found)
    (b : IsBegun limit most first) {orders : List (Contents × ℕ)} {fault : DriveFault}
    (d : IsBrokenDrive (start_by pace b.journal) orders fault (from b) last) (left : List ℕ)
    (between : IsBetween d.middle.journal last.journal left) where
  abbrev begins : Start
  begins = start_by pace b.journal

  abbrev was : List ℕ
  was = journal_spelling Two (records_of begins d.past)

  at_middle : d.middle.journal ≡ Some was
  at_middle = drive_holds d.driven (made is b)

  still : Keeps d.middle.journal last.journal → left ≡ was
  still keeps = between_still was left (rw (at_middle, kept_known last.journal was (rw at_middle at keeps)) at between)

  -- this much of a record was put
  abbrev HasPart : Record → Type 0
  HasPart entry = (part : List ℕ) × (more : List ℕ) × (left ≡ was ++ part) × (spelling Two entry ≡ part ++ more)

  part_left : (entry : Record) → CutRecord entry d.middle last → HasPart entry
  part_left entry cut =
      let sp = spelling Two entry in
      let n = cut.journal.count in
      let now = grown_known last.journal was (take n sp) (rw at_middle at cut.journal.part) in
      let k = between_known was (take n sp) left (rw (at_middle, now) at between) in
      let whole : sp ≡ k.0 ++ (k.1 ++ drop n sp) =
      sym (take-append-drop n sp) ∙ ap (λ (l : List ℕ). l ++ drop n sp) k.3 ∙ append_assoc k.0 k.1 (drop n sp) in
      (k.0, k.1 ++ drop n sp, k.2, whole)

  -- if a record is whole there, no less was put
  longer : (part : List ℕ) (entry : Record) → left ≡ was ++ part → left ≡ was ++ spelling Two entry
      → length (spelling Two entry) ≤ length part
  longer part entry same all =
      omega (arith, ap (length {A = ℕ}) (append_cancel_left was part (spelling Two entry) (sym same ∙ all)))

  one_kept : (entry other : Record) → IsNext begins d.past (Kept entry) → IsNext begins d.past (Kept other)
      → other ≡ entry
  one_kept entry other next also =
      let one : Kept other ≡ Kept entry = one_next begins d.past (Kept entry) (Kept other) d.driven.legal next also in
      cc

  trail : IsTrail begins d.past
  trail = (d.driven.legal, d.driven.planned, d.driven.in_range)

  pub sat_broken : (past : List Happening) → MayHaveHappened begins d.past fault past → IsFinished past
      → KeptWhereWhole begins d.past past left → IsSat limit found (record { start = begins; past = past }) left
  sat_broken past happened finished counts = by happened broke where
    broke : BrokeWith begins d.past d.middle last fault
    broke = broke_with begins d.past d.middle last fault d.rest d.broken

    kept : (entry : Record) → IsNext begins d.past (Kept entry) → IsRecord Two entry
        → left ≡ was ++ spelling Two entry → Sat pace is b past left
    kept entry next range all =
        rw ((counts entry next).1 all) (whole pace is b (Kept entry ∷ d.past) left
        ((trail.0, next.may), (trail.1, next.planned), (range, trail.2)) tt all)

    part_kept : (entry : Record) → IsNext begins d.past (Kept entry) → IsRecord Two entry → HasPart entry
        → past ≡ d.past → Sat pace is b past left
    part_kept entry next range (part, [], same, spelled) is_trace =
        kept entry next range (rw (spelled, append-nil) same)
    part_kept entry next range (part, x ∷ more, same, spelled) is_trace =
        rw is_trace (with_left pace is b d.past left part trail (record_finished begins d.past entry next)
        (entry, (range, x ∷ more, (λ e. cc), spelled)) same)

    no_record : (next : Happening) → IsNext begins d.past next → past ≡ next ∷ d.past → left ≡ was
        → Sat pace is b past left
    no_record (Kept entry) next grown same =
        let all = longer [] entry (same ∙ sym (append-nil was)) ((counts entry next).0 grown) in
        absurd (omega (arith, all, has_bytes entry))
    no_record newest next grown same =
        rw grown (whole pace is b (newest ∷ d.past) left ((trail.0, next.may), (trail.1, next.planned), trail.2)
        (rw grown at finished) same)

    by : MayHaveHappened begins d.past fault past → BrokeWith begins d.past d.middle last fault
        → Sat pace is b past left
    by (inl is_trace) (inl (keeps, _, _, _, _)) =
        rw is_trace (whole pace is b d.past left trail (rw is_trace at finished) (still keeps))
    by (inl is_trace) (inr (_, (entry, next, cut))) = part_kept entry next cut.in_range (part_left entry cut) is_trace
    by (inr (next, step, is_more)) (inl (keeps, _, _, _, _)) =
        no_record next (step_next begins d.past fault next step) is_more (still keeps)
    by (inr (next, step, is_more)) (inr (_, (entry, also, cut))) =
        let one : next ≡ Kept entry =
        one_next begins d.past (Kept entry) next d.driven.legal also (step_next begins d.past fault next step) in
        kept entry also cut.in_range ((counts entry also).0 (is_more ∙ ap (λ (h : Happening). h ∷ d.past) one))

  -- Something may have happened

  pub broke_off : (past : List Happening) → MayHaveHappened begins d.past fault past → IsFinished past
      → KeptWhereWhole begins d.past past left
      → BrokeOff limit most found (record { start = begins; past = past }) left
  broke_off past happened finished counts = record {
    pace = pace;
    orders = orders;
    fault = fault;
    first = first;
    last = last;
    is_found = is;
    begun = b;
    drive = d;
    is_left = between;
    past = past;
    happened = happened;
    finished = finished;
    counts = counts;
    is = refl;
  }

  abbrev Made : Type 0
  Made = (past : List Happening) × BrokeOff limit most found (record { start = begins; past = past }) left

  pub some_broken : Made
  some_broken = by (broke_with begins d.past d.middle last fault d.rest d.broken) where
    -- less than a record was put, so none is kept
    less_put : (past : List Happening) (part : List ℕ) → left ≡ was ++ part
        → ((entry : Record) → past ≡ Kept entry ∷ d.past → ⊥)
        → ((entry : Record) → IsNext begins d.past (Kept entry) → length part < length (spelling Two entry))
        → KeptWhereWhole begins d.past past left
    less_put past part same none short entry next = (
      λ grown. absurd (none entry grown),
      λ whole. absurd (omega (arith, short entry next, longer part entry same whole)),
    )

    of_record : (entry : Record) → fault ≡ Journal → IsNext begins d.past (Kept entry) → HasPart entry → Made
    of_record entry journal next (part, [], same, spelled) = (
      Kept entry ∷ d.past,
      broke_off (Kept entry ∷ d.past)
          (inr (Kept entry, rw journal (entry, refl, next), refl)) tt (λ other also.
          let one = one_kept entry other next also in
          (λ grown. rw (one, spelled, append-nil) same, λ whole. rw one)),
    )
    of_record entry journal next (part, x ∷ more, same, spelled) =
        let less : length part < length (spelling Two entry) =
        omega (arith, ap (length {A = ℕ}) spelled, length-append {A = ℕ}) in (
          d.past,
          broke_off d.past (inl refl) (record_finished begins d.past entry next)
              (less_put d.past part same (λ other grown. omega (arith, ap (length {A = Happening}) grown))
              (λ other also. rw (one_kept entry other next also) less)),
        )

    by : BrokeWith begins d.past d.middle last fault → Made
    by (inl (keeps, past, happened, finished, none)) = (
      past,
      broke_off past happened finished (less_put past [] (still keeps ∙ sym (append-nil was)) none
          (λ entry next. has_bytes entry)),
    )
    by (inr (journal, (entry, next, cut))) = of_record entry journal next (part_left entry cut)

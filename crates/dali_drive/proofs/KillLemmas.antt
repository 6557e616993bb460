-- A drive over a store that is killed at some moment.
use Rattle.std.proofs.Common.{◌≡◌, ◌<◌, ◌≤◌, ◌⊎◌, refl, sym, ap, ◌∙◌, inl, inr, ℕ, List, [], ◌∷◌, ◌++◌, Option, Some}
use Rattle.std.proofs.Common.{length, take, drop, arith, length-append, take-append-drop}
use Rattle.std.proofs.lemmas.Bool.{cases_lt}
use Rattle.std.proofs.lemmas.List.{append_assoc, append-nil, append_cancel_left, take_at}
use Rattle.std.specs.Io.KnownBytes.{Appends, Consumes, Keeps, append_known, prepend_known}
use Rattle.dali_bank.specs.Order.{Contents}
use Rattle.dali_journal.specs.declared.record.Record.{Record}
use Rattle.dali_journal.specs.declared.version.Version.TheVariants.{Two}
use Rattle.dali_journal.specs.Spelling.{spelling, journal_spelling}
use Rattle.dali_journal.proofs.TornLemmas.{torn_no_fault}
use Rattle.dali_trace.specs.declared.happening.Happening.{Happening}
use Rattle.dali_trace.specs.declared.happening.Happening.TheVariants.{Sent, Kept}
use Rattle.dali_trace.specs.Trace.{Start, records_of}
use Rattle.dali_trace.specs.Legal.{IsFinished}
use Rattle.dali_trace.specs.Next.{IsNext}
use Rattle.dali_engine.specs.WriterState.{WriterState, start_by}
use Rattle.dali_store.specs.Opened.{Loads}
use Rattle.dali_store.proofs.OpenLemmas.{split_front}
use Rattle.dali_trace.specs.declared.fault.DriveFault.{DriveFault}
use Rattle.dali_drive.specs.Transcript.{Streams, Transcript, AreAnswers, recorded, sent_lines, said_lines, shown}
use Rattle.dali_drive.specs.Driven.{KeepsRecords, IsDriven, IsDrive, IsBrokenDrive}
use Rattle.dali_drive.specs.Stored.{IsBegun, IsPartBehind}
use Rattle.dali_drive.specs.Kills.{RecordInHand, IsKilledAt, MayHaveDriven, StoodOnce}
use Rattle.dali_drive.proofs.SittingLemmas.{made, loads, drive_holds, journal_recorded, grown_known, kept_known}
use Rattle.dali_drive.proofs.SittingLemmas.{IsTrail, from, BrokeWith, broke_with}
use Rattle.dali_drive.proofs.DriveLemmas.{keeps_on}
use Rattle.dali_write.specs.declared.pace.Pace.{Pace}

-- A driven trace cut short is driven

appends_known : (a : Option (List ℕ)) (bytes : List ℕ) → Appends a (append_known a bytes) bytes
appends_known a bytes = grind arith

consumes_front : (a b : Option (List ℕ)) (x y : List ℕ) → Consumes a b (x ++ y) → Consumes a (prepend_known y b) x
consumes_front a b x y taken = grind (arith, append_assoc {A = ℕ})

-- the text of a trace, with its link's answers in this rest
text_at : (past : List Happening) (first : Streams) (rest : Option (List ℕ)) (heard : List ℕ) → AreAnswers past heard
    → Consumes first.answers rest heard → (now : Streams) × Transcript past first now
text_at past first rest heard lines taken = (
  shown (append_known first.journal (recorded past)) (append_known first.link (sent_lines past)) rest
      (append_known first.out (said_lines past)),
  search appends_known,
)

text_before : (next : Happening) (past : List Happening) (first last : Streams) → Transcript (next ∷ past) first last
    → (now : Streams) × Transcript past first now
text_before (Sent frame answer) past first last t =
    text_at past first (prepend_known t.lines.1 last.answers) t.lines.0 t.lines.2
    (consumes_front first.answers last.answers t.lines.0 t.lines.1 (rw t.lines.4 at t.answers))
text_before _ past first last t = text_at past first last.answers t.heard t.lines t.answers

range_before : (next : Happening) (past : List Happening) → KeepsRecords (next ∷ past) → KeepsRecords past
range_before (Kept entry) past keeps = keeps.1
range_before _ past keeps = keeps

driven_older : (start : Start) (newer older : List Happening) (first last : Streams)
    → IsDriven start (newer ++ older) first last → (now : Streams) × IsDriven start older first now
driven_older start [] older first last d = (last, d)
driven_older start (next ∷ newer) older first last d =
    let text = text_before next (newer ++ older) first last d.text in
    let range = range_before next (newer ++ older) d.in_range in
    driven_older start newer older first text.0 (search)

-- Some moment of a trail at which it was killed so that this is left

abbrev StandsAt : Start → List Happening → List ℕ → Type 0
StandsAt start trail left =
    (newer : List Happening) × (older : List Happening) × (past : List Happening) × (trail ≡ newer ++ older)
    × IsKilledAt start older past left

stands_whole : (start : Start) (past : List Happening) (left : List ℕ) → IsFinished past
    → left ≡ journal_spelling Two (records_of start past) → StandsAt start past left
stands_whole start past left finished is =
    ([], past, past, refl, inl (record { is = refl; finished = finished; bytes = is }))

one_more : (start : Start) (next : Happening) (past : List Happening) (left : List ℕ) → StandsAt start past left
    → StandsAt start (next ∷ past) left
one_more start next past left s = (next ∷ s.0, s.1, s.2, ap (◌∷◌ next) s.3, s.4)

-- the bytes with all of the start's records are a first part of them and the recorded ones
stands_at : (start : Start) (past : List Happening) (left more rest : List ℕ) → IsTrail start past
    → left ≡ journal_spelling Two start.records ++ more
    → journal_spelling Two start.records ++ recorded past ≡ left ++ rest → StandsAt start past left
stands_at start [] left [] rest trail is all =
    stands_whole start [] left tt (is ∙ append-nil (journal_spelling Two start.records))
stands_at start [] left (x ∷ more) rest trail is all =
    let J = journal_spelling Two start.records in
    let none : [] ≡ (x ∷ more) ++ rest =
    append_cancel_left J [] ((x ∷ more) ++ rest)
    (all ∙ ap (λ (l : List ℕ). l ++ rest) is ∙ append_assoc J (x ∷ more) rest) in cc
stands_at start (Kept entry ∷ past) left more rest trail is all =
    by (cases_lt (length left) (length B))
    (λ m is_part. stands_at start past left more m (trail.0.0, trail.1.0, trail.2.1) is is_part)
  where
    B : List ℕ
    B = journal_spelling Two start.records ++ recorded past

    sp : List ℕ
    sp = spelling Two entry

    same : B ++ sp ≡ left ++ rest
    same = append_assoc (journal_spelling Two start.records) (recorded past) sp ∙ all

    were : B ≡ journal_spelling Two (records_of start past)
    were = sym (journal_recorded start past)

    behind : (m tail : List ℕ) → left ≡ B ++ m → sp ≡ m ++ tail → StandsAt start (Kept entry ∷ past) left
    behind m [] front whole = stands_whole start (Kept entry ∷ past) left tt (cc (front, were, whole, append-nil m))
    behind m (x ∷ tail) front whole =
        let next : IsNext start past (Kept entry) = record { work = tt; may = trail.0.1; planned = trail.1.1 } in
        let in_hand : RecordInHand start past past left = record {
          entry = entry;
          next = next;
          in_range = trail.2.0;
          count = length m;
          less = omega (arith, ap (length {A = ℕ}) whole, length-append {A = ℕ});
          is = refl;
          bytes = rw (whole, take_at m (x ∷ tail) (length m) refl) (cc (front, were));
        } in
        (Kept entry ∷ [], past, past, refl, inr (inr (inl in_hand)))

    by : (length left < length B) ⊎ (length B ≤ length left) → ((m : List ℕ) → B ≡ left ++ m → StandsAt start past left)
        → StandsAt start (Kept entry ∷ past) left
    by (inl less) older =
        let s = split_front left rest B sp (sym same) (omega (arith, less)) in
        one_more start (Kept entry) past left (older s.0 s.1)
    by (inr more_of) older =
        let s = split_front B sp left rest same more_of in behind s.0 rest s.1 s.2
stands_at start (next ∷ past) left more rest trail is all =
    one_more start next past left (stands_at start past left more rest (trail.0.0, trail.1.0, trail.2) is all)

-- Whatever a stop may leave after a journal that was opened is left by a kill at some moment

-- bytes that load to some records load to no others
pub one_records : (limit : ℕ) (bytes : List ℕ) (one other : List Record) → Loads limit one bytes
    → Loads limit other bytes → other ≡ one
one_records limit bytes one other a b =
    ((torn_no_fault limit bytes a.version one a.len a.kept a.loadable).2 b.version other b.len b.kept b.loadable).1

module _ (pace : Pace) {limit most : ℕ} {found seen left : List ℕ} {first : Streams} (last : Streams)
    (is : first.journal ≡ Some found) (held : last.journal ≡ Some seen) (b : IsBegun limit most first)
    (orders : List (Contents × ℕ)) (part : IsPartBehind limit (Some found) (Some seen) left) where
  abbrev J : List ℕ
  J = journal_spelling Two b.journal.records

  stood : (trail : List Happening) (rest : List ℕ) (end : Streams)
      → IsDriven (start_by pace b.journal) trail (from b) end
      → MayHaveDriven limit most first trail last → J ++ recorded trail ≡ left ++ rest
      → StoodOnce limit most found left first last
  stood trail rest end d drove all =
      let front : left ≡ J ++ part.2.0 =
      rw (one_records limit found part.0 b.journal.records part.1 (loads is b)) part.2.2 in
      let at = stands_at (start_by pace b.journal) trail left part.2.0 rest (d.legal, d.planned, d.in_range) front all
      in
      let older = driven_older (start_by pace b.journal) at.0 at.1 (from b) end (rw at.3 at d) in record {
        trail = trail;
        drove = drove;
        sitting = record { start = start_by pace b.journal; past = at.2 };
        killed = record {
          pace = pace;
          first = first;
          now = older.0;
          is_found = is;
          begun = b;
          older = at.1;
          driven = older.1;
          past = at.2;
          at = at.4;
          is = refl;
        };
        newer = at.0;
        split = at.3;
      }

  -- all that it wrote is seen
  stood_seen : (trail : List Happening) (end : Streams) → IsDriven (start_by pace b.journal) trail (from b) end
      → MayHaveDriven limit most first trail last → Keeps end.journal last.journal
      → StoodOnce limit most found left first last
  stood_seen trail end d drove keeps =
      let end_is = drive_holds d (made is b) in
      let last_is = kept_known last.journal _ (rw end_is at keeps) in
      let same : seen ≡ journal_spelling Two (records_of (start_by pace b.journal) trail) = cc in
      stood trail part.2.1 end d drove (sym (journal_recorded (start_by pace b.journal) trail) ∙ sym same ∙ part.2.3)

  pub stood_in : (writer : WriterState) → IsDrive (start_by pace b.journal) orders (from b) writer last
      → StoodOnce limit most found left first last
  stood_in writer d = stood_seen d.past last d.driven (b, pace, orders, inl (writer, d, refl)) (rw held refl)

  pub stood_before : (fault : DriveFault) → IsBrokenDrive (start_by pace b.journal) orders fault (from b) last
      → StoodOnce limit most found left first last
  stood_before fault d = by (broke_with (start_by pace b.journal) d.past d.middle last fault d.rest d.broken) where
    by : BrokeWith (start_by pace b.journal) d.past d.middle last fault → StoodOnce limit most found left first last
    by (inl (keeps, _, _, _, _)) = stood_seen d.past d.middle d.driven (b, pace, orders, inr (fault, d, inl refl)) keeps
    by (inr (journal, (entry, next, cut))) =
        let sp = spelling Two entry in
        let n = cut.journal.count in
        let was = journal_spelling Two (records_of (start_by pace b.journal) d.past) in
        let last_is =
        grown_known last.journal was (take n sp) (rw (drive_holds d.driven (made is b)) at cut.journal.part) in
        let now : seen ≡ (J ++ recorded d.past) ++ take n sp =
        cc (held, last_is, journal_recorded (start_by pace b.journal) d.past) in
        let all : J ++ (recorded d.past ++ sp) ≡ left ++ (part.2.1 ++ drop n sp) =
        sym (append_assoc J (recorded d.past) sp)
        ∙ ap (λ (l : List ℕ). (J ++ recorded d.past) ++ l) (sym (take-append-drop n sp))
        ∙ sym (append_assoc (J ++ recorded d.past) (take n sp) (drop n sp))
        ∙ ap (λ (l : List ℕ). l ++ drop n sp) (sym now ∙ part.2.3) ∙ append_assoc left part.2.1 (drop n sp) in
        let more = append_known d.middle.journal sp in
        stood (Kept entry ∷ d.past) (part.2.1 ++ drop n sp) (record d.middle { journal = more })
        (keeps_on (start_by pace b.journal) d.past (from b) d.middle.journal more d.middle.link d.middle.answers
        d.middle.out
        entry d.driven next cut.in_range (appends_known d.middle.journal sp))
        (b, pace, orders, inr (fault, d, inr (Kept entry, rw journal (entry, refl, next), refl))) all

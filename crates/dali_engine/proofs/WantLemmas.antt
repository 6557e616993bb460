-- The thing that a writer wants may happen.
use Rattle.std.proofs.Common.{◌≡◌, refl, sym, subst, List, [], ◌∷◌, Option, Some, None, IsSome, ℕ}
use Rattle.dali_bank.specs.Order.{Contents}
use Rattle.dali_frame.specs.declared.forward.Frame.{Frame}
use Rattle.dali_journal.specs.declared.record.Record.{Record}
use Rattle.dali_journal.specs.declared.record.Record.TheVariants.{Began, Opened, Ended, Closed}
use Rattle.dali_journal.specs.declared.standing.Standing.{Standing}
use Rattle.dali_journal.specs.declared.standing.Standing.TheVariants as standings
use Rattle.dali_journal.specs.JournalState.{JournalState}
use Rattle.dali_write.specs.Exchanges.{Exchange}
use Rattle.dali_write.specs.declared.ask.Ask.{Ask}
use Rattle.dali_write.specs.declared.ask.Ask.TheVariants as asks
use Rattle.dali_write.specs.declared.ask.Verdict.{Verdict}
use Rattle.dali_write.specs.Told.{unit_of, aim_of}
use Rattle.dali_write.specs.Touches.{writes_of}
use Rattle.dali_write.specs.Guards.{IsGuarded as IsGuardedFrame}
use Rattle.dali_write.proofs.GuardLemmas.{older_guarded}
use Rattle.dali_write.proofs.SessionLemmas.{fresh_sends, opened_sends, closing_sends, fresh_wants, opened_wants}
use Rattle.dali_write.proofs.SessionLemmas.{closing_wants}
use Rattle.dali_trace.specs.declared.happening.Happening.{Happening}
use Rattle.dali_trace.specs.declared.happening.Happening.TheVariants.{Sent, Kept}
use Rattle.dali_trace.specs.declared.happening.Want.{Want}
use Rattle.dali_trace.specs.declared.happening.Want.TheVariants.{Keep, Send, Say}
use Rattle.dali_trace.specs.declared.happening.Want.TheVariants as wants
use Rattle.dali_engine.specs.declared.phase.Phase.{Phase}
use Rattle.dali_engine.specs.declared.phase.Phase.TheVariants.{Idle, Begins, Checks, Writes, Closes, Says}
use Rattle.dali_trace.specs.Trace.{pace_at, waiting_since}
use Rattle.dali_trace.specs.Trace.{Start, standing_at, sent_of, sent_since_taken, waiting}
use Rattle.dali_trace.specs.Legal.{Legal, MaySend, MayKeep}
use Rattle.dali_engine.specs.Phases.{want_of, check_of, write_of, check_record, write_code}
use Rattle.dali_engine.specs.WriterState.{IsReady}
use Rattle.dali_engine.specs.Describes.{Describes}
use Rattle.dali_trace.specs.Grounds.{EndsIn}
use Rattle.dali_trace.specs.ByPlan.{told_in, Asks, IsPlanned}
use Rattle.dali_engine.specs.Follows.{Follows}
use Rattle.dali_trace.specs.Parts.{NextRecord, IsKeptNext}
use Rattle.dali_trace.specs.Next.{IsNext, IsDone}
use Rattle.dali_laws.proofs.AgreeLemmas.{may_follow}
use Rattle.dali_engine.proofs.StepLemmas.{stands_so, since_part, fresh_may, opened_may, closing_may}
use Rattle.dali_engine.proofs.SayLemmas.{check_sends, write_sends, closing_sends_it, said_on}
use Rattle.dali_engine.proofs.KeepLemmas.{begun_may, checked_may, written_on, closed_on, same_entry, closing_keeps}
use Rattle.dali_engine.proofs.FollowLemmas.{said_follows}
use Rattle.dali_engine.proofs.NextRecordLemmas.{next_record}
use Rattle.dali_write.specs.declared.pace.Pace.{Pace}

may_send : (pace : Pace) (start : Start) (past : List Happening) (journal : JournalState) (phase : Phase)
    (frame : Frame)
    → Describes start past (record { journal = journal; phase = phase; pace = pace }) → IsReady pace phase journal
    → want_of phase ≡ Send frame → MaySend past (standing_at start past) frame
may_send pace start past journal Idle frame d ready e = cc
may_send pace start past journal (Begins order moment) frame d ready e = cc
may_send pace start past journal (Says id code) frame d ready e = cc
may_send pace start past journal (Checks order s) frame d ready e =
    let place = d.place in
    let aim = check_sends order.unit (aim_of s) frame e in
    rw (stands_so start past _ _ d ready.0)
    (fresh_may past order place.0 frame (fresh_sends order pace place.0 s frame ready.1 place.3 aim))
may_send pace start past journal (Writes order s) frame d ready e =
    let place = d.place in
    let aim = write_sends (aim_of s) frame e in
    let guarded =
    older_guarded (writes_of order.updates) order.unit place.0 place.1 frame
    (opened_sends order pace place.0 s frame ready.1 place.3 aim) in
    let all : IsGuardedFrame (writes_of order.updates) order.unit (sent_of past) frame =
    subst (λ (t : List Exchange). IsGuardedFrame (writes_of order.updates) order.unit t frame) (sym place.2) guarded in
    rw (stands_so start past _ _ d ready.0) (opened_may past order frame ready.2.rising all)
may_send pace start past journal (Closes order moment s) frame d ready e =
    let place = d.place in
    let aim = closing_sends_it order.id (unit_of s) (aim_of s) frame e in
    let since = since_part past in
    let unit = unit_of s in
    let guarded =
    older_guarded ((2, 0xFF) ∷ []) unit (sent_since_taken past) since.0 frame
    (closing_sends unit (sent_since_taken past) s frame ready.1 place.2 aim) in
    let all : IsGuardedFrame ((2, 0xFF) ∷ []) unit (sent_of past) frame =
    subst (λ (t : List Exchange). IsGuardedFrame ((2, 0xFF) ∷ []) unit t frame) (sym since.1) guarded in
    let waits : IsSome (waiting past) = rw place.0 refl in
    rw (stands_so start past _ _ d ready.0) (closing_may past unit frame waits all)

may_keep : (pace : Pace) (start : Start) (past : List Happening) (journal : JournalState) (phase : Phase)
    (entry : Record)
    → Describes start past (record { journal = journal; phase = phase; pace = pace }) → IsReady pace phase journal
    → want_of phase ≡ Keep entry → Legal start (Kept entry ∷ past)
may_keep pace start past journal Idle entry d ready e = cc
may_keep pace start past journal (Says id code) entry d ready e = cc
may_keep pace start past journal (Begins order moment) entry d ready e =
    let may : MayKeep start past entry =
    rw (← same_entry (Began order moment) entry e) (begun_may pace start past journal order moment d ready) in
    (d.legal, may_follow start past (Kept entry) d.finished may)
may_keep pace start past journal (Checks order s) entry d ready e = by (aim_of s) refl e where
  by : (ask : Ask) → aim_of s ≡ ask → check_of order.unit ask ≡ Keep entry → Legal start (Kept entry ∷ past)
  by (asks.Send frame) aim e = cc
  by (asks.Ended verdict) aim e =
      let may : MayKeep start past entry =
      rw (← same_entry (check_record order.unit verdict) entry e)
      (checked_may pace start past journal order s verdict d ready aim) in
      (d.legal, may_follow start past (Kept entry) d.finished may)
may_keep pace start past journal (Writes order s) entry d ready e = by (aim_of s) refl e where
  by : (ask : Ask) → aim_of s ≡ ask → write_of ask ≡ Keep entry → Legal start (Kept entry ∷ past)
  by (asks.Send frame) aim e = cc
  by (asks.Ended verdict) aim e =
      let new : JournalState = record {
        records = Ended (write_code verdict) ∷ journal.records;
        limit = journal.limit;
        room = journal.room;
        numbers = journal.numbers;
        index_room = journal.index_room;
      } in
      rw (← same_entry (Ended (write_code verdict)) entry e)
      (written_on pace start past journal new order s verdict d ready aim refl refl).legal
may_keep pace start past journal (Closes order moment s) entry d ready e =
    let is = closing_keeps order.id (unit_of s) (aim_of s) entry e in
    let new : JournalState = record {
      records = Closed (unit_of s) ∷ journal.records;
      limit = journal.limit;
      room = journal.room;
      numbers = journal.numbers;
      index_room = journal.index_room;
    } in
    rw (← is.1) (closed_on pace start past journal new order moment s d ready is.0 refl refl).legal

-- the plan asks for the frame that is wanted
asks_send : (pace : Pace) (start : Start) (past : List Happening) (journal : JournalState) (phase : Phase)
    (frame : Frame)
    → Describes start past (record { journal = journal; phase = phase; pace = pace })
    → Follows start past (record { journal = journal; phase = phase; pace = pace }) → IsReady pace phase journal
    → want_of phase ≡ Send frame → Asks pace (standing_at start past) (told_in past) (asks.Send frame)
asks_send pace start past journal Idle frame d f ready e = cc
asks_send pace start past journal (Begins order moment) frame d f ready e = cc
asks_send pace start past journal (Says id code) frame d f ready e = cc
asks_send pace start past journal (Checks order s) frame d f ready e =
    let asked : Asks pace (standings.Began order) (told_in past) (asks.Send frame) =
    fresh_wants order pace (told_in past) s (asks.Send frame) ready.1 f.told (check_sends order.unit (aim_of s) frame e)
    in
    rw (stands_so start past _ _ d ready.0) asked
asks_send pace start past journal (Writes order s) frame d f ready e =
    let asked : Asks pace (standings.Opened order) (told_in past) (asks.Send frame) =
    opened_wants order pace (told_in past) s (asks.Send frame) ready.1 f.told (write_sends (aim_of s) frame e) in
    rw (stands_so start past _ _ d ready.0) asked
asks_send pace start past journal (Closes order moment s) frame d f ready e =
    let asked : Asks pace (standings.Left (unit_of s)) (told_in past) (asks.Send frame) =
    closing_wants (unit_of s) (told_in past) s (asks.Send frame) ready.1 f.told
    (closing_sends_it order.id (unit_of s) (aim_of s) frame e) in
    rw (stands_so start past _ _ d ready.0) asked

-- a record that is to be kept next and begins no order moment follows the end of the session at hand
ends_next : (pace : Pace) (stands : Standing) (waits : Option Contents) (since : ℕ) (told : List Exchange)
    (entry : Record)
    → ((order : Contents) (moment : ℕ) → entry ≡ Began order moment → ⊥) → NextRecord pace stands waits since told entry
    → (verdict : Verdict) × Asks pace stands told (asks.Ended verdict) × EndsIn stands verdict entry
ends_next pace standings.Idle None since told entry other next = absurd next
ends_next pace standings.Idle (Some order) since told entry other next = absurd (other order since next)
ends_next pace (standings.Left left) None since told entry other next = absurd next
ends_next pace (standings.Left left) (Some order) since told entry other next = next
ends_next pace (standings.Began order) waits since told entry other next = next
ends_next pace (standings.Opened order) waits since told entry other next = next

-- so the plan asks for the record that is to be kept next
next_planned : (start : Start) (past : List Happening) (entry : Record) → IsKeptNext start past entry
    → IsPlanned start past (Kept entry)
next_planned start past (Began order moment) next = tt
next_planned start past (Opened unit) next =
    ends_next (pace_at start past) (standing_at start past) (waiting past) (waiting_since past) (told_in past)
    (Opened unit)
    (λ order moment e. cc) next
next_planned start past (Ended code) next =
    ends_next (pace_at start past) (standing_at start past) (waiting past) (waiting_since past) (told_in past)
    (Ended code)
    (λ order moment e. cc) next
next_planned start past (Closed unit) next =
    ends_next (pace_at start past) (standing_at start past) (waiting past) (waiting_since past) (told_in past)
    (Closed unit)
    (λ order moment e. cc) next

-- what is wanted is next
pub done_next : (pace : Pace) (start : Start) (past : List Happening) (journal : JournalState) (phase : Phase)
    (want : Want)
    (next : Happening)
    → Describes start past (record { journal = journal; phase = phase; pace = pace })
    → Follows start past (record { journal = journal; phase = phase; pace = pace }) → IsReady pace phase journal
    → want_of phase ≡ want → IsDone want next → IsNext start past next
done_next pace start past journal phase wants.Idle next d f ready want done = absurd done
done_next pace start past journal phase (Keep entry) next d f ready want done =
    subst (IsNext start past) (sym done) (record {
      work = tt;
      may = (may_keep pace start past journal phase entry d ready want).1;
      planned = next_planned start past entry ((next_record pace start past journal phase entry d f ready).0 want);
    })
done_next pace start past journal phase (Send frame) next d f ready want (answer, done) =
    subst (IsNext start past) (sym done) (record {
      work = tt;
      may = may_follow start past (Sent frame answer) d.finished
          (may_send pace start past journal phase frame d ready want);
      planned = rw d.pace (asks_send pace start past journal phase frame d f ready want);
    })
done_next pace start past journal phase (Say id reply) next d f ready want done =
    subst (IsNext start past) (sym done) (record {
      work = tt;
      may = (said_on pace start past journal phase id reply d ready want).legal.1;
      planned = (said_follows pace start past journal phase id reply d f ready want).planned.1;
    })

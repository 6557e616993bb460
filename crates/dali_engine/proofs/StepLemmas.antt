-- Each step of a writer leaves a trace that describes it.
use Rattle.std.proofs.Common.{◌≡◌, inl, inr, refl, sym, ap, ◌∙◌, subst, ℕ, ◌<◌, Bool, true, false, ◌||◌, List, [], ◌∷◌}
use Rattle.std.proofs.Common.{◌++◌, Option, Some, IsSome, arith}
use Rattle.std.proofs.lemmas.Bool.{eq-eqb, ne_eqb}
use Rattle.dali_frame.specs.declared.forward.Frame.{Frame}
use Rattle.dali_frame.specs.declared.forward.Frame.TheVariants.{Dtr0, Dtr1, Dtr2, Write, WriteSilent, Enable, AskDtr0}
use Rattle.dali_frame.specs.declared.forward.Frame.TheVariants.{AskDtr1, AskDtr2, Read, Other}
use Rattle.dali_bank.specs.Order.{Contents, RisesAbove, update_at}
use Rattle.dali_journal.specs.declared.standing.Standing.{Standing}
use Rattle.dali_journal.specs.declared.standing.Standing.TheVariants as standings
use Rattle.dali_journal.specs.Sentence.{standing_of}
use Rattle.dali_journal.specs.JournalState.{JournalState}
use Rattle.dali_write.specs.Exchanges.{Exchange}
use Rattle.dali_write.specs.declared.ask.Ask.{Ask}
use Rattle.dali_write.specs.declared.ask.Ask.TheVariants as asks
use Rattle.dali_write.specs.declared.ask.Verdict.TheVariants as verdicts
use Rattle.dali_write.specs.declared.session.Session.{Session}
use Rattle.dali_write.specs.Told.{Told, unit_of, aim_of}
use Rattle.dali_write.specs.Touches.{Has, writes_of}
use Rattle.dali_write.specs.Guards.{IsGuarded as IsGuardedFrame}
use Rattle.dali_write.proofs.GuardLemmas.{older_guarded}
use Rattle.dali_write.proofs.SessionLemmas.{fresh_sends, opened_sends, closing_sends}
use Rattle.dali_trace.specs.declared.happening.Happening.{Happening}
use Rattle.dali_trace.specs.declared.happening.Happening.TheVariants.{Sent}
use Rattle.dali_trace.specs.declared.happening.Want.TheVariants as wants
use Rattle.dali_engine.specs.declared.phase.Phase.{Phase}
use Rattle.dali_engine.specs.declared.phase.Phase.TheVariants.{Idle, Begins, Checks, Writes, Closes, Says}
use Rattle.dali_trace.specs.Cut.{since, is_stop, is_start, frames_in}
use Rattle.dali_trace.proofs.CutLemmas.{since_sooner, stop_starts, frames_joined}
use Rattle.dali_laws.proofs.AgreeLemmas.{may_follow}
use Rattle.dali_trace.specs.Trace.{Start, standing_at, sent_of, sent_since_taken, waiting, is_unsaid, is_at_work}
use Rattle.dali_trace.specs.Trace.{is_busy, outstanding_of}
use Rattle.dali_trace.specs.Legal.{MayPut, MaySend}
use Rattle.dali_engine.specs.Phases.{want_of, check_of, write_of, closing_of, is_wanting}
use Rattle.dali_engine.specs.WriterState.{WriterState, IsReady}
use Rattle.dali_engine.specs.Describes.{ToldNewest, IsAt, Describes}
use Rattle.dali_laws.proofs.TakenLemmas.{waits, ended_unsaid, waits_unsaid}
use Rattle.dali_write.specs.declared.pace.Pace.{Pace}

-- a session always wants something
pub check_wants : (unit : ℕ) (ask : Ask) → is_wanting (check_of unit ask) ≡ true
check_wants unit (asks.Send frame) = refl
check_wants unit (asks.Ended verdict) = refl

pub write_wants : (ask : Ask) → is_wanting (write_of ask) ≡ true
write_wants (asks.Send frame) = refl
write_wants (asks.Ended verdict) = refl

pub closing_wants : (id unit : ℕ) (ask : Ask) → is_wanting (closing_of id unit ask) ≡ true
closing_wants id unit (asks.Send frame) = refl
closing_wants id unit (asks.Ended verdicts.Closed) = refl
closing_wants id unit (asks.Ended _) = refl

-- the records of a trace have the standing of the journal that it describes
pub stands_so : (start : Start) (past : List Happening) (w : WriterState) (stands : Standing) → Describes start past w
    → standing_of w.journal.records ≡ stands → standing_at start past ≡ stands
stands_so start past w stands d at = ap standing_of d.same ∙ at

at_work : (start : Start) (past : List Happening) (stands : Standing) → standing_at start past ≡ stands
    → is_at_work stands ≡ true → is_busy start past ≡ true
at_work start past stands at work = rw (at, work) refl

unsaid : (start : Start) (past : List Happening) → is_unsaid past ≡ true → is_busy start past ≡ true
unsaid start past e = by (is_at_work (standing_at start past)) where
  by : (b : Bool) → (b || is_unsaid past) ≡ true
  by true = refl
  by false = e

-- the trace is busy exactly when the writer wants something
pub busy_at : (pace : Pace) (start : Start) (past : List Happening) (journal : JournalState) (phase : Phase)
    → Describes start past (record { journal = journal; phase = phase; pace = pace }) → IsReady pace phase journal
    → is_busy start past ≡ is_wanting (want_of phase)
busy_at pace start past journal Idle d ready = rw (ap (λ r. is_at_work (standing_of r)) d.same ∙ ready, d.place) refl
busy_at pace start past journal (Begins order moment) d ready =
    unsaid start past (waits_unsaid (outstanding_of past) order d.place.0)
busy_at pace start past journal (Checks order s) d ready =
    at_work start past (standings.Began order) (stands_so start past _ _ d ready.0) refl
    ∙ sym (check_wants order.unit (aim_of s))
busy_at pace start past journal (Writes order s) d ready =
    at_work start past (standings.Opened order) (stands_so start past _ _ d ready.0) refl ∙ sym (write_wants (aim_of s))
busy_at pace start past journal (Closes order moment s) d ready =
    unsaid start past (waits_unsaid (outstanding_of past) order d.place.0)
    ∙ sym (closing_wants order.id (unit_of s) (aim_of s))
busy_at pace start past journal (Says id code) d ready = unsaid start past (ended_unsaid (outstanding_of past) d.place)

-- an update of an order is found by its location
has_found : (bound : ℕ) (updates : List (ℕ × ℕ)) (location byte : ℕ) → RisesAbove bound updates
    → Has updates location byte
    → (bound < location) × (update_at updates location ≡ Some byte)
has_found bound [] location byte rises has = absurd has
has_found bound (update ∷ updates) location byte rises (inl (here, is)) =
    let less : bound < update.0 = rises.0 in
    (rw (← here) less, rw (← here) (rw (eq-eqb update.0 update.0 refl) (ap Some is)))
has_found bound (update ∷ updates) location byte rises (inr later) =
    let rest = has_found update.0 updates location byte rises.1 later in
    let above : bound < update.0 = rises.0 in
    let below : update.0 < location = rest.0 in
    (omega (arith, above, below), rw (ne_eqb update.0 location (λ same. absurd (omega (arith, same, below)))) rest.1)

-- what an opened session may write may be put
may_put : (order : Contents) (location byte : ℕ) → RisesAbove 0 order.updates
    → Has (writes_of order.updates) location byte → MayPut (standings.Opened order) location byte
may_put order location byte rises (inl (lock, opens)) = inr (sym lock, inl (sym opens))
may_put order location byte rises (inr (inl (lock, closes))) = inr (sym lock, inr (sym closes))
may_put order location byte rises (inr (inr has)) = inl (has_found 0 order.updates location byte rises has).1

-- the frames of a fresh, an opened and a closing session may be sent
pub fresh_may : (past : List Happening) (order : Contents) (told : List Exchange) (frame : Frame)
    → IsGuardedFrame [] order.unit told frame → MaySend past (standings.Began order) frame
fresh_may past order told (Dtr0 byte) guarded = (order.unit, refl)
fresh_may past order told (Dtr1 byte) guarded = (order.unit, refl)
fresh_may past order told (AskDtr0 to) guarded = guarded
fresh_may past order told (AskDtr1 to) guarded = guarded
fresh_may past order told (Read to) guarded = guarded
fresh_may past order told (Enable to) guarded = absurd guarded.1.2
fresh_may past order told (Write byte) guarded = absurd guarded.1
fresh_may past order told (Dtr2 byte) guarded = absurd guarded
fresh_may past order told (WriteSilent byte) guarded = absurd guarded
fresh_may past order told (AskDtr2 to) guarded = absurd guarded
fresh_may past order told (Other word) guarded = absurd guarded

pub opened_may : (past : List Happening) (order : Contents) (frame : Frame) → RisesAbove 0 order.updates
    → IsGuardedFrame (writes_of order.updates) order.unit (sent_of past) frame
    → MaySend past (standings.Opened order) frame
opened_may past order (Dtr0 byte) rises guarded = (order.unit, refl)
opened_may past order (Dtr1 byte) rises guarded = (order.unit, refl)
opened_may past order (AskDtr0 to) rises guarded = guarded
opened_may past order (AskDtr1 to) rises guarded = guarded
opened_may past order (Read to) rises guarded = guarded
opened_may past order (Enable to) rises guarded = (guarded.0, ap Some (sym guarded.0))
opened_may past order (Write byte) rises guarded =
    record {
      unit = order.unit;
      location = guarded.0;
      serves = refl;
      is_named = refl;
      may = may_put order guarded.0 byte rises guarded.1;
      selected = guarded.2;
    }
opened_may past order (Dtr2 byte) rises guarded = absurd guarded
opened_may past order (WriteSilent byte) rises guarded = absurd guarded
opened_may past order (AskDtr2 to) rises guarded = absurd guarded
opened_may past order (Other word) rises guarded = absurd guarded

pub closing_may : (past : List Happening) (unit : ℕ) (frame : Frame) → IsSome (waiting past)
    → IsGuardedFrame ((2, 0xFF) ∷ []) unit (sent_of past) frame
    → MaySend past (standings.Left unit) frame
closing_may past unit (Dtr0 byte) waits guarded = (unit, (refl, waits))
closing_may past unit (Dtr1 byte) waits guarded = (unit, (refl, waits))
closing_may past unit (AskDtr0 to) waits guarded = (guarded, waits)
closing_may past unit (AskDtr1 to) waits guarded = (guarded, waits)
closing_may past unit (Read to) waits guarded = (guarded, waits)
closing_may past unit (Enable to) waits guarded = ((guarded.0, waits), ap Some (sym guarded.0))
closing_may past unit (Write byte) waits guarded =
    record {
      unit = unit;
      location = guarded.0;
      serves = (refl, waits);
      is_named = refl;
      may = put guarded.0 guarded.1;
      selected = guarded.2;
    } where
      put : (location : ℕ) → Has ((2, 0xFF) ∷ []) location byte → MayPut (standings.Left unit) location byte
      put location (inl is) = (sym is.0, sym is.1)
      put location (inr never) = absurd never
closing_may past unit (Dtr2 byte) waits guarded = absurd guarded
closing_may past unit (WriteSilent byte) waits guarded = absurd guarded
closing_may past unit (AskDtr2 to) waits guarded = absurd guarded
closing_may past unit (Other word) waits guarded = absurd guarded

-- the frames since an order was taken are the newest of those since the last stop
pub since_part : (past : List Happening) → (older : List Exchange) × (sent_of past ≡ sent_since_taken past ++ older)
since_part past =
    let part = since_sooner is_start is_stop stop_starts past in
    (frames_in part.0, ap frames_in part.1 ∙ frames_joined (since is_start past) part.0)

-- one frame more, that may be sent
sent_on : (pace : Pace) (start : Start) (past : List Happening) (journal : JournalState) (old new : Phase)
    (frame : Frame) (answer : Option ℕ)
    → Describes start past (record { journal = journal; phase = old; pace = pace })
    → MaySend past (standing_at start past) frame
    → IsAt new (Sent frame answer ∷ past)
    → Describes start (Sent frame answer ∷ past) (record { journal = journal; phase = new; pace = pace })
sent_on pace start past journal old new frame answer d may place = record {
  legal = (d.legal, may_follow start past (Sent frame answer) d.finished may);
  finished = tt;
  same = d.same;
  limit = d.limit;
  pace = d.pace;
  place = place;
}

told_on : (past : List Happening) (s next : Session) (frame : Frame) (answer : Option ℕ) → ToldNewest (sent_of past) s
    → ((told : List Exchange) → Told told s → Told (record { frame = frame; answer = answer } ∷ told) next)
    → ToldNewest (sent_of (Sent frame answer ∷ past)) next
told_on past s next frame answer (told, older, parts, is_told) f = (
  record { frame = frame; answer = answer } ∷ told,
  older,
  ap (λ (t : List Exchange). record { frame = frame; answer = answer } ∷ t) parts,
  f told is_told,
)

-- a session is given the answer to the frame that it wanted
pub checks_on : (pace : Pace) (start : Start) (past : List Happening) (journal : JournalState) (order : Contents)
    (s next : Session)
    (frame : Frame) (answer : Option ℕ)
    → Describes start past (record { journal = journal; phase = Checks order s; pace = pace })
    → IsReady pace (Checks order s) journal
    → aim_of s ≡ asks.Send frame
    → ((told : List Exchange) → Told told s → Told (record { frame = frame; answer = answer } ∷ told) next)
    → Describes start (Sent frame answer ∷ past) (record { journal = journal; phase = Checks order next; pace = pace })
checks_on pace start past journal order s next frame answer d ready aim f =
    let place = d.place in
    let may = fresh_may past order place.0 frame (fresh_sends order pace place.0 s frame ready.1 place.3 aim) in
    sent_on pace start past journal (Checks order s) (Checks order next) frame answer d
    (rw (stands_so start past _ _ d ready.0) may)
    (told_on past s next frame answer place f)

pub writes_on : (pace : Pace) (start : Start) (past : List Happening) (journal : JournalState) (order : Contents)
    (s next : Session)
    (frame : Frame) (answer : Option ℕ)
    → Describes start past (record { journal = journal; phase = Writes order s; pace = pace })
    → IsReady pace (Writes order s) journal
    → aim_of s ≡ asks.Send frame
    → ((told : List Exchange) → Told told s → Told (record { frame = frame; answer = answer } ∷ told) next)
    → Describes start (Sent frame answer ∷ past) (record { journal = journal; phase = Writes order next; pace = pace })
writes_on pace start past journal order s next frame answer d ready aim f =
    let place = d.place in
    let guarded =
    older_guarded (writes_of order.updates) order.unit place.0 place.1 frame
    (opened_sends order pace place.0 s frame ready.1 place.3 aim) in
    let all : IsGuardedFrame (writes_of order.updates) order.unit (sent_of past) frame =
    subst (λ (t : List Exchange). IsGuardedFrame (writes_of order.updates) order.unit t frame) (sym place.2) guarded in
    sent_on pace start past journal (Writes order s) (Writes order next) frame answer d
    (rw (stands_so start past _ _ d ready.0) (opened_may past order frame ready.2.rising all))
    (told_on past s next frame answer place f)

pub closes_on : (pace : Pace) (start : Start) (past : List Happening) (journal : JournalState) (order : Contents)
    (moment : ℕ)
    (s next : Session)
    (frame : Frame) (answer : Option ℕ)
    → Describes start past (record { journal = journal; phase = Closes order moment s; pace = pace })
    → IsReady pace (Closes order moment s) journal
    → aim_of s ≡ asks.Send frame
    → ((told : List Exchange) → Told told s → Told (record { frame = frame; answer = answer } ∷ told) next)
    → Describes start (Sent frame answer ∷ past)
    (record { journal = journal; phase = Closes order moment next; pace = pace })
closes_on pace start past journal order moment s next frame answer d ready aim f =
    let place = d.place in
    let since = since_part past in
    let unit = unit_of s in
    let guarded =
    older_guarded ((2, 0xFF) ∷ []) unit (sent_since_taken past) since.0 frame
    (closing_sends unit (sent_since_taken past) s frame ready.1 place.2 aim) in
    let all : IsGuardedFrame ((2, 0xFF) ∷ []) unit (sent_of past) frame =
    subst (λ (t : List Exchange). IsGuardedFrame ((2, 0xFF) ∷ []) unit t frame) (sym since.1) guarded in
    let waits : IsSome (waiting past) = rw place.0 refl in
    sent_on pace start past journal (Closes order moment s) (Closes order moment next) frame answer d
    (rw (stands_so start past _ _ d ready.0) (closing_may past unit frame waits all))
    (place.0, place.1, f (sent_since_taken past) place.2)

-- only an idle phase wants nothing
pub idle_wanted : (phase : Phase) → want_of phase ≡ wants.Idle → phase ≡ Idle
idle_wanted Idle e = refl
idle_wanted (Begins order moment) e = cc
idle_wanted (Checks order s) e = no_check (aim_of s) e where
  no_check : {A : Type 0} (ask : Ask) → check_of order.unit ask ≡ wants.Idle → A
  no_check (asks.Send frame) e = cc
  no_check (asks.Ended verdict) e = cc
idle_wanted (Writes order s) e = no_write (aim_of s) e where
  no_write : {A : Type 0} (ask : Ask) → write_of ask ≡ wants.Idle → A
  no_write (asks.Send frame) e = cc
  no_write (asks.Ended verdict) e = cc
idle_wanted (Closes order moment s) e =
    let true_is = closing_wants order.id (unit_of s) (aim_of s) in
    let false_is = ap is_wanting e in absurd (neither_is true_is false_is) where
      neither_is : {x : Bool} → x ≡ true → x ≡ false → ⊥
      neither_is one two = cc
idle_wanted (Says id code) e = cc

-- Each step of a writer leaves a trace that keeps to the plans.
use Rattle.std.proofs.Common.{refl, ◌≡◌, sym, ap, ◌∙◌, subst, ℕ, List, [], ◌∷◌, Option}
use Rattle.dali_frame.specs.declared.forward.Frame.{Frame}
use Rattle.dali_bank.specs.Order.{Contents}
use Rattle.dali_journal.specs.declared.record.Record.{Record}
use Rattle.dali_journal.specs.declared.record.Record.TheVariants.{Began, Opened, Ended, Closed}
use Rattle.dali_journal.specs.declared.standing.Standing.{Standing}
use Rattle.dali_journal.specs.declared.standing.Standing.TheVariants as standings
use Rattle.dali_journal.specs.JournalState.{JournalState}
use Rattle.dali_journal.specs.declared.kept.Kept.{Kept as KeptOf}
use Rattle.dali_write.specs.Exchanges.{Exchange}
use Rattle.dali_write.specs.declared.ask.Ask.TheVariants as asks
use Rattle.dali_write.specs.declared.ask.Verdict.{Verdict}
use Rattle.dali_write.specs.declared.ask.Verdict.TheVariants as verdicts
use Rattle.dali_write.specs.declared.session.Session.{Session}
use Rattle.dali_write.specs.Told.{Told, unit_of, aim_of}
use Rattle.dali_write.specs.Verdicts.{EndsFresh, EndsOpened}
use Rattle.dali_write.proofs.KindLemmas.{fresh_ends, opened_ends}
use Rattle.dali_write.proofs.SessionLemmas.{fresh_wants, opened_wants, closing_wants, closing_over}
use Rattle.dali_trace.specs.declared.happening.Reply.{Reply}
use Rattle.dali_trace.specs.declared.happening.Reply.TheVariants as replies
use Rattle.dali_trace.specs.declared.happening.Happening.{Happening}
use Rattle.dali_trace.specs.declared.happening.Happening.TheVariants.{Asked, Answered, Sent, Kept}
use Rattle.dali_trace.specs.declared.happening.Want.TheVariants.{Keep, Say}
use Rattle.dali_engine.specs.declared.phase.Phase.{Phase}
use Rattle.dali_engine.specs.declared.phase.Phase.TheVariants.{Idle, Begins, Checks, Writes, Closes, Says}
use Rattle.dali_trace.specs.Trace.{pace_at, Start, standing_at}
use Rattle.dali_trace.specs.Replies.{IsKnownReply}
use Rattle.dali_engine.specs.Phases.{want_of, check_record, write_code}
use Rattle.dali_engine.specs.WriterState.{WriterState, IsReady, IsAfterCheck, IsFirst, IsResumed}
use Rattle.dali_engine.specs.Describes.{Describes}
use Rattle.dali_trace.specs.Grounds.{EndsIn}
use Rattle.dali_trace.specs.ByPlan.{told_in, Asks, IsPlanned}
use Rattle.dali_engine.specs.Follows.{WasTold, Follows}
use Rattle.dali_engine.proofs.StepLemmas.{stands_so}
use Rattle.dali_engine.proofs.SayLemmas.{no_check, no_write, blocks, not_closed}
use Rattle.dali_engine.proofs.KeepLemmas.{same_entry, closing_keeps}
use Rattle.dali_write.specs.declared.pace.Pace.{Pace}

-- a writer that goes on from its journal
pub resumed_told : (pace : Pace) (stands : Standing) (phase : Phase) → IsResumed pace stands phase → WasTold phase []
resumed_told pace (standings.Began order) phase (s, is, fresh, is_told, valid) =
    subst (λ (p : Phase). WasTold p []) (sym is) is_told
resumed_told pace (standings.Opened order) phase (s, is, opened, is_told, valid) =
    subst (λ (p : Phase). WasTold p []) (sym is) is_told
resumed_told pace standings.Idle phase is = subst (λ (p : Phase). WasTold p []) (sym is) tt
resumed_told pace (standings.Left unit) phase is = subst (λ (p : Phase). WasTold p []) (sym is) tt

-- an order that is taken
pub first_told : (stands : Standing) (order : Contents) (moment : ℕ) (phase : Phase) → IsFirst stands order moment phase
    → WasTold phase []
first_told (standings.Left unit) order moment phase (s, is, same, closing, is_told) =
    subst (λ (p : Phase). WasTold p []) (sym is) is_told
first_told standings.Idle order moment phase is = subst (λ (p : Phase). WasTold p []) (sym is) tt
first_told (standings.Began other) order moment phase is = subst (λ (p : Phase). WasTold p []) (sym is) tt
first_told (standings.Opened other) order moment phase is = subst (λ (p : Phase). WasTold p []) (sym is) tt

pub taken_follows : (start : Start) (past : List Happening) (old new : WriterState) (order : Contents) (moment : ℕ)
    (stands : Standing)
    → Follows start past old → IsFirst stands order moment new.phase
    → Follows start (Answered order.id replies.Taken ∷ Asked order moment ∷ past) new
taken_follows start past old new order moment stands f first =
    record { planned = ((f.planned, tt), tt); told = first_told stands order moment new.phase first }

-- other replies
pub known_follows : (start : Start) (past : List Happening) (w : WriterState) (order : Contents) (moment : ℕ)
    (kept : KeptOf)
    (reply : Reply)
    → Follows start past w → IsKnownReply order kept reply
    → Follows start (Answered order.id reply ∷ Asked order moment ∷ past) w
known_follows start past w order moment kept (replies.Kept code) f known =
    record { planned = ((f.planned, tt), tt); told = f.told }
known_follows start past w order moment kept replies.IdReused f known =
    record { planned = ((f.planned, tt), tt); told = f.told }
known_follows start past w order moment kept _ f known = absurd known

-- a session is given the answer to the frame that it wanted
follows_on : (pace : Pace) (start : Start) (past : List Happening) (journal : JournalState) (old next : Phase)
    (stands : Standing)
    (frame : Frame) (answer : Option ℕ)
    → Follows start past (record { journal = journal; phase = old; pace = pace }) → pace_at start past ≡ pace
    → standing_at start past ≡ stands → Asks pace stands (told_in past) (asks.Send frame)
    → WasTold next (record { frame = frame; answer = answer } ∷ told_in past)
    → Follows start (Sent frame answer ∷ past) (record { journal = journal; phase = next; pace = pace })
follows_on pace start past journal old next stands frame answer f keeps at asked told =
    record { planned = (f.planned, rw (keeps, at) asked); told = told }

pub checks_follow : (pace : Pace) (start : Start) (past : List Happening) (journal : JournalState) (order : Contents)
    (s next : Session) (frame : Frame) (answer : Option ℕ)
    → Describes start past (record { journal = journal; phase = Checks order s; pace = pace })
    → Follows start past (record { journal = journal; phase = Checks order s; pace = pace })
    → IsReady pace (Checks order s) journal → aim_of s ≡ asks.Send frame
    → ((told : List Exchange) → Told told s → Told (record { frame = frame; answer = answer } ∷ told) next)
    → Follows start (Sent frame answer ∷ past) (record { journal = journal; phase = Checks order next; pace = pace })
checks_follow pace start past journal order s next frame answer d f ready aim on =
    follows_on pace start past journal (Checks order s) (Checks order next) (standings.Began order) frame answer f
    d.pace (stands_so start past _ _ d ready.0)
    (fresh_wants order pace (told_in past) s (asks.Send frame) ready.1 f.told aim) (on (told_in past) f.told)

pub writes_follow : (pace : Pace) (start : Start) (past : List Happening) (journal : JournalState) (order : Contents)
    (s next : Session) (frame : Frame) (answer : Option ℕ)
    → Describes start past (record { journal = journal; phase = Writes order s; pace = pace })
    → Follows start past (record { journal = journal; phase = Writes order s; pace = pace })
    → IsReady pace (Writes order s) journal → aim_of s ≡ asks.Send frame
    → ((told : List Exchange) → Told told s → Told (record { frame = frame; answer = answer } ∷ told) next)
    → Follows start (Sent frame answer ∷ past) (record { journal = journal; phase = Writes order next; pace = pace })
writes_follow pace start past journal order s next frame answer d f ready aim on =
    follows_on pace start past journal (Writes order s) (Writes order next) (standings.Opened order) frame answer f
    d.pace (stands_so start past _ _ d ready.0)
    (opened_wants order pace (told_in past) s (asks.Send frame) ready.1 f.told aim) (on (told_in past) f.told)

pub closes_follow : (pace : Pace) (start : Start) (past : List Happening) (journal : JournalState) (order : Contents)
    (moment : ℕ)
    (s next : Session) (frame : Frame) (answer : Option ℕ)
    → Describes start past (record { journal = journal; phase = Closes order moment s; pace = pace })
    → Follows start past (record { journal = journal; phase = Closes order moment s; pace = pace })
    → IsReady pace (Closes order moment s) journal → aim_of s ≡ asks.Send frame
    → ((told : List Exchange) → Told told s → Told (record { frame = frame; answer = answer } ∷ told) next)
    → Follows start (Sent frame answer ∷ past)
    (record { journal = journal; phase = Closes order moment next; pace = pace })
closes_follow pace start past journal order moment s next frame answer d f ready aim on =
    follows_on pace start past journal (Closes order moment s) (Closes order moment next)
    (standings.Left (unit_of s)) frame answer f
    d.pace (stands_so start past _ _ d ready.0)
    (closing_wants (unit_of s) (told_in past) s (asks.Send frame) ready.1 f.told aim) (on (told_in past) f.told)

-- records

pub begun_follows : (pace : Pace) (start : Start) (past : List Happening) (journal new : JournalState) (old : Phase)
    (order : Contents) (moment : ℕ) (s : Session) (entry : Record)
    → Begins order moment ≡ old → Follows start past (record { journal = journal; phase = old; pace = pace })
    → want_of old ≡ Keep entry
    → Told [] s
    → Follows start (Kept entry ∷ past) (record { journal = new; phase = Checks order s; pace = pace })
begun_follows pace start past journal new old order moment s entry at f want is_told =
    let wanted : want_of (Begins order moment) ≡ Keep entry = rw (← at) at want in
    rw (← same_entry (Began order moment) entry wanted) (record { planned = (f.planned, tt); told = is_told })

after_told : (pace : Pace) (order : Contents) (verdict : Verdict) (next : Phase) → IsAfterCheck pace order verdict next
    → WasTold next []
after_told pace order verdicts.MayOpen next (s, is, opened, is_told, valid, left) =
    subst (λ (p : Phase). WasTold p []) (sym is) is_told
after_told pace order _ next is = subst (λ (p : Phase). WasTold p []) (sym is) tt

-- a record that follows the end of a session
ended_planned : (pace : Pace) (start : Start) (past : List Happening) (stands : Standing) (verdict : Verdict)
    (entry : Record)
    → pace_at start past ≡ pace → standing_at start past ≡ stands
    → Asks pace stands (told_in past) (asks.Ended verdict) → EndsIn stands verdict entry
    → IsPlanned start past (Kept entry)
ended_planned pace start past stands verdict (Began order moment) keeps at asked ends = tt
ended_planned pace start past stands verdict (Opened unit) keeps at asked ends = rw (keeps, at) (verdict, asked, ends)
ended_planned pace start past stands verdict (Ended code) keeps at asked ends = rw (keeps, at) (verdict, asked, ends)
ended_planned pace start past stands verdict (Closed unit) keeps at asked ends = rw (keeps, at) (verdict, asked, ends)

-- the record that the writer keeps is the one that follows
pub check_ends : (order : Contents) (verdict : Verdict) (entry : Record) → EndsFresh verdict
    → entry ≡ check_record order.unit verdict → EndsIn (standings.Began order) verdict entry
check_ends order verdicts.MayOpen entry fresh is =
    subst (λ (e : Record). EndsIn (standings.Began order) verdicts.MayOpen e) (sym is) (refl, refl)
check_ends order verdicts.Short entry fresh is =
    subst (λ (e : Record). EndsIn (standings.Began order) verdicts.Short e) (sym is) (tt, refl)
check_ends order verdicts.Format entry fresh is =
    subst (λ (e : Record). EndsIn (standings.Began order) verdicts.Format e) (sym is) (tt, refl)
check_ends order verdicts.Silent entry fresh is =
    subst (λ (e : Record). EndsIn (standings.Began order) verdicts.Silent e) (sym is) (tt, refl)
check_ends order _ entry fresh is = absurd fresh

pub write_ends : (order : Contents) (verdict : Verdict) (entry : Record) → EndsOpened verdict
    → entry ≡ Ended (write_code verdict) → EndsIn (standings.Opened order) verdict entry
write_ends order verdicts.Done entry opened is =
    subst (λ (e : Record). EndsIn (standings.Opened order) verdicts.Done e) (sym is) (tt, refl)
write_ends order verdicts.Doubt entry opened is =
    subst (λ (e : Record). EndsIn (standings.Opened order) verdicts.Doubt e) (sym is) (tt, refl)
write_ends order verdicts.DoubtOpen entry opened is =
    subst (λ (e : Record). EndsIn (standings.Opened order) verdicts.DoubtOpen e) (sym is) (tt, refl)
write_ends order _ entry opened is = absurd opened

pub checked_follows : (pace : Pace) (start : Start) (past : List Happening) (journal new : JournalState) (old : Phase)
    (order : Contents) (s : Session) (verdict : Verdict) (next : Phase) (entry : Record)
    → Checks order s ≡ old → Describes start past (record { journal = journal; phase = old; pace = pace })
    → Follows start past (record { journal = journal; phase = old; pace = pace }) → IsReady pace old journal
    → want_of old ≡ Keep entry → aim_of s ≡ asks.Ended verdict → IsAfterCheck pace order verdict next
    → Follows start (Kept entry ∷ past) (record { journal = new; phase = next; pace = pace })
checked_follows pace start past journal new old order s verdict next entry at d f ready want aim after =
    let asked : want_of (Checks order s) ≡ Keep entry = rw (← at) at want in
    let wanted : Keep (check_record order.unit verdict) ≡ Keep entry = rw aim at asked in
    let follows : Follows start past (record { journal = journal; phase = Checks order s; pace = pace }) = rw (← at) at
    f in
    let before : Describes start past (record { journal = journal; phase = Checks order s; pace = pace }) = rw (← at) at
    d in
    let stood : IsReady pace (Checks order s) journal = rw (← at) at ready in
    let wants : Asks pace (standings.Began order) (told_in past) (asks.Ended verdict) =
    fresh_wants order pace (told_in past) s (asks.Ended verdict) stood.1 follows.told aim in
    record {
      planned = (
        follows.planned,
        ended_planned pace start past (standings.Began order) verdict entry before.pace
            (stands_so start past _ _ before stood.0) wants
            (check_ends order verdict entry (fresh_ends (told_in past) order.unit pace order.updates verdict wants)
            (sym (same_entry (check_record order.unit verdict) entry wanted))),
      );
      told = after_told pace order verdict next after;
    }

pub written_follows : (pace : Pace) (start : Start) (past : List Happening) (journal new : JournalState) (old : Phase)
    (order : Contents) (s : Session) (verdict : Verdict) (entry : Record)
    → Writes order s ≡ old → Describes start past (record { journal = journal; phase = old; pace = pace })
    → Follows start past (record { journal = journal; phase = old; pace = pace }) → IsReady pace old journal
    → want_of old ≡ Keep entry → aim_of s ≡ asks.Ended verdict
    → Follows start (Kept entry ∷ past)
    (record { journal = new; phase = Says order.id (write_code verdict); pace = pace })
written_follows pace start past journal new old order s verdict entry at d f ready want aim =
    let asked : want_of (Writes order s) ≡ Keep entry = rw (← at) at want in
    let wanted : Keep (Ended (write_code verdict)) ≡ Keep entry = rw aim at asked in
    let follows : Follows start past (record { journal = journal; phase = Writes order s; pace = pace }) = rw (← at) at
    f in
    let before : Describes start past (record { journal = journal; phase = Writes order s; pace = pace }) = rw (← at) at
    d in
    let stood : IsReady pace (Writes order s) journal = rw (← at) at ready in
    let wants : Asks pace (standings.Opened order) (told_in past) (asks.Ended verdict) =
    opened_wants order pace (told_in past) s (asks.Ended verdict) stood.1 follows.told aim in
    record {
      planned = (
        follows.planned,
        ended_planned pace start past (standings.Opened order) verdict entry before.pace
            (stands_so start past _ _ before stood.0) wants
            (write_ends order verdict entry (opened_ends (told_in past) order.unit pace order.updates verdict wants)
            (sym (same_entry (Ended (write_code verdict)) entry wanted))),
      );
      told = tt;
    }

pub closed_follows : (pace : Pace) (start : Start) (past : List Happening) (journal new : JournalState) (old : Phase)
    (order : Contents) (moment : ℕ) (s : Session) (entry : Record)
    → Closes order moment s ≡ old → Describes start past (record { journal = journal; phase = old; pace = pace })
    → Follows start past (record { journal = journal; phase = old; pace = pace }) → IsReady pace old journal
    → want_of old ≡ Keep entry → Follows start (Kept entry ∷ past)
    (record { journal = new; phase = Begins order moment; pace = pace })
closed_follows pace start past journal new old order moment s entry at d f ready want =
    let asked : want_of (Closes order moment s) ≡ Keep entry = rw (← at) at want in
    let is = closing_keeps order.id (unit_of s) (aim_of s) entry asked in
    let follows : Follows start past (record { journal = journal; phase = Closes order moment s; pace = pace }) = rw
    (← at) at f in
    let before : Describes start past (record { journal = journal; phase = Closes order moment s; pace = pace }) = rw
    (← at) at d in
    let stood : IsReady pace (Closes order moment s) journal = rw (← at) at ready in
    let wants : Asks pace (standings.Left (unit_of s)) (told_in past) (asks.Ended verdicts.Closed) =
    closing_wants (unit_of s) (told_in past) s (asks.Ended verdicts.Closed) stood.1 follows.told is.0 in
    record {
      planned = (
        follows.planned,
        ended_planned pace start past (standings.Left (unit_of s)) verdicts.Closed entry before.pace
            (stands_so start past _ _ before stood.0) wants
            (subst (λ (e : Record). EndsIn (standings.Left (unit_of s)) verdicts.Closed e) is.1 (refl, refl)),
      );
      told = tt;
    }

-- sayings
said_planned : (pace : Pace) (start : Start) (past : List Happening) (id : ℕ) (code : Reply)
    → pace_at start past ≡ pace → Asks pace (standing_at start past) (told_in past) (asks.Ended verdicts.NotClosed)
    → IsPlanned start past (Answered id code)
said_planned pace start past id (replies.Blocked unit) keeps asked = rw keeps asked
said_planned pace start past id _ keeps asked = tt

pub said_follows : (pace : Pace) (start : Start) (past : List Happening) (journal : JournalState) (phase : Phase)
    (id : ℕ)
    (reply : Reply)
    → Describes start past (record { journal = journal; phase = phase; pace = pace })
    → Follows start past (record { journal = journal; phase = phase; pace = pace }) → IsReady pace phase journal
    → want_of phase ≡ Say id reply
    → Follows start (Answered id reply ∷ past) (record { journal = journal; phase = Idle; pace = pace })
said_follows pace start past journal Idle id reply d f ready e = cc
said_follows pace start past journal (Begins order moment) id reply d f ready e = cc
said_follows pace start past journal (Checks order s) id reply d f ready e = no_check order.unit id (aim_of s) reply e
said_follows pace start past journal (Writes order s) id reply d f ready e = no_write id (aim_of s) reply e
said_follows pace start past journal (Says last code) id reply d f ready e =
    let is : replies.Kept code ≡ reply = cc in
    subst (λ (r : Reply). Follows start (Answered id r ∷ past)
    (record { journal = journal; phase = Idle; pace = pace })) is
    (record { planned = (f.planned, tt); told = tt })
said_follows pace start past journal (Closes order moment s) id reply d f ready e =
    let b = blocks order.id (unit_of s) id (aim_of s) reply e in
    let ends = (closing_over (unit_of s) (told_in past) s b.verdict ready.1 f.told b.ended).0 in
    let aim : aim_of s ≡ asks.Ended verdicts.NotClosed = b.ended ∙ ap asks.Ended (not_closed b.verdict ends b.other) in
    let wants : Asks pace (standings.Left (unit_of s)) (told_in past) (asks.Ended verdicts.NotClosed) =
    closing_wants (unit_of s) (told_in past) s (asks.Ended verdicts.NotClosed) ready.1 f.told aim in
    record {
      planned =
          (f.planned, said_planned pace start past id reply d.pace (rw (stands_so start past _ _ d ready.0) wants));
      told = tt;
    }

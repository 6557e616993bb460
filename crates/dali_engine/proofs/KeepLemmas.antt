-- A record that a writer wants may be kept, and then the trace describes what comes next.
use Rattle.std.proofs.Common.{◌≡◌, inl, inr, refl, sym, ap, ◌∙◌, subst, ℕ, ◌<◌, false, List, [], ◌∷◌, ◌++◌, IsSome}
use Rattle.std.proofs.Common.{length, arith}
use Rattle.dali_bank.specs.Order.{Contents}
use Rattle.dali_journal.specs.declared.record.Code.{Code}
use Rattle.dali_journal.specs.declared.record.Code.TheVariants as codes
use Rattle.dali_journal.specs.declared.record.Record.{Record}
use Rattle.dali_journal.specs.declared.record.Record.TheVariants.{Began, Opened, Ended, Closed}
use Rattle.dali_journal.specs.declared.standing.Standing.{Standing}
use Rattle.dali_journal.specs.declared.standing.Standing.TheVariants as standings
use Rattle.dali_journal.specs.declared.kept.Progress.{Progress}
use Rattle.dali_journal.specs.declared.kept.Progress.TheVariants as reached
use Rattle.dali_journal.specs.Sentence.{Allows, standing_of, next_standing, IsNew}
use Rattle.dali_journal.specs.Orders.{orders_of}
use Rattle.dali_journal.specs.JournalState.{JournalState, KeepsRoom}
use Rattle.dali_write.specs.Exchanges.{Exchange}
use Rattle.dali_write.specs.declared.ask.Ask.{Ask}
use Rattle.dali_write.specs.declared.ask.Ask.TheVariants as asks
use Rattle.dali_write.specs.declared.ask.Verdict.{Verdict}
use Rattle.dali_write.specs.declared.ask.Verdict.TheVariants as verdicts
use Rattle.dali_write.specs.declared.session.Session.{Session}
use Rattle.dali_write.specs.Told.{Told, unit_of, aim_of}
use Rattle.dali_write.specs.Findings.{Rests}
use Rattle.dali_write.specs.Reads.{StillRead, HasRead}
use Rattle.dali_write.proofs.RestLemmas.{older_reads, rests_too}
use Rattle.dali_write.proofs.SessionLemmas.{fresh_over, opened_over, closing_over}
use Rattle.dali_trace.specs.declared.happening.Happening.{Happening}
use Rattle.dali_trace.specs.declared.happening.Happening.TheVariants.{Kept}
use Rattle.dali_trace.specs.declared.happening.Want.TheVariants.{Keep}
use Rattle.dali_engine.specs.declared.phase.Phase.{Phase}
use Rattle.dali_engine.specs.declared.phase.Phase.TheVariants.{Begins, Checks, Writes, Closes, Says}
use Rattle.dali_trace.specs.Trace.{Start, records_of, sent_of, sent_since_taken, waiting, is_at_work}
use Rattle.dali_trace.specs.Grounds.{Grounds}
use Rattle.dali_trace.specs.Legal.{IsDue, MayKeep}
use Rattle.dali_engine.specs.Phases.{want_of, closing_of, check_record, write_code}
use Rattle.dali_engine.specs.WriterState.{WriterState, IsReady, IsAfterCheck}
use Rattle.dali_engine.specs.WorkLeft.{work_left}
use Rattle.dali_engine.specs.Describes.{IsAt, Describes}
use Rattle.dali_laws.proofs.StandingLemmas.{begun_order, open_order}
use Rattle.dali_laws.proofs.RepeatLemmas.{legal_sentence}
use Rattle.dali_laws.proofs.AgreeLemmas.{may_follow}
use Rattle.dali_engine.proofs.StepLemmas.{stands_so, since_part}
use Rattle.dali_journal.proofs.JournalLemmas.{length_come}
use Rattle.dali_write.specs.declared.pace.Pace.{Pace}

-- a record that may be kept
kept_on : (pace : Pace) (start : Start) (past : List Happening) (journal new : JournalState) (old next : Phase)
    (entry : Record)
    → Describes start past (record { journal = journal; phase = old; pace = pace }) → MayKeep start past entry
    → new.records ≡ entry ∷ journal.records → new.limit ≡ journal.limit
    → IsAt next (Kept entry ∷ past)
    → Describes start (Kept entry ∷ past) (record { journal = new; phase = next; pace = pace })
kept_on pace start past journal new old next entry d may records limit place = record {
  legal = (d.legal, may_follow start past (Kept entry) d.finished may);
  finished = tt;
  same = ap (λ (r : List Record). entry ∷ r) d.same ∙ sym records;
  limit = d.limit ∙ sym limit;
  pace = d.pace;
  place = place;
}

-- the record of an order that is at work
goes_on : (start : Start) (past : List Happening) (w : WriterState) (entry : Record) (stands : Standing)
    → Describes start past w → standing_of w.journal.records ≡ stands
    → Allows stands entry → IsNew entry (records_of start past)
    → length (orders_of (entry ∷ records_of start past)) ≡ length (orders_of (records_of start past))
    → IsDue past entry → Grounds (StillRead (sent_of past)) stands entry → MayKeep start past entry
goes_on start past w entry stands d at allowed is_new none due grounds =
    let before = legal_sentence start past d.legal in
    let stood = stands_so start past w stands d at in
    record {
      whole = ((before.0, rw stood allowed, is_new), rw none before.1);
      due = due;
      grounds = rw stood grounds;
    }

-- an order that was taken may begin
pub begun_may : (pace : Pace) (start : Start) (past : List Happening) (journal : JournalState) (order : Contents)
    (moment : ℕ)
    → Describes start past (record { journal = journal; phase = Begins order moment; pace = pace })
    → IsReady pace (Begins order moment) journal
    → MayKeep start past (Began order moment)
begun_may pace start past journal order moment d ready =
    let before = legal_sentence start past d.legal in
    let stood = stands_so start past _ standings.Idle d ready.0 in
    let few : length (orders_of (records_of start past)) < start.limit = rw (d.same, d.limit) ready.1.1 in record {
      whole = ((before.0, rw stood tt, rw d.same ready.1.2), omega (arith, few));
      due = (d.place.0, sym d.place.1);
      grounds = rw stood tt;
    }

-- an order that was taken is begun
pub begun_on : (pace : Pace) (start : Start) (past : List Happening) (journal new : JournalState) (order : Contents)
    (moment : ℕ)
    (s : Session)
    → Describes start past (record { journal = journal; phase = Begins order moment; pace = pace })
    → IsReady pace (Begins order moment) journal
    → Told [] s
    → new.records ≡ Began order moment ∷ journal.records → new.limit ≡ journal.limit
    → Describes start (Kept (Began order moment) ∷ past) (record { journal = new; phase = Checks order s; pace = pace })
begun_on pace start past journal new order moment s d ready is_told records limit =
    let may = begun_may pace start past journal order moment d ready in
    kept_on pace start past journal new (Begins order moment) (Checks order s) (Began order moment) d may records limit
    ([], sent_of past, refl, is_told)

-- what the reads of a session show, the frames since the last stop show
newest_rests : (sent told older : List Exchange) (unit : ℕ) (updates : List (ℕ × ℕ)) (verdict : Verdict)
    → sent ≡ told ++ older → Rests (StillRead told unit) updates verdict
    → Rests (StillRead sent unit) updates verdict
newest_rests sent told older unit updates verdict parts rests =
    subst (λ (t : List Exchange). Rests (StillRead t unit) updates verdict) (sym parts)
    (rests_too (StillRead told unit) (StillRead (told ++ older) unit) updates verdict
    (λ location byte stands. older_reads told older unit location byte stands) rests)

fresh_grounds : (sent : List Exchange) (order : Contents) (verdict : Verdict)
    → Rests (StillRead sent order.unit) order.updates verdict
    → Grounds (StillRead sent) (standings.Began order) (check_record order.unit verdict)
fresh_grounds sent order verdicts.MayOpen rests = rests
fresh_grounds sent order verdicts.Short rests = rests
fresh_grounds sent order verdicts.Format rests = rests
fresh_grounds sent order _ rests = tt

pub check_allowed : (order : Contents) (verdict : Verdict)
    → Allows (standings.Began order) (check_record order.unit verdict)
check_allowed order verdicts.MayOpen = refl
check_allowed order _ = tt

check_new : (unit : ℕ) (verdict : Verdict) (records : List Record) → IsNew (check_record unit verdict) records
check_new unit verdicts.MayOpen records = tt
check_new unit _ records = tt

check_due : (past : List Happening) (unit : ℕ) (verdict : Verdict) → IsDue past (check_record unit verdict)
check_due past unit verdicts.MayOpen = tt
check_due past unit _ = tt

check_none : (unit : ℕ) (verdict : Verdict) (records : List Record)
    → length (orders_of (check_record unit verdict ∷ records)) ≡ length (orders_of records)
check_none unit verdicts.MayOpen records = length_come reached.Open (orders_of records)
check_none unit verdicts.Short records = length_come (reached.Ended codes.Short) (orders_of records)
check_none unit verdicts.Format records = length_come (reached.Ended codes.Format) (orders_of records)
check_none unit _ records = length_come (reached.Ended codes.Silent) (orders_of records)

check_place : (pace : Pace) (past : List Happening) (order : Contents) (verdict : Verdict) (next : Phase)
    → IsAfterCheck pace order verdict next → IsAt next (Kept (check_record order.unit verdict) ∷ past)
check_place pace past order verdicts.MayOpen next (s, is, opened, is_told, valid, left) =
    subst (λ (p : Phase). IsAt p (Kept (Opened order.unit) ∷ past)) (sym is) ([], sent_of past, refl, is_told)
check_place pace past order verdicts.Short next is =
    subst (λ (p : Phase). IsAt p (Kept (Ended codes.Short) ∷ past)) (sym is) refl
check_place pace past order verdicts.Format next is =
    subst (λ (p : Phase). IsAt p (Kept (Ended codes.Format) ∷ past)) (sym is) refl
check_place pace past order _ next is = subst (λ (p : Phase). IsAt p (Kept (Ended codes.Silent) ∷ past)) (sym is) refl

-- the record by which a fresh session is followed may be kept
pub checked_may : (pace : Pace) (start : Start) (past : List Happening) (journal : JournalState) (order : Contents)
    (s : Session)
    (verdict : Verdict)
    → Describes start past (record { journal = journal; phase = Checks order s; pace = pace })
    → IsReady pace (Checks order s) journal
    → aim_of s ≡ asks.Ended verdict
    → MayKeep start past (check_record order.unit verdict)
checked_may pace start past journal order s verdict d ready aim =
    let place = d.place in
    let over = fresh_over order pace place.0 s verdict ready.1 place.3 aim in
    let rests = newest_rests (sent_of past) place.0 place.1 order.unit order.updates verdict place.2 over.1 in
    goes_on start past _ (check_record order.unit verdict) (standings.Began order) d ready.0
    (check_allowed order verdict) (check_new order.unit verdict (records_of start past))
    (check_none order.unit verdict (records_of start past)) (check_due past order.unit verdict)
    (fresh_grounds (sent_of past) order verdict rests)

-- a fresh session has ended
pub checked_on : (pace : Pace) (start : Start) (past : List Happening) (journal new : JournalState) (order : Contents)
    (s : Session)
    (verdict : Verdict) (next : Phase)
    → Describes start past (record { journal = journal; phase = Checks order s; pace = pace })
    → IsReady pace (Checks order s) journal
    → aim_of s ≡ asks.Ended verdict
    → IsAfterCheck pace order verdict next → new.records ≡ check_record order.unit verdict ∷ journal.records
    → new.limit ≡ journal.limit
    → Describes start (Kept (check_record order.unit verdict) ∷ past)
    (record { journal = new; phase = next; pace = pace })
checked_on pace start past journal new order s verdict next d ready aim after records limit =
    let may = checked_may pace start past journal order s verdict d ready aim in
    kept_on pace start past journal new (Checks order s) next (check_record order.unit verdict) d may records limit
    (check_place pace past order verdict next after)

opened_grounds : (sent : List Exchange) (order : Contents) (verdict : Verdict)
    → Rests (StillRead sent order.unit) order.updates verdict
    → Grounds (StillRead sent) (standings.Opened order) (Ended (write_code verdict))
opened_grounds sent order verdicts.Done rests = rests
opened_grounds sent order verdicts.Doubt rests = (2, rests.0, rests.1)
opened_grounds sent order _ rests = tt

pub write_allowed : (order : Contents) (verdict : Verdict)
    → Allows (standings.Opened order) (Ended (write_code verdict))
write_allowed order verdicts.Done = tt
write_allowed order _ = tt

-- an opened session has ended
pub written_on : (pace : Pace) (start : Start) (past : List Happening) (journal new : JournalState) (order : Contents)
    (s : Session)
    (verdict : Verdict)
    → Describes start past (record { journal = journal; phase = Writes order s; pace = pace })
    → IsReady pace (Writes order s) journal
    → aim_of s ≡ asks.Ended verdict
    → new.records ≡ Ended (write_code verdict) ∷ journal.records → new.limit ≡ journal.limit
    → Describes start (Kept (Ended (write_code verdict)) ∷ past)
    (record { journal = new; phase = Says order.id (write_code verdict); pace = pace })
written_on pace start past journal new order s verdict d ready aim records limit =
    let place = d.place in
    let over = opened_over order pace place.0 s verdict ready.1 place.3 aim in
    let rests = newest_rests (sent_of past) place.0 place.1 order.unit order.updates verdict place.2 over.1 in
    let may =
    goes_on start past _ (Ended (write_code verdict)) (standings.Opened order) d ready.0
    (write_allowed order verdict) tt
    (length_come (reached.Ended (write_code verdict)) (orders_of (records_of start past))) tt
    (opened_grounds (sent_of past) order verdict rests) in
    kept_on pace start past journal new (Writes order s) (Says order.id (write_code verdict))
    (Ended (write_code verdict)) d
    may records limit refl

-- a read that still holds was answered
stands_read : (told : List Exchange) (unit location byte : ℕ) → StillRead told unit location byte → HasRead unit told
stands_read [] unit location byte stands = absurd stands
stands_read (x ∷ told) unit location byte (inl ends) = inl (location, byte, ends)
stands_read (x ∷ told) unit location byte (inr (passive, stands)) = inr (stands_read told unit location byte stands)

-- a closing session has ended as Closed
pub closed_on : (pace : Pace) (start : Start) (past : List Happening) (journal new : JournalState) (order : Contents)
    (moment : ℕ)
    (s : Session)
    → Describes start past (record { journal = journal; phase = Closes order moment s; pace = pace })
    → IsReady pace (Closes order moment s) journal
    → aim_of s ≡ asks.Ended verdicts.Closed
    → new.records ≡ Closed (unit_of s) ∷ journal.records → new.limit ≡ journal.limit
    → Describes start (Kept (Closed (unit_of s)) ∷ past)
    (record { journal = new; phase = Begins order moment; pace = pace })
closed_on pace start past journal new order moment s d ready aim records limit =
    let place = d.place in
    let unit = unit_of s in
    let since = since_part past in
    let over = closing_over unit (sent_since_taken past) s verdicts.Closed ready.1 place.2 aim in
    let all = newest_rests (sent_of past) (sent_since_taken past) since.0 unit [] verdicts.Closed since.1 over.1 in
    let waits : IsSome (waiting past) = rw place.0 refl in
    let may = goes_on start past _ (Closed unit) (standings.Left unit) d ready.0 refl tt refl
    (waits, stands_read (sent_since_taken past) unit 2 over.1.0 over.1.1) (2, all.0, all.1) in
    kept_on pace start past journal new (Closes order moment s) (Begins order moment) (Closed unit) d may records limit
    (place.0, place.1)

said_ready : (pace : Pace) (journal new : JournalState) (order : Contents) (code : Code) (progress : Progress)
    → (older : List (Contents × Progress)) × orders_of journal.records ≡ (order, progress) ∷ older
    → is_at_work (standing_of (Ended code ∷ journal.records)) ≡ false → new.records ≡ Ended code ∷ journal.records
    → IsReady pace (Says order.id code) new
said_ready pace journal new order code progress newest idle records =
    rw records (idle, rw newest.1 (refl, refl))

pub ready_checked : (pace : Pace) (journal new : JournalState) (order : Contents) (s : Session) (verdict : Verdict)
    (next : Phase)
    → IsReady pace (Checks order s) journal → IsAfterCheck pace order verdict next
    → new.records ≡ check_record order.unit verdict ∷ journal.records → IsReady pace next new
ready_checked pace journal new order s verdicts.MayOpen next ready (opened, is, is_opened, is_told, valid, left)
    records =
    subst (λ (p : Phase). IsReady pace p new) (sym is) (rw records (rw ready.0 refl), is_opened, valid)
ready_checked pace journal new order s verdicts.Short next ready is records =
    subst (λ (p : Phase). IsReady pace p new) (sym is) (said_ready pace journal new order codes.Short reached.Begun
    (begun_order journal.records order ready.0) (rw ready.0 refl) records)
ready_checked pace journal new order s verdicts.Format next ready is records =
    subst (λ (p : Phase). IsReady pace p new) (sym is) (said_ready pace journal new order codes.Format reached.Begun
    (begun_order journal.records order ready.0) (rw ready.0 refl) records)
ready_checked pace journal new order s _ next ready is records =
    subst (λ (p : Phase). IsReady pace p new) (sym is) (said_ready pace journal new order codes.Silent reached.Begun
    (begun_order journal.records order ready.0) (rw ready.0 refl) records)

idle_written : (order : Contents) (verdict : Verdict) (stands : Standing) → stands ≡ standings.Opened order
    → is_at_work (next_standing stands (Ended (write_code verdict))) ≡ false
idle_written order verdicts.Done stands at = rw at refl
idle_written order _ stands at = rw at refl

pub ready_written : (pace : Pace) (journal new : JournalState) (order : Contents) (s : Session) (verdict : Verdict)
    → IsReady pace (Writes order s) journal
    → new.records ≡ Ended (write_code verdict) ∷ journal.records → IsReady pace (Says order.id (write_code verdict)) new
ready_written pace journal new order s verdict ready records =
    said_ready pace journal new order (write_code verdict) reached.Open (open_order journal.records order ready.0)
    (idle_written order verdict (standing_of journal.records) ready.0) records

pub ready_closed : (pace : Pace) (journal new : JournalState) (order : Contents) (moment : ℕ) (s : Session)
    → IsReady pace (Closes order moment s) journal
    → new.records ≡ Closed (unit_of s) ∷ journal.records → new.limit ≡ journal.limit
    → KeepsRoom (Closed (unit_of s)) journal new → IsReady pace (Begins order moment) new
ready_closed pace journal new order moment s ready records limit room = (
  rw records refl,
  (room order ready.2.0, rw (records, limit) ready.2.1, rw records ready.2.2),
)

-- the same of whatever phase wants a record to be kept
pub same_entry : (entry wanted : Record) → Keep entry ≡ Keep wanted → entry ≡ wanted
same_entry entry wanted e = cc

pub keeps_begun : (pace : Pace) (start : Start) (past : List Happening) (journal new : JournalState) (old : Phase)
    (order : Contents) (moment : ℕ)
    (s : Session) (entry : Record)
    → Begins order moment ≡ old → Describes start past (record { journal = journal; phase = old; pace = pace })
    → IsReady pace old journal
    → want_of old ≡ Keep entry → Told [] s
    → new.records ≡ Began order moment ∷ journal.records → new.limit ≡ journal.limit
    → Describes start (Kept entry ∷ past) (record { journal = new; phase = Checks order s; pace = pace })
keeps_begun pace start past journal new old order moment s entry at d ready want is_told records limit =
    let wanted : want_of (Begins order moment) ≡ Keep entry = rw (← at) at want in
    let before : Describes start past (record { journal = journal; phase = Begins order moment; pace = pace }) = rw
    (← at) at d in
    let stood : IsReady pace (Begins order moment) journal = rw (← at) at ready in
    rw (← same_entry (Began order moment) entry wanted)
    (begun_on pace start past journal new order moment s before stood is_told records limit)

pub keeps_checked : (pace : Pace) (start : Start) (past : List Happening) (journal new : JournalState) (old : Phase)
    (order : Contents) (s : Session) (verdict : Verdict) (next : Phase) (entry : Record)
    → Checks order s ≡ old → Describes start past (record { journal = journal; phase = old; pace = pace })
    → IsReady pace old journal
    → want_of old ≡ Keep entry → aim_of s ≡ asks.Ended verdict
    → IsAfterCheck pace order verdict next → new.records ≡ check_record order.unit verdict ∷ journal.records
    → new.limit ≡ journal.limit
    → Describes start (Kept entry ∷ past) (record { journal = new; phase = next; pace = pace })
keeps_checked pace start past journal new old order s verdict next entry at d ready want aim after records limit =
    let asked : want_of (Checks order s) ≡ Keep entry = rw (← at) at want in
    let wanted : Keep (check_record order.unit verdict) ≡ Keep entry = rw aim at asked in
    let before : Describes start past (record { journal = journal; phase = Checks order s; pace = pace }) = rw (← at) at
    d in
    let stood : IsReady pace (Checks order s) journal = rw (← at) at ready in
    rw (← same_entry (check_record order.unit verdict) entry wanted)
    (checked_on pace start past journal new order s verdict next before stood aim after records limit)

pub keeps_written : (pace : Pace) (start : Start) (past : List Happening) (journal new : JournalState) (old : Phase)
    (order : Contents) (s : Session) (verdict : Verdict) (entry : Record)
    → Writes order s ≡ old → Describes start past (record { journal = journal; phase = old; pace = pace })
    → IsReady pace old journal
    → want_of old ≡ Keep entry → aim_of s ≡ asks.Ended verdict
    → new.records ≡ Ended (write_code verdict) ∷ journal.records → new.limit ≡ journal.limit
    → Describes start (Kept entry ∷ past)
    (record { journal = new; phase = Says order.id (write_code verdict); pace = pace })
keeps_written pace start past journal new old order s verdict entry at d ready want aim records limit =
    let asked : want_of (Writes order s) ≡ Keep entry = rw (← at) at want in
    let wanted : Keep (Ended (write_code verdict)) ≡ Keep entry = rw aim at asked in
    let before : Describes start past (record { journal = journal; phase = Writes order s; pace = pace }) = rw (← at) at
    d in
    let stood : IsReady pace (Writes order s) journal = rw (← at) at ready in
    rw (← same_entry (Ended (write_code verdict)) entry wanted)
    (written_on pace start past journal new order s verdict before stood aim records limit)

-- a closing session is followed by a record only if it ended as Closed
pub closing_keeps : (id unit : ℕ) (ask : Ask) (entry : Record) → closing_of id unit ask ≡ Keep entry
    → (ask ≡ asks.Ended verdicts.Closed) × (Closed unit ≡ entry)
closing_keeps id unit (asks.Send frame) entry e = cc
closing_keeps id unit (asks.Ended verdicts.Closed) entry e = (refl, same_entry (Closed unit) entry e)
closing_keeps id unit (asks.Ended _) entry e = cc

pub keeps_closed : (pace : Pace) (start : Start) (past : List Happening) (journal new : JournalState) (old : Phase)
    (order : Contents) (moment : ℕ)
    (s : Session) (entry : Record)
    → Closes order moment s ≡ old → Describes start past (record { journal = journal; phase = old; pace = pace })
    → IsReady pace old journal
    → want_of old ≡ Keep entry
    → new.records ≡ Closed (unit_of s) ∷ journal.records → new.limit ≡ journal.limit
    → Describes start (Kept entry ∷ past) (record { journal = new; phase = Begins order moment; pace = pace })
keeps_closed pace start past journal new old order moment s entry at d ready want records limit =
    let asked : want_of (Closes order moment s) ≡ Keep entry = rw (← at) at want in
    let is = closing_keeps order.id (unit_of s) (aim_of s) entry asked in
    let before : Describes start past (record { journal = journal; phase = Closes order moment s; pace = pace }) = rw
    (← at) at d in
    let stood : IsReady pace (Closes order moment s) journal = rw (← at) at ready in
    rw (← is.1) (closed_on pace start past journal new order moment s before stood is.0 records limit)

-- after a fresh session there is less to be done
pub check_falls : (pace : Pace) (order : Contents) (s : Session) (verdict : Verdict) (old next : Phase)
    → Checks order s ≡ old
    → IsAfterCheck pace order verdict next
    → work_left next < work_left old
check_falls pace order s verdicts.MayOpen old next at (opened, is, is_opened, is_told, valid, left) =
    subst (λ (p : Phase). work_left next < work_left p)
    at (subst (λ (p : Phase). work_left p < work_left (Checks order s)) (sym is) (omega (arith, left)))
check_falls pace order s _ old next at is =
    subst (λ (p : Phase). work_left next < work_left p)
    at (subst (λ (p : Phase). work_left p < work_left (Checks order s)) (sym is) (omega arith))

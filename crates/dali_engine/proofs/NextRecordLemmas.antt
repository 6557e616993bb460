-- A writer wants a record kept exactly when that is the one that is to be kept next.
use Rattle.std.proofs.Common.{subst, ◌≡◌, ◌↔◌, refl, sym, ap, ◌∙◌, false, List, Option, Some, None, ℕ}
use Rattle.dali_bank.specs.Order.{Contents}
use Rattle.dali_journal.specs.declared.record.Code.TheVariants as codes
use Rattle.dali_journal.specs.declared.record.Record.{Record}
use Rattle.dali_journal.specs.declared.record.Record.TheVariants.{Began, Opened, Ended}
use Rattle.dali_journal.specs.declared.standing.Standing.{Standing}
use Rattle.dali_journal.specs.declared.standing.Standing.TheVariants as standings
use Rattle.dali_journal.specs.JournalState.{JournalState}
use Rattle.dali_write.specs.Exchanges.{Exchange}
use Rattle.dali_write.specs.declared.ask.Ask.{Ask}
use Rattle.dali_write.specs.declared.ask.Ask.TheVariants as asks
use Rattle.dali_write.specs.declared.ask.Verdict.{Verdict}
use Rattle.dali_write.specs.declared.ask.Verdict.TheVariants as verdicts
use Rattle.dali_write.specs.Plans.{read_length, unlock, close}
use Rattle.dali_write.specs.Told.{unit_of, aim_of}
use Rattle.dali_write.proofs.DeterminedLemmas.{wants_one}
use Rattle.dali_write.proofs.KindLemmas.{fresh_ends, opened_ends}
use Rattle.dali_write.proofs.SessionLemmas.{fresh_wants, opened_wants, closing_wants}
use Rattle.dali_trace.specs.declared.happening.Happening.{Happening}
use Rattle.dali_trace.specs.declared.happening.Want.TheVariants.{Keep}
use Rattle.dali_engine.specs.declared.phase.Phase.{Phase}
use Rattle.dali_engine.specs.declared.phase.Phase.TheVariants.{Idle, Begins, Checks, Writes, Closes, Says}
use Rattle.dali_trace.specs.Trace.{waiting_since}
use Rattle.dali_trace.specs.Trace.{Start, standing_at, waiting, is_at_work, outstanding_of}
use Rattle.dali_engine.specs.Phases.{want_of, check_of, write_of, check_record, write_code}
use Rattle.dali_engine.specs.WriterState.{IsReady}
use Rattle.dali_engine.specs.Describes.{Describes}
use Rattle.dali_trace.specs.Grounds.{EndsIn}
use Rattle.dali_trace.specs.ByPlan.{told_in, Asks}
use Rattle.dali_engine.specs.Follows.{Follows}
use Rattle.dali_trace.specs.Parts.{NextRecord, IsKeptNext}
use Rattle.dali_engine.proofs.StepLemmas.{stands_so}
use Rattle.dali_laws.proofs.TakenLemmas.{none_waits, none_waits_ended}
use Rattle.dali_engine.proofs.KeepLemmas.{same_entry, closing_keeps}
use Rattle.dali_laws.proofs.OnPlanLemmas.{closed_verdict}
use Rattle.dali_engine.proofs.FollowLemmas.{check_ends, write_ends}
use Rattle.dali_write.specs.declared.pace.Pace.{Pace}

-- what is wanted is next

check_next : (pace : Pace) (order : Contents) (told : List Exchange) (waits : Option Contents) (since : ℕ)
    (entry : Record)
    (ask : Ask)
    → Asks pace (standings.Began order) told ask
    → check_of order.unit ask ≡ Keep entry → NextRecord pace (standings.Began order) waits since told entry
check_next pace order told waits since entry (asks.Send frame) asked want = cc
check_next pace order told waits since entry (asks.Ended verdict) asked want = (
  verdict,
  asked,
  check_ends order verdict entry (fresh_ends told order.unit pace order.updates verdict asked)
      (sym (same_entry (check_record order.unit verdict) entry want)),
)

write_next : (pace : Pace) (order : Contents) (told : List Exchange) (waits : Option Contents) (since : ℕ)
    (entry : Record)
    (ask : Ask)
    → Asks pace (standings.Opened order) told ask
    → write_of ask ≡ Keep entry → NextRecord pace (standings.Opened order) waits since told entry
write_next pace order told waits since entry (asks.Send frame) asked want = cc
write_next pace order told waits since entry (asks.Ended verdict) asked want = (
  verdict,
  asked,
  write_ends order verdict entry (opened_ends told order.unit pace order.updates verdict asked)
      (sym (same_entry (Ended (write_code verdict)) entry want)),
)

wanted_next : (pace : Pace) (start : Start) (past : List Happening) (journal : JournalState) (phase : Phase)
    (entry : Record)
    → Describes start past (record { journal = journal; phase = phase; pace = pace })
    → Follows start past (record { journal = journal; phase = phase; pace = pace }) → IsReady pace phase journal
    → want_of phase ≡ Keep entry → IsKeptNext start past entry
wanted_next pace start past journal Idle entry d f ready want = cc
wanted_next pace start past journal (Says id code) entry d f ready want = cc
wanted_next pace start past journal (Begins order moment) entry d f ready want =
    rw (d.pace, stands_so start past _ _ d ready.0, d.place.0, d.place.1)
    (sym (same_entry (Began order moment) entry want))
wanted_next pace start past journal (Checks order s) entry d f ready want =
    rw (d.pace, stands_so start past _ _ d ready.0)
    (check_next pace order (told_in past) (waiting past) (waiting_since past) entry (aim_of s)
    (fresh_wants order pace (told_in past) s (aim_of s) ready.1 f.told refl) want)
wanted_next pace start past journal (Writes order s) entry d f ready want =
    rw (d.pace, stands_so start past _ _ d ready.0)
    (write_next pace order (told_in past) (waiting past) (waiting_since past) entry (aim_of s)
    (opened_wants order pace (told_in past) s (aim_of s) ready.1 f.told refl) want)
wanted_next pace start past journal (Closes order moment s) entry d f ready want =
    let is = closing_keeps order.id (unit_of s) (aim_of s) entry want in
    let asked : Asks pace (standings.Left (unit_of s)) (told_in past) (asks.Ended verdicts.Closed) =
    closing_wants (unit_of s) (told_in past) s (asks.Ended verdicts.Closed) ready.1 f.told is.0 in
    rw (d.pace, stands_so start past _ _ d ready.0, d.place.0) (
      verdicts.Closed,
      asked,
      subst (λ (e : Record). EndsIn (standings.Left (unit_of s)) verdicts.Closed e) is.1 (refl, refl),
    )

-- what is next is wanted

none_next : (pace : Pace) (stands : Standing) (waits : Option Contents) (since : ℕ) (told : List Exchange)
    (entry : Record)
    → is_at_work stands ≡ false → waits ≡ None → NextRecord pace stands waits since told entry → ⊥
none_next pace standings.Idle None since told entry idle none next = next
none_next pace standings.Idle (Some order) since told entry idle none next = cc
none_next pace (standings.Left unit) None since told entry idle none next = next
none_next pace (standings.Left unit) (Some order) since told entry idle none next = cc
none_next pace (standings.Began order) waits since told entry idle none next = cc
none_next pace (standings.Opened order) waits since told entry idle none next = cc

pub ends_check : (order : Contents) (verdict : Verdict) (entry : Record) → EndsIn (standings.Began order) verdict entry
    → Keep (check_record order.unit verdict) ≡ Keep entry
ends_check order verdict (Opened unit) ends =
    let is = ends.1 in let may : verdict ≡ verdicts.MayOpen = cc in rw (may, ends.0) refl
ends_check order verdict (Ended codes.Short) ends =
    let is = ends.1 in let short : verdict ≡ verdicts.Short = cc in rw short refl
ends_check order verdict (Ended codes.Format) ends =
    let is = ends.1 in let format : verdict ≡ verdicts.Format = cc in rw format refl
ends_check order verdict (Ended codes.Silent) ends =
    let is = ends.1 in let silent : verdict ≡ verdicts.Silent = cc in rw silent refl
ends_check order verdict _ ends = absurd ends.0

pub ends_write : (order : Contents) (verdict : Verdict) (entry : Record) → EndsIn (standings.Opened order) verdict entry
    → Keep (Ended (write_code verdict)) ≡ Keep entry
ends_write order verdict (Ended codes.Done) ends =
    let is = ends.1 in let done : verdict ≡ verdicts.Done = cc in rw done refl
ends_write order verdict (Ended codes.Doubt) ends =
    let is = ends.1 in let doubt : verdict ≡ verdicts.Doubt = cc in rw doubt refl
ends_write order verdict (Ended codes.DoubtOpen) ends =
    let is = ends.1 in let left : verdict ≡ verdicts.DoubtOpen = cc in rw left refl
ends_write order verdict _ ends = absurd ends.0

next_wanted : (pace : Pace) (start : Start) (past : List Happening) (journal : JournalState) (phase : Phase)
    (entry : Record)
    → Describes start past (record { journal = journal; phase = phase; pace = pace })
    → Follows start past (record { journal = journal; phase = phase; pace = pace }) → IsReady pace phase journal
    → IsKeptNext start past entry → want_of phase ≡ Keep entry
next_wanted pace start past journal Idle entry d f ready next =
    absurd (none_next pace (standing_at start past) (waiting past) (waiting_since past) (told_in past) entry
    (ap is_at_work (stands_so start past _ _ d refl) ∙ ready) (none_waits (outstanding_of past) d.place)
    (rw d.pace at next))
next_wanted pace start past journal (Says id code) entry d f ready next =
    absurd (none_next pace (standing_at start past) (waiting past) (waiting_since past) (told_in past) entry
    (ap is_at_work (stands_so start past _ _ d refl) ∙ ready.0) (none_waits_ended (outstanding_of past) d.place)
    (rw d.pace at next))
next_wanted pace start past journal (Begins order moment) entry d f ready next =
    let is : NextRecord pace standings.Idle (Some order) moment (told_in past) entry =
    rw (d.pace, stands_so start past _ _ d ready.0, d.place.0, d.place.1) at next in
    ap Keep (sym is)
next_wanted pace start past journal (Checks order s) entry d f ready next =
    let is : NextRecord pace (standings.Began order) (waiting past) (waiting_since past) (told_in past) entry =
    rw (d.pace, stands_so start past _ _ d ready.0) at next in
    let aim =
    wants_one (told_in past) order.unit (read_length pace order.updates) (aim_of s) (asks.Ended is.0)
    (fresh_wants order pace (told_in past) s (aim_of s) ready.1 f.told refl) is.1 in
    rw aim (ends_check order is.0 entry is.2)
next_wanted pace start past journal (Writes order s) entry d f ready next =
    let is : NextRecord pace (standings.Opened order) (waiting past) (waiting_since past) (told_in past) entry =
    rw (d.pace, stands_so start past _ _ d ready.0) at next in
    let aim =
    wants_one (told_in past) order.unit (unlock pace order.updates) (aim_of s) (asks.Ended is.0)
    (opened_wants order pace (told_in past) s (aim_of s) ready.1 f.told refl) is.1 in
    rw aim (ends_write order is.0 entry is.2)
next_wanted pace start past journal (Closes order moment s) entry d f ready next =
    let is : NextRecord pace (standings.Left (unit_of s)) (Some order) (waiting_since past) (told_in past) entry =
    rw (d.pace, stands_so start past _ _ d ready.0, d.place.0) at next in
    let closed = closed_verdict (unit_of s) is.0 entry is.2 in
    let aim =
    wants_one (told_in past) (unit_of s) (close verdicts.Closed verdicts.NotClosed) (aim_of s) (asks.Ended is.0)
    (closing_wants (unit_of s) (told_in past) s (aim_of s) ready.1 f.told refl) is.1 in
    let ended : aim_of s ≡ asks.Ended verdicts.Closed = aim ∙ ap asks.Ended closed.0 in
    rw ended (ap Keep (sym closed.1))

pub next_record : (pace : Pace) (start : Start) (past : List Happening) (journal : JournalState) (phase : Phase)
    (entry : Record)
    → Describes start past (record { journal = journal; phase = phase; pace = pace })
    → Follows start past (record { journal = journal; phase = phase; pace = pace }) → IsReady pace phase journal
    → (want_of phase ≡ Keep entry) ↔ IsKeptNext start past entry
next_record pace start past journal phase entry d f ready = (
  λ want. wanted_next pace start past journal phase entry d f ready want,
  λ next. next_wanted pace start past journal phase entry d f ready next,
)

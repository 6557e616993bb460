-- The cause that a writer tells is that of the order at hand.
use Rattle.std.proofs.Common.{◌≡◌, ◌≢◌, ◌∙◌, refl, ap, true, false, List, None, IsSome}
use Rattle.dali_bank.specs.Order.{Contents}
use Rattle.dali_journal.specs.declared.record.Code.TheVariants as codes
use Rattle.dali_journal.specs.declared.record.Record.{Record}
use Rattle.dali_journal.specs.declared.record.Record.TheVariants.{Began, Ended}
use Rattle.dali_journal.specs.declared.standing.Standing.{Standing}
use Rattle.dali_journal.specs.declared.standing.Standing.TheVariants as standings
use Rattle.dali_journal.specs.Sentence.{standing_of}
use Rattle.dali_journal.specs.JournalState.{JournalState}
use Rattle.dali_write.specs.Exchanges.{Exchange}
use Rattle.dali_write.specs.declared.ask.Ask.{Ask}
use Rattle.dali_write.specs.declared.ask.Ask.TheVariants as asks
use Rattle.dali_write.specs.declared.ask.Verdict.{Verdict}
use Rattle.dali_write.specs.declared.ask.Verdict.TheVariants as verdicts
use Rattle.dali_write.specs.declared.pace.Pace.{Pace}
use Rattle.dali_write.specs.declared.session.Session.{Session}
use Rattle.dali_write.specs.Told.{Told, IsFresh, aim_of, cause_of, unit_of}
use Rattle.dali_write.specs.Verdicts.{EndsFresh}
use Rattle.dali_write.proofs.CauseLemmas.{fresh_has_cause, opened_has_cause}
use Rattle.dali_write.proofs.KindLemmas.{fresh_ends}
use Rattle.dali_write.proofs.SessionLemmas.{fresh_cause, fresh_wants, opened_cause}
use Rattle.dali_trace.specs.declared.happening.Happening.{Happening}
use Rattle.dali_trace.specs.declared.happening.Want.TheVariants.{Keep}
use Rattle.dali_trace.specs.Trace.{Start, is_at_work, standing_at, pace_at}
use Rattle.dali_trace.specs.ByPlan.{told_in}
use Rattle.dali_trace.specs.Causes.{HasCause, IsCauseAt, is_ill}
use Rattle.dali_engine.specs.declared.phase.Phase.{Phase}
use Rattle.dali_engine.specs.declared.phase.Phase.TheVariants.{Idle, Begins, Checks, Writes, Closes, Says}
use Rattle.dali_engine.specs.Phases.{cause_at, check_of, check_record, want_of, write_code, write_of}
use Rattle.dali_engine.specs.WriterState.{IsReady}
use Rattle.dali_engine.specs.Describes.{Describes}
use Rattle.dali_engine.specs.Follows.{Follows}
use Rattle.dali_engine.proofs.StepLemmas.{stands_so}
use Rattle.dali_engine.proofs.KeepLemmas.{same_entry, closing_keeps}

-- none if no order is at work
no_cause : (pace : Pace) (stands : Standing) (told : List Exchange) → is_at_work stands ≡ false
    → HasCause pace stands told None
no_cause pace standings.Idle told none = refl
no_cause pace (standings.Left unit) told none = refl
no_cause pace (standings.Began order) told none = cc
no_cause pace (standings.Opened order) told none = cc

at_rest : (pace : Pace) (start : Start) (past : List Happening) (journal : JournalState) (phase : Phase)
    → Describes start past (record { journal = journal; phase = phase; pace = pace })
    → is_at_work (standing_of journal.records) ≡ false → IsCauseAt start past None
at_rest pace start past journal phase d none =
    no_cause (pace_at start past) (standing_at start past) (told_in past)
    (ap is_at_work (stands_so start past _ _ d refl) ∙ none)

pub caused : (pace : Pace) (start : Start) (past : List Happening) (journal : JournalState) (phase : Phase)
    → Describes start past (record { journal = journal; phase = phase; pace = pace })
    → Follows start past (record { journal = journal; phase = phase; pace = pace }) → IsReady pace phase journal
    → IsCauseAt start past (cause_at phase)
caused pace start past journal Idle d f ready = at_rest pace start past journal Idle d ready
caused pace start past journal (Says id code) d f ready = at_rest pace start past journal (Says id code) d ready.0
caused pace start past journal (Begins order moment) d f ready =
    at_rest pace start past journal (Begins order moment) d (ap is_at_work ready.0)
caused pace start past journal (Closes order moment s) d f ready =
    at_rest pace start past journal (Closes order moment s) d (ap is_at_work ready.0)
caused pace start past journal (Checks order s) d f ready =
    let here : HasCause pace (standings.Began order) (told_in past) (cause_at (Checks order s)) =
    fresh_cause order pace (told_in past) s ready.1 f.told in
    rw (d.pace, stands_so start past _ _ d ready.0) here
caused pace start past journal (Writes order s) d f ready =
    let here : HasCause pace (standings.Opened order) (told_in past) (cause_at (Writes order s)) =
    opened_cause order pace (told_in past) s ready.1 f.told in
    rw (d.pace, stands_so start past _ _ d ready.0) here

-- ---- an end that is no good one has a cause

check_ill : (pace : Pace) (order : Contents) (told : List Exchange) (s : Session) (entry : Record) (verdict : Verdict)
    → IsFresh order pace s → Told told s → aim_of s ≡ asks.Ended verdict → EndsFresh verdict
    → check_record order.unit verdict ≡ entry → is_ill entry ≡ true → IsSome (cause_of s)
check_ill pace order told s entry verdicts.Silent is was aim ends same ill =
    fresh_has_cause order pace told s is was aim
check_ill pace order told s entry verdicts.MayOpen is was aim ends same ill = cc
check_ill pace order told s entry verdicts.Short is was aim ends same ill = cc
check_ill pace order told s entry verdicts.Format is was aim ends same ill = cc
check_ill pace order told s entry verdicts.Done is was aim ends same ill = absurd ends
check_ill pace order told s entry verdicts.Doubt is was aim ends same ill = absurd ends
check_ill pace order told s entry verdicts.DoubtOpen is was aim ends same ill = absurd ends
check_ill pace order told s entry verdicts.Closed is was aim ends same ill = absurd ends
check_ill pace order told s entry verdicts.NotClosed is was aim ends same ill = absurd ends
check_ill pace order told s entry verdicts.Read is was aim ends same ill = absurd ends

-- an opened session that ends as Done is followed by no such end
not_done : (entry : Record) (verdict : Verdict) → Ended (write_code verdict) ≡ entry → is_ill entry ≡ true
    → verdict ≢ verdicts.Done
not_done entry verdict same ill done = let good : Ended (write_code verdict) ≡ Ended codes.Done = rw done refl in cc

pub ill_has_cause : (pace : Pace) (start : Start) (past : List Happening) (journal : JournalState) (phase : Phase)
    (entry : Record)
    → Describes start past (record { journal = journal; phase = phase; pace = pace })
    → Follows start past (record { journal = journal; phase = phase; pace = pace }) → IsReady pace phase journal
    → want_of phase ≡ Keep entry → is_ill entry ≡ true → IsSome (cause_at phase)
ill_has_cause pace start past journal Idle entry d f ready want ill = cc
ill_has_cause pace start past journal (Says id code) entry d f ready want ill = cc
ill_has_cause pace start past journal (Begins order moment) entry d f ready want ill =
    let same = same_entry (Began order moment) entry want in cc
ill_has_cause pace start past journal (Closes order moment s) entry d f ready want ill =
    let same = (closing_keeps order.id (unit_of s) (aim_of s) entry want).1 in cc
ill_has_cause pace start past journal (Checks order s) entry d f ready want ill = by (aim_of s) refl want where
  by : (ask : Ask) → aim_of s ≡ ask → check_of order.unit ask ≡ Keep entry → IsSome (cause_of s)
  by (asks.Send frame) aim e = cc
  by (asks.Ended verdict) aim e =
      check_ill pace order (told_in past) s entry verdict ready.1 f.told aim
      (fresh_ends (told_in past) order.unit pace order.updates verdict
      (fresh_wants order pace (told_in past) s (asks.Ended verdict) ready.1 f.told aim))
      (same_entry (check_record order.unit verdict) entry e) ill
ill_has_cause pace start past journal (Writes order s) entry d f ready want ill = by (aim_of s) refl want where
  by : (ask : Ask) → aim_of s ≡ ask → write_of ask ≡ Keep entry → IsSome (cause_of s)
  by (asks.Send frame) aim e = cc
  by (asks.Ended verdict) aim e =
      opened_has_cause order pace (told_in past) s verdict ready.1 f.told aim
      (not_done entry verdict (same_entry (Ended (write_code verdict)) entry e) ill)

-- A writer that goes on from its journal.
use Rattle.std.proofs.Common.{◌≡◌, refl, sym, ◌∙◌, subst, false, List, [], ◌∷◌}
use Rattle.dali_journal.specs.Sentence.{standing_of, IsSentenceWithin}
use Rattle.dali_journal.specs.JournalState.{JournalState}
use Rattle.dali_journal.specs.declared.standing.Standing.{Standing}
use Rattle.dali_journal.specs.declared.standing.Standing.TheVariants as standings
use Rattle.dali_trace.specs.declared.happening.Happening.{Happening}
use Rattle.dali_trace.specs.declared.happening.Happening.TheVariants.{Stopped}
use Rattle.dali_trace.specs.Trace.{Start, sent_of, is_unsaid}
use Rattle.dali_engine.specs.declared.phase.Phase.{Phase}
use Rattle.dali_engine.specs.WriterState.{WriterState, IsReady, IsResumed}
use Rattle.dali_engine.specs.Describes.{IsAt, Describes}
use Rattle.dali_engine.specs.Follows.{Follows}
use Rattle.dali_laws.proofs.AgreeLemmas.{may_follow}
use Rattle.dali_engine.proofs.FollowLemmas.{resumed_told}
use Rattle.dali_write.specs.declared.pace.Pace.{Pace}

pub resumed_ready : (pace : Pace) (journal : JournalState) (stands : Standing) (phase : Phase)
    → stands ≡ standing_of journal.records
    → IsResumed pace stands phase → IsReady pace phase journal
resumed_ready pace journal (standings.Began order) phase at (s, is, fresh, is_told, valid) =
    subst (λ (p : Phase). IsReady pace p journal) (sym is) (sym at, fresh, valid)
resumed_ready pace journal (standings.Opened order) phase at (s, is, opened, is_told, valid) =
    subst (λ (p : Phase). IsReady pace p journal) (sym is) (sym at, opened, valid)
resumed_ready pace journal standings.Idle phase at is =
    subst (λ (p : Phase). IsReady pace p journal) (sym is) (rw (← at) refl)
resumed_ready pace journal (standings.Left unit) phase at is =
    subst (λ (p : Phase). IsReady pace p journal) (sym is) (rw (← at) refl)

-- when no frame was sent, and nothing is still to be said
resumed_at : (pace : Pace) (past : List Happening) (stands : Standing) (phase : Phase) → sent_of past ≡ []
    → is_unsaid past ≡ false
    → IsResumed pace stands phase → IsAt phase past
resumed_at pace past (standings.Began order) phase none said (s, is, fresh, is_told, valid) =
    subst (λ (p : Phase). IsAt p past) (sym is) ([], [], none, is_told)
resumed_at pace past (standings.Opened order) phase none said (s, is, opened, is_told, valid) =
    subst (λ (p : Phase). IsAt p past) (sym is) ([], [], none, is_told)
resumed_at pace past standings.Idle phase none said is = subst (λ (p : Phase). IsAt p past) (sym is) said
resumed_at pace past (standings.Left unit) phase none said is = subst (λ (p : Phase). IsAt p past) (sym is) said

-- it is described by the empty trace from its records, and follows it
pub resumed_described : (pace : Pace) (start : Start) (journal : JournalState) (stands : Standing) (phase : Phase)
    → IsResumed pace stands phase → IsSentenceWithin journal.limit journal.records
    → start.records ≡ journal.records → start.limit ≡ journal.limit → start.pace ≡ pace
    → Describes start [] (record { journal = journal; phase = phase; pace = pace })
resumed_described pace start journal stands phase resumed whole records limit keeps = record {
  legal = rw (records, limit) whole;
  finished = tt;
  same = records;
  limit = limit;
  pace = keeps;
  place = resumed_at pace [] stands phase refl refl resumed;
}

pub resumed_follows : (pace : Pace) (start : Start) (journal : JournalState) (stands : Standing) (phase : Phase)
    → IsResumed pace stands phase → Follows start [] (record { journal = journal; phase = phase; pace = pace })
resumed_follows pace start journal stands phase resumed =
    record { planned = tt; told = resumed_told pace stands phase resumed }

-- so it is after a stop of a writer that had the same records
pub stopped_described : (pace : Pace) (start : Start) (past : List Happening) (before : WriterState)
    (journal : JournalState)
    (stands : Standing) (phase : Phase) → IsResumed pace stands phase → Describes start past before
    → before.journal.records ≡ journal.records → before.journal.limit ≡ journal.limit
    → Describes start (Stopped pace ∷ past) (record { journal = journal; phase = phase; pace = pace })
stopped_described pace start past before journal stands phase resumed d records limit = record {
  legal = (d.legal, may_follow start past (Stopped pace) d.finished tt);
  finished = tt;
  same = d.same ∙ records;
  limit = d.limit ∙ limit;
  pace = refl;
  place = resumed_at pace (Stopped pace ∷ past) stands phase refl refl resumed;
}

pub stopped_follows : (pace : Pace) (start : Start) (past : List Happening) (before : WriterState)
    (journal : JournalState)
    (stands : Standing) (phase : Phase) → IsResumed pace stands phase → Follows start past before
    → Follows start (Stopped pace ∷ past) (record { journal = journal; phase = phase; pace = pace })
stopped_follows pace start past before journal stands phase resumed f =
    record { planned = (f.planned, tt); told = resumed_told pace stands phase resumed }

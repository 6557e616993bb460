-- With older journals each order acts once.
use Rattle.std.proofs.Common.{◌≡◌, ◌∙◌, refl, sym, ap, subst, inl, inr, ℕ, Bool, true, List, ◌++◌, ◌+◌, length}
use Rattle.std.proofs.Common.{Some, append_assoc, true≢false}
use Rattle.dali_bank.specs.Order.{Contents}
use Rattle.dali_journal.specs.declared.kept.Kept.{Kept}
use Rattle.dali_journal.specs.declared.kept.Kept.TheVariants as kepts
use Rattle.dali_journal.specs.declared.record.Record.{Record}
use Rattle.dali_journal.specs.declared.standing.Standing.TheVariants as standings
use Rattle.dali_journal.specs.declared.version.Version.TheVariants.{Two}
use Rattle.dali_journal.specs.JournalState.{JournalState, AreKept}
use Rattle.dali_journal.specs.Law.{IsUnended}
use Rattle.dali_journal.specs.Orders.{kept_of, orders_of}
use Rattle.dali_journal.specs.Sentence.{standing_of, is_begun, IsSentence}
use Rattle.dali_journal.proofs.BehindLemmas.{stand_alone, older_kept}
use Rattle.dali_journal.proofs.KeptLemmas.{in_the_groups}
use Rattle.dali_journal.proofs.TornLemmas.{older_sentence}
use Rattle.dali_trace.specs.declared.happening.Happening.{Happening}
use Rattle.dali_trace.specs.declared.happening.Reply.{Reply}
use Rattle.dali_trace.specs.declared.happening.Reply.TheVariants as replies
use Rattle.dali_trace.specs.Cut.{kept_in}
use Rattle.dali_trace.specs.Legal.{Legal}
use Rattle.dali_trace.specs.Replies.{IsReplyBy, IsKnownReply}
use Rattle.dali_trace.specs.Trace.{Start, records_of, is_busy, is_full}
use Rattle.dali_engine.specs.WriterState.{start_by}
use Rattle.dali_drive.specs.Behind.{IsBegunBehind, ActsOnceBehind}
use Rattle.dali_drive.specs.Driven.{KeepsRecords}
use Rattle.dali_drive.specs.Transcript.{Streams}
use Rattle.dali_drive.proofs.SittingLemmas.{kept_so}
use Rattle.dali_write.specs.declared.pace.Pace.{Pace}

-- if nothing is at work, no order is unfinished
none_unfinished : (records : List Record) (id : ℕ) (order : Contents) → IsSentence records
    → standing_of records ≡ standings.Idle → kept_of id records ≡ kepts.Unfinished order → ⊥
none_unfinished records id order s rests kept = by (((in_the_groups records id s).1 order).0 kept).1
  where
    by : IsUnended order records → ⊥
    by (moment, older, inl began) = let stands = sym (ap standing_of began) ∙ rests in cc
    by (moment, older, inr opened) = let stands = sym (ap standing_of opened) ∙ rests in cc

none_absent : (records : List Record) (id : ℕ) → IsSentence records → is_begun id records ≡ true
    → kept_of id records ≡ kepts.Absent → ⊥
none_absent records id s begun kept = true≢false (sym begun ∙ ((in_the_groups records id s).0).0 kept)

-- so its reply is one that is kept for it
known_reply : (order : Contents) (kept : Kept) (busy full : Bool) (reply : Reply) → (kept ≡ kepts.Absent → ⊥)
    → ((other : Contents) → kept ≡ kepts.Unfinished other → ⊥) → IsReplyBy order kept busy full reply
    → IsKnownReply order kept reply
known_reply order kept busy full (replies.Kept code) a u is = is
known_reply order kept busy full replies.IdReused a u is = is
known_reply order kepts.Absent busy full replies.Busy a u is = absurd (a refl)
known_reply order kepts.Absent busy full replies.Full a u is = absurd (a refl)
known_reply order kepts.Absent busy full replies.Taken a u is = absurd (a refl)
known_reply order (kepts.Unfinished other) busy full replies.Busy a u is = absurd (u other refl)
known_reply order (kepts.Unfinished other) busy full replies.Full a u is = absurd (u other refl)
known_reply order (kepts.Unfinished other) busy full replies.Taken a u is = absurd (u other refl)
known_reply order (kepts.Ended other code) busy full replies.Busy a u is = absurd is.0
known_reply order (kepts.Ended other code) busy full replies.Full a u is = absurd is.0
known_reply order (kepts.Ended other code) busy full replies.Taken a u is = absurd is.0
known_reply order kept busy full (replies.Blocked unit) a u is = absurd is

pub acts_once : (older : JournalState) (limit most : ℕ) (pace : Pace) (first : Streams) (past : List Happening)
    (b : IsBegunBehind (Some older) limit most first) → standing_of older.records ≡ standings.Idle
    → Legal (start_by pace b.journal) past → KeepsRecords past
    → ActsOnceBehind older limit (start_by pace b.journal) past
acts_once older limit most pace first past b rests legal keeps =
    let start : Start = start_by pace b.journal in
    let own : List Record = kept_in past ++ b.begun.journal.records in
    let are : records_of start past ≡ own ++ older.records =
    ap (λ (rs : List Record). kept_in past ++ rs) b.whole.records_are
    ∙ sym (append_assoc (kept_in past) b.begun.journal.records older.records) in
    let all : AreKept Two start.limit (own ++ older.records) =
    subst (λ (rs : List Record). AreKept Two b.journal.limit rs) are (kept_so start past b.whole.kept legal keeps) in
    let within : AreKept Two (length (orders_of older.records) + limit) (own ++ older.records) =
    subst (λ (n : ℕ). AreKept Two n (own ++ older.records)) b.whole.limit_is all in
    let before = older_sentence own older.records all.whole.0 in
    record {
      own = own;
      records_are = are;
      alone = (stand_alone Two limit own older.records rests within).0;
      apart = λ id begun. ((older_kept Two b.journal.limit own older.records id rests all).0 begun).0;
      known = λ order reply begun is.
          known_reply order (kept_of order.id older.records) (is_busy start past) (is_full start past) reply
          (none_absent older.records order.id before begun)
          (λ other. none_unfinished older.records order.id other before rests)
          (subst (λ (kept : Kept). IsReplyBy order kept (is_busy start past) (is_full start past) reply)
          (ap (kept_of order.id) are
          ∙ ((older_kept Two b.journal.limit own older.records order.id rests all).0 begun).1) is);
    }

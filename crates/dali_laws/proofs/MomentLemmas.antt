-- Along every chain of worlds of a legal trace each moment fits, and each record that is kept tells the truth.
use Rattle.std.proofs.Common.{◌≡◌, inl, inr, refl, sym, subst, ℕ, List, [], ◌∷◌}
use Rattle.dali_bus.specs.World.{World}
use Rattle.dali_bus.specs.Chain.{IsChain, AtEachMoment}
use Rattle.dali_journal.specs.declared.record.Record.{Record}
use Rattle.dali_journal.specs.Sentence.{IsSentence}
use Rattle.dali_write.specs.Reads.{StillRead}
use Rattle.dali_write.specs.Worlds.{IsAmong, Shows}
use Rattle.dali_write.proofs.RunLemmas.{run_on, run_among}
use Rattle.dali_write.proofs.StillReadLemmas.{stands_true}
use Rattle.dali_trace.specs.declared.happening.Happening.{Happening}
use Rattle.dali_trace.specs.declared.happening.Happening.TheVariants.{Sent, Kept, Stopped, Powered}
use Rattle.dali_trace.specs.Trace.{Start, records_of, standing_at, sent_of, powered_of}
use Rattle.dali_trace.specs.Legal.{Legal}
use Rattle.dali_trace.specs.Grounds.{Grounds}
use Rattle.dali_trace.specs.Moves.{Moves}
use Rattle.dali_trace.specs.Fits.{Fits, OnlyNamed}
use Rattle.dali_trace.specs.WhenKept.{WhenKept}
use Rattle.dali_trace.specs.Moments.{Along, IsRight}
use Rattle.dali_laws.proofs.FrameLemmas.{IsFine, after_sent, after_loss}
use Rattle.dali_laws.proofs.RecordLemmas.{keeps_fitting, keeps_only, grounds_too}
use Rattle.dali_laws.proofs.SafeLemmas.{IsSafe, AllSafe, legal_safe}
use Rattle.dali_laws.proofs.AppliedLemmas.{fits_applied}
use Rattle.dali_laws.proofs.PromiseLemmas.{tells_truth}
use Rattle.dali_write.proofs.RunLemmas.{Leads, Stays}
use Rattle.dali_bus.specs.Carry.{WorldStep}

-- the world after a legal trace: the frames since the last stop lead to it
pub record IsTold (start : Start) (past : List Happening) (now : World) : Type 0 where
  pub sentence : IsSentence (records_of start past)
  pub since : World
  pub run : Leads WorldStep (IsAmong (powered_of [] past)) (sent_of past) since now

-- a happening that says nothing of the world
told_quiet : (old new : World) (start : Start) (past : List Happening) (next : Happening)
    → records_of start (next ∷ past) ≡ records_of start past
    → sent_of (next ∷ past) ≡ sent_of past → powered_of [] (next ∷ past) ≡ powered_of [] past
    → new ≡ old → IsTold start past old → IsTold start (next ∷ past) new
told_quiet old new start past next records sent lost same told = record {
  sentence = subst IsSentence (sym records) told.sentence;
  since = told.since;
  run =
      subst (λ now. Leads WorldStep (IsAmong (powered_of [] (next ∷ past))) (sent_of (next ∷ past)) told.since now)
      (sym same)
      (subst (λ which. Leads WorldStep (IsAmong which) (sent_of (next ∷ past)) told.since old) (sym lost)
      (subst (λ exchanges. Leads WorldStep (IsAmong (powered_of [] past)) exchanges told.since old) (sym sent)
      told.run));
}

-- what a record rests on is so
rests_so : (now : World) (start : Start) (past : List Happening) (entry : Record) → IsTold start past now
    → IsSafe start past (Kept entry)
    → Grounds (Shows (IsAmong (powered_of [] past)) now) (standing_at start past) entry
rests_so now start past entry told safe =
    grounds_too (StillRead (sent_of past)) (Shows (IsAmong (powered_of [] past)) now)
    (λ unit location byte stands. stands_true (sent_of past) told.since now unit location byte told.run stands)
    (standing_at start past) entry safe.1

told_step : (old new : World) (start : Start) (past : List Happening) (next : Happening) → IsSafe start past next
    → Moves old next new
    → IsTold start past old → IsTold start (next ∷ past) new × WhenKept start (next ∷ past) new
told_step old new start past (Sent frame answer) safe carry told =
    (record { sentence = told.sentence; since = told.since; run = (old, new, told.run, carry, Stays) }, tt)
told_step old new start past (Kept entry) safe same told =
    let now : IsTold start past new = subst (IsTold start past) (sym same) told in (
      record { sentence = safe.0; since = now.since; run = now.run },
      tells_truth (powered_of [] past) new (standing_at start past) entry safe.0.1
          (rests_so new start past entry now safe),
    )
told_step old new start past (Stopped pace) safe same told =
    (record { sentence = told.sentence; since = new; run = Stays }, tt)
told_step old new start past (Powered address) safe lost told = (
  record {
    sentence = told.sentence;
    since = told.since;
    run = run_on WorldStep (IsAmong (address ∷ powered_of [] past)) (sent_of past) told.since old new address (inl refl)
        (run_among WorldStep (sent_of past) told.since old (λ at before. inr before) told.run) lost;
  },
  tt,
)
told_step old new start past next safe same told = (told_quiet old new start past next refl refl refl same told, tt)

-- each record is true when it is kept, whichever units were enabled at first
each_told : (start : Start) (first : World) (past : List Happening) (last : World) (states : List World)
    → AllSafe start past
    → IsChain Moves first past last states → IsTold start past last × AtEachMoment (WhenKept start) past last states
each_told start first [] last [] safe chain = (record { sentence = safe; since = last; run = Stays }, tt)
each_told start first [] last (state ∷ states) safe chain = absurd chain
each_told start first (next ∷ past) last [] safe chain = absurd chain
each_told start first (next ∷ past) last (state ∷ states) safe chain =
    let before = each_told start first past state states safe.0 chain.1 in
    let now = told_step state last start past next safe.1 chain.0 before.0 in (now.0, (now.1, before.1))

pub each_kept : (start : Start) (first : World) (past : List Happening) (last : World) (states : List World)
    → Legal start past
    → IsChain Moves first past last states → IsTold start past last × AtEachMoment (WhenKept start) past last states
each_kept start first past last states legal chain =
    each_told start first past last states (legal_safe start past legal) chain

-- those who lost their power in the trace are among all who did by now
among_all : (lost : List ℕ) (past : List Happening) (address : ℕ) → IsAmong (powered_of [] past) address
    → IsAmong (powered_of lost past) address
among_all lost [] address among = absurd among
among_all lost (Powered at ∷ past) address (inl is) = inl is
among_all lost (Powered at ∷ past) address (inr before) = inr (among_all lost past address before)
among_all lost (_ ∷ past) address among = among_all lost past address among

-- the world is fine if these units have lost their power by now
abbrev FineAt : World → List ℕ → Start → List Happening → World → Type 0
FineAt zero lost start past now = IsFine zero (records_of start past) (powered_of lost past) now

fine_step : (zero old new : World) (lost : List ℕ) (start : Start) (past : List Happening) (next : Happening)
    → IsSafe start past next → Moves old next new
    → IsTold start past old → FineAt zero lost start past old → FineAt zero lost start (next ∷ past) new
fine_step zero old new lost start past (Sent frame answer) safe carry told fine =
    after_sent zero old new told.since (records_of start past) (powered_of lost past) (sent_of past) frame answer
    told.sentence (run_among WorldStep (sent_of past) told.since old (among_all lost past) told.run) safe carry fine
fine_step zero old new lost start past (Kept entry) safe same told fine =
    let now : IsTold start past new = subst (IsTold start past) (sym same) told in
    let still : FineAt zero lost start past new = subst (FineAt zero lost start past) (sym same) fine in
    let so = rests_so new start past entry now safe in
    record {
      fits =
          keeps_fitting zero new (powered_of [] past) (powered_of lost past) (records_of start past) entry
          (standing_at start past) refl safe.0.1
          so still.fits;
      only = keeps_only (powered_of [] past) new (standing_at start past) entry safe.0.1 so still.only;
    }
fine_step zero old new lost start past (Powered address) safe loses told fine =
    after_loss zero old new (records_of start past) (powered_of lost past) address loses fine
fine_step zero old new lost start past _ safe same told fine =
    subst (FineAt zero lost start past) (sym same) fine

every_fine : (zero : World) (lost : List ℕ) (start : Start) (first : World) (past : List Happening) (last : World)
    (states : List World)
    → AllSafe start past → Along zero lost start first past last states
    → FineAt zero lost start past last × AtEachMoment (IsRight zero lost start) past last states
every_fine zero lost start first [] last [] safe along =
    let fine : IsFine zero start.records lost last = record {
      fits = subst (Fits zero start.records lost) (sym along.chain) along.fits;
      only = subst (OnlyNamed start.records) (sym along.chain) along.only;
    } in
    (fine, (fine.fits, fine.only, fits_applied zero start.records lost last fine.fits, tt))
every_fine zero lost start first [] last (state ∷ states) safe along = absurd along.chain
every_fine zero lost start first (next ∷ past) last [] safe along = absurd along.chain
every_fine zero lost start first (next ∷ past) last (state ∷ states) safe along =
    let before = every_fine zero lost start first past state states safe.0 (record {
      fits = along.fits;
      only = along.only;
      chain = along.chain.1;
    }) in
    let told = (each_told start first past state states safe.0 along.chain.1).0 in
    let now = fine_step zero state last lost start past next safe.1 along.chain.0 told before.0 in
    let true_now = (told_step state last start past next safe.1 along.chain.0 told).1 in (
      now,
      (
        (
          now.fits,
          now.only,
          fits_applied zero (records_of start (next ∷ past)) (powered_of lost (next ∷ past)) last now.fits,
          true_now,
        ),
        before.1,
      ),
    )

pub safe_right : (zero : World) (lost : List ℕ) (start : Start) (first : World) (past : List Happening) (last : World)
    (states : List World)
    → AllSafe start past → Along zero lost start first past last states
    → AtEachMoment (IsRight zero lost start) past last states
safe_right zero lost start first past last states safe along =
    (every_fine zero lost start first past last states safe along).1

pub every_moment : (zero : World) (lost : List ℕ) (start : Start) (first : World) (past : List Happening) (last : World)
    (states : List World)
    → Legal start past → Along zero lost start first past last states
    → AtEachMoment (IsRight zero lost start) past last states
every_moment zero lost start first past last states legal along =
    safe_right zero lost start first past last states (legal_safe start past legal) along

-- a part of what is so at each moment
pub part_of : (P Q : List Happening → World → Type 0)
    → ((moment : List Happening) (now : World) → P moment now → Q moment now)
    → (past : List Happening) (last : World) (states : List World) → AtEachMoment P past last states
    → AtEachMoment Q past last states
part_of P Q f [] last [] each = f [] last each
part_of P Q f [] last (state ∷ states) each = absurd each
part_of P Q f (next ∷ past) last [] each = absurd each
part_of P Q f (next ∷ past) last (state ∷ states) each =
    (f (next ∷ past) last each.0, part_of P Q f past state states each.1)

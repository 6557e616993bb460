-- A part of a planned trace from a moment of rest on is safe by itself: the plan reads and selects anew for each order.
use Rattle.std.proofs.Common.{◌≡◌, ◌⊎◌, inl, inr, refl, sym, ap, subst, ◌∙◌, ℕ, List, [], ◌∷◌, ◌++◌, append_assoc}
use Rattle.std.proofs.Common.{Bool, true, false, true≢false, ◌||◌, Option, Some, None, is_some}
use Rattle.dali_frame.specs.declared.forward.Frame.{Frame}
use Rattle.dali_frame.specs.declared.forward.Frame.TheVariants.{Write, Dtr0, AskDtr1}
use Rattle.dali_journal.specs.declared.record.Record.{Record}
use Rattle.dali_journal.specs.declared.record.Record.TheVariants.{Began, Closed}
use Rattle.dali_journal.specs.declared.standing.Standing.{Standing}
use Rattle.dali_journal.specs.declared.standing.Standing.TheVariants as standings
use Rattle.dali_journal.specs.Sentence.{Allows, standing_of, named_unit, IsSentence}
use Rattle.dali_write.specs.Exchanges.{Exchange}
use Rattle.dali_write.specs.declared.ask.Ask.TheVariants as asks
use Rattle.dali_write.specs.declared.ask.Verdict.{Verdict}
use Rattle.dali_write.specs.Findings.{Rests}
use Rattle.dali_write.specs.Reads.{StillRead}
use Rattle.dali_write.specs.Worlds.{Selects}
use Rattle.dali_write.proofs.GuardLemmas.{opened_guarded, closing_guarded}
use Rattle.dali_write.proofs.RestLemmas.{older_reads, rests_on_too, opened_rests, closing_rests}
use Rattle.dali_write.proofs.FreshRestLemmas.{fresh_rests}
use Rattle.dali_write.proofs.ShapeLemmas.{questioned, selected}
use Rattle.dali_trace.specs.declared.happening.Reply.{Reply}
use Rattle.dali_trace.specs.declared.happening.Reply.TheVariants as replies
use Rattle.dali_trace.specs.declared.happening.Happening.{Happening}
use Rattle.dali_trace.specs.declared.happening.Happening.TheVariants.{Asked, Answered, Sent, Kept, Stopped}
use Rattle.dali_trace.specs.Cut.{since, is_stop, is_turn, frames_in, kept_in}
use Rattle.dali_trace.proofs.CutLemmas.{since_sooner, frames_joined, frames_next}
use Rattle.dali_trace.specs.Trace.{pace_at, Start, records_of, standing_at, sent_of, waiting, waits_in, is_at_work, is_busy}
use Rattle.dali_trace.specs.Trace.{Outstanding, Quiet, Waiting, Working, JustEnded, outstanding_of, unsaid_in}
use Rattle.dali_trace.specs.Legal.{Legal, MayFollow, MaySend, MayKeep, IsDue}
use Rattle.dali_trace.specs.ByPlan.{ByPlan, IsPlanned, Asks, told_in}
use Rattle.dali_trace.specs.Grounds.{Grounds, IsSeen, RestsIfAny, verdict_of, EndsIn}
use Rattle.dali_laws.proofs.OnPlanLemmas.{waits_on}
use Rattle.dali_laws.proofs.RecordLemmas.{grounds_too}
use Rattle.dali_laws.proofs.RepeatLemmas.{legal_sentence}
use Rattle.dali_laws.proofs.SafeLemmas.{IsSafeFrame, IsSafe, AllSafe, safe_frame, safe_own, kept_own, sentence_own}
use Rattle.dali_laws.proofs.SafeLemmas.{may_send, may_keep}
use Rattle.dali_write.specs.declared.pace.Pace.{Pace}

-- The session at hand

-- nothing is asked for: nothing is at work and no unit left, or one is left and no order waits
abbrev IsUnasked : Start → List Happening → Type 0
IsUnasked start past =
    (standing_at start past ≡ standings.Idle)
    ⊎ ((left : ℕ) × (standing_at start past ≡ standings.Left left) × (waiting past ≡ None))

-- the exchanges of the session are those of the part, if the plan asks for anything
abbrev IsOfPart : Start → List Happening → List Happening → Type 0
IsOfPart start before part = (told_in (part ++ before) ≡ told_in part) ⊎ IsUnasked start (part ++ before)

told_next : (before : List Happening) (next : Happening) (part : List Happening)
    → told_in (part ++ before) ≡ told_in part → told_in (next ∷ part ++ before) ≡ told_in (next ∷ part)
told_next before next part same =
    frames_next (is_turn next) next (since is_turn (part ++ before)) (since is_turn part) same

-- an answer that takes no order leaves nothing to be said if nothing was
answered : (id : ℕ) (reply : Reply) (past : List Happening) → is_turn (Answered id reply) ≡ false
    → outstanding_of past ≡ Quiet → outstanding_of (Answered id reply ∷ past) ≡ Quiet
answered id replies.Taken past other quiet = let never : true ≡ false = other in cc
answered id reply (Asked order moment ∷ past) other quiet = quiet
answered id reply _ other quiet = refl

-- after a record, or from a moment at which nothing is to be said or waits and no order was taken since
told_part : (before part : List Happening)
    → (told_in (part ++ before) ≡ told_in part)
    ⊎ ((kept_in part ≡ []) × (outstanding_of before ≡ Quiet → outstanding_of (part ++ before) ≡ Quiet))
told_part before [] = inr (refl, λ quiet. quiet)
told_part before (Kept entry ∷ part) = inl refl
told_part before (Stopped pace ∷ part) = inl refl
told_part before (Answered id replies.Taken ∷ part) = inl refl
told_part before (Answered id reply ∷ part) = elim (told_part before part) [
  | inl same ↦ inl (told_next before (Answered id reply) part same)
  | inr none ↦ inr (none.0, λ quiet. answered id reply (part ++ before) refl (none.1 quiet))
]
told_part before (next ∷ part) = elim (told_part before part) [
  | inl same ↦ inl (told_next before next part same)
  | inr none ↦ inr none
]

-- its frames are the newest of those since the last stop
stop_turns : (next : Happening) → is_stop next ≡ true → is_turn next ≡ true
stop_turns (Stopped pace) is = refl
stop_turns _ is = let never : false ≡ true = is in cc

told_newest : (past : List Happening) → (older : List Exchange) × (sent_of past ≡ told_in past ++ older)
told_newest past =
    let part = since_sooner is_turn is_stop stop_turns past in
    (frames_in part.0, ap frames_in part.1 ∙ frames_joined (since is_turn past) part.0)

-- Frames

no_ask : (byte to : ℕ) → Dtr0 byte ≡ AskDtr1 to → ⊥
no_ask byte to e = cc

-- a place is made sure to be selected by the front of these exchanges, if all of them do so and the front does so for
-- some place
selects_front : (unit location other place : ℕ) (front back : List Exchange) → Selects unit location (front ++ back)
    → Selects other place front → Selects unit location front
selects_front unit location other place front back (newer, older, is, inl try) (first, behind, front_is, inl asks) =
    let one = questioned unit location newer try in
    let two = questioned other place first asks in
    let same : one.x2 ∷ one.x1 ∷ older ≡ two.x2 ∷ two.x1 ∷ (behind ++ back) =
    ap (λ (t : List Exchange). t ++ older) (sym one.is) ∙ sym is
    ∙ ap (λ (t : List Exchange). t ++ back) (front_is ∙ ap (λ (t : List Exchange). t ++ behind) two.is) in
    let both : one.x2 ∷ one.x1 ∷ [] ≡ two.x2 ∷ two.x1 ∷ [] = cc in (
      newer,
      behind,
      front_is ∙ ap (λ (t : List Exchange). t ++ behind) (two.is ∙ sym both ∙ sym one.is),
      inl try,
    )
selects_front unit location other place front back (newer, older, is, inl try) (first, behind, front_is, inr asks) =
    let one = questioned unit location newer try in
    let two = selected other place first asks in
    let same : one.x2 ∷ one.x1 ∷ older ≡ two.x4 ∷ two.x3 ∷ two.x2 ∷ two.x1 ∷ (behind ++ back) =
    ap (λ (t : List Exchange). t ++ older) (sym one.is) ∙ sym is
    ∙ ap (λ (t : List Exchange). t ++ back) (front_is ∙ ap (λ (t : List Exchange). t ++ behind) two.is) in
    let next : two.x3 ≡ one.x1 = cc in
    absurd (no_ask place unit
    (sym two.got3.frame_is ∙ (ap (λ (e : Exchange). e.frame) next ∙ one.got1.frame_is)))
selects_front unit location other place front back (newer, older, is, inr try) (first, behind, front_is, inr asks) =
    let one = selected unit location newer try in
    let two = selected other place first asks in
    let same : one.x4 ∷ one.x3 ∷ one.x2 ∷ one.x1 ∷ older ≡ two.x4 ∷ two.x3 ∷ two.x2 ∷ two.x1 ∷ (behind ++ back) =
    ap (λ (t : List Exchange). t ++ older) (sym one.is) ∙ sym is
    ∙ ap (λ (t : List Exchange). t ++ back) (front_is ∙ ap (λ (t : List Exchange). t ++ behind) two.is) in
    let all : one.x4 ∷ one.x3 ∷ one.x2 ∷ one.x1 ∷ [] ≡ two.x4 ∷ two.x3 ∷ two.x2 ∷ two.x1 ∷ [] = cc in (
      newer,
      behind,
      front_is ∙ ap (λ (t : List Exchange). t ++ behind) (two.is ∙ sym all ∙ sym one.is),
      inr try,
    )
selects_front unit location other place front back (newer, older, is, inr try) (first, behind, front_is, inl asks) =
    let one = selected unit location newer try in
    let two = questioned other place first asks in
    let same : one.x4 ∷ one.x3 ∷ one.x2 ∷ one.x1 ∷ older ≡ two.x2 ∷ two.x1 ∷ (behind ++ back) =
    ap (λ (t : List Exchange). t ++ older) (sym one.is) ∙ sym is
    ∙ ap (λ (t : List Exchange). t ++ back) (front_is ∙ ap (λ (t : List Exchange). t ++ behind) two.is) in
    let next : one.x3 ≡ two.x1 = cc in
    absurd (no_ask location other
    (sym one.got3.frame_is ∙ (ap (λ (e : Exchange). e.frame) next ∙ two.got1.frame_is)))

selects_older : (unit location : ℕ) (told older : List Exchange) → Selects unit location told
    → Selects unit location (told ++ older)
selects_older unit location told older s =
    (s.0, s.1 ++ older, ap (λ (t : List Exchange). t ++ older) s.2 ∙ append_assoc s.0 s.1 older, s.3)

-- the plan writes only where it made sure of a place
planned_selects : (pace : Pace) (stands : Standing) (told : List Exchange) (byte unit : ℕ)
    → named_unit stands ≡ Some unit
    → Asks pace stands told (asks.Send (Write byte)) → (other : ℕ) × (place : ℕ) × Selects other place told
planned_selects pace standings.Idle told byte unit named asked = absurd asked
planned_selects pace (standings.Began order) told byte unit named asked = cc
planned_selects pace (standings.Opened order) told byte unit named asked =
    let guarded = opened_guarded told order.unit pace order.updates (Write byte) asked in
    (order.unit, guarded.0, guarded.2)
planned_selects pace (standings.Left left) told byte unit named asked =
    let guarded = closing_guarded told left (Write byte) asked in (left, guarded.0, guarded.2)

-- so a frame of the plan is safe after those of the session at hand
planned_frame : (pace : Pace) (stands : Standing) (told back more : List Exchange) (frame : Frame)
    → IsSafeFrame (told ++ back) stands frame → Asks pace stands told (asks.Send frame)
    → IsSafeFrame (told ++ more) stands frame
planned_frame pace stands told back more (Write byte) safe asked =
    let sure = planned_selects pace stands told byte safe.unit safe.is_named asked in
    record {
      unit = safe.unit;
      location = safe.location;
      is_named = safe.is_named;
      may = safe.may;
      selected =
          selects_older safe.unit safe.location told more
          (selects_front safe.unit safe.location sure.0 sure.1 told back safe.selected sure.2);
    }
planned_frame pace stands told back more other safe asked = safe

part_frame : (start : Start) (before part : List Happening) (frame : Frame) → IsOfPart start before part
    → MaySend (part ++ before) (standing_at start (part ++ before)) frame
    → Asks (pace_at start (part ++ before)) (standing_at start (part ++ before)) (told_in (part ++ before))
    (asks.Send frame)
    → IsSafeFrame (sent_of part) (standing_at start (part ++ before)) frame
part_frame start before part frame of_part may asked = by of_part where
  whole : List Happening
  whole = part ++ before

  stands : Standing
  stands = standing_at start whole

  by : IsOfPart start before part → IsSafeFrame (sent_of part) stands frame
  by (inl told) =
      let all = told_newest whole in
      let own = told_newest part in
      let parts : sent_of whole ≡ told_in part ++ all.0 = all.1 ∙ ap (λ (t : List Exchange). t ++ all.0) told in
      subst (λ (t : List Exchange). IsSafeFrame t stands frame) (sym own.1)
      (planned_frame (pace_at start whole) stands (told_in part) all.0 own.0 frame
      (subst (λ (t : List Exchange). IsSafeFrame t stands frame) parts (safe_frame whole stands frame may))
      (subst (λ (t : List Exchange). Asks (pace_at start whole) stands t (asks.Send frame)) told asked))
  by (inr (inl idle)) =
      absurd (subst (λ (at : Standing). Asks (pace_at start whole) at (told_in whole) (asks.Send frame)) idle asked)
  by (inr (inr (left, at, none))) =
      let waits = waits_on whole left frame (subst (λ (st : Standing). MaySend whole st frame) at may) in
      let never : false ≡ true = sym (ap is_some none) ∙ waits in cc

-- Records

-- what a verdict rests on, a record that tells of it rests on
verdict_grounds : (shows : ℕ → ℕ → Type 0) (updates : List (ℕ × ℕ)) (verdict : Verdict) (entry : Record)
    → verdict_of entry ≡ Some verdict → Rests shows updates verdict → RestsIfAny shows updates (verdict_of entry)
verdict_grounds shows updates verdict entry is rests =
    subst (λ (told : Option Verdict). RestsIfAny shows updates told) (sym is)
    (rests_on_too shows shows ((byte : ℕ) × shows 2 byte) (IsSeen shows) updates verdict
    (λ location byte shown. shown) (λ lock. (2, lock.0, lock.1)) rests)

planned_grounds : (pace : Pace) (stands : Standing) (told : List Exchange) (verdict : Verdict) (entry : Record)
    → Asks pace stands told (asks.Ended verdict) → EndsIn stands verdict entry → Grounds (StillRead told) stands entry
planned_grounds pace standings.Idle told verdict entry asked ends = absurd asked
planned_grounds pace (standings.Began order) told verdict entry asked ends =
    verdict_grounds (StillRead told order.unit) order.updates verdict entry ends.1
    (fresh_rests told order.unit pace order.updates verdict asked)
planned_grounds pace (standings.Opened order) told verdict entry asked ends =
    verdict_grounds (StillRead told order.unit) order.updates verdict entry ends.1
    (opened_rests told order.unit pace order.updates verdict asked)
planned_grounds pace (standings.Left unit) told verdict entry asked ends =
    verdict_grounds (StillRead told unit) [] verdict entry ends.1 (closing_rests told unit verdict asked)

-- one that tells of no verdict rests on nothing
began_grounds : (shows : ℕ → ℕ → ℕ → Type 0) (stands : Standing) (entry : Record) → verdict_of entry ≡ None
    → Grounds shows stands entry
began_grounds shows standings.Idle entry none = tt
began_grounds shows (standings.Began order) entry none =
    subst (λ (told : Option Verdict). RestsIfAny (shows order.unit) order.updates told) (sym none) tt
began_grounds shows (standings.Opened order) entry none =
    subst (λ (told : Option Verdict). RestsIfAny (shows order.unit) order.updates told) (sym none) tt
began_grounds shows (standings.Left unit) entry none =
    subst (λ (told : Option Verdict). RestsIfAny (shows unit) [] told) (sym none) tt

-- a record of the plan rests on what the session at hand read
record_grounds : (start : Start) (past : List Happening) (entry : Record) → IsPlanned start past (Kept entry)
    → Grounds (StillRead (told_in past)) (standing_at start past) entry
record_grounds start past (Began order moment) planned =
    began_grounds (StillRead (told_in past)) (standing_at start past) (Began order moment) refl
record_grounds start past other planned =
    planned_grounds (pace_at start past) (standing_at start past) (told_in past) planned.0 other planned.1 planned.2

-- if nothing is asked for, only an order is begun
unasked_grounds : (shows : ℕ → ℕ → ℕ → Type 0) (start : Start) (past : List Happening) (entry : Record)
    → IsUnasked start past → Allows (standing_at start past) entry → IsDue past entry
    → Grounds shows (standing_at start past) entry
unasked_grounds shows start past entry (inl idle) allowed due =
    subst (λ (stands : Standing). Grounds shows stands entry) (sym idle) tt
unasked_grounds shows start past entry (inr (left, at, none)) allowed due =
    by entry (subst (λ (stands : Standing). Allows stands entry) at allowed) due
  where
    by : (entry : Record) → Allows (standings.Left left) entry → IsDue past entry
        → Grounds shows (standing_at start past) entry
    by (Closed unit) allowed due = let never : false ≡ true = sym (ap is_some none) ∙ due.0 in cc
    by _ allowed due = absurd allowed

part_grounds : (start : Start) (before part : List Happening) (entry : Record) → IsOfPart start before part
    → MayKeep start (part ++ before) entry → IsPlanned start (part ++ before) (Kept entry)
    → Grounds (StillRead (sent_of part)) (standing_at start (part ++ before)) entry
part_grounds start before part entry (inl told) may planned =
    let own = told_newest part in
    let stands = standing_at start (part ++ before) in
    let grounds = record_grounds start (part ++ before) entry planned in
    subst (λ (t : List Exchange). Grounds (StillRead t) stands entry) (sym own.1)
    (grounds_too (StillRead (told_in part)) (StillRead (told_in part ++ own.0))
    (λ unit location byte stood. older_reads (told_in part) own.0 unit location byte stood) stands entry
    (subst (λ (t : List Exchange). Grounds (StillRead t) stands entry) told grounds))
part_grounds start before part entry (inr unasked) may planned =
    unasked_grounds (StillRead (sent_of part)) start (part ++ before) entry unasked may.whole.0.1 may.due

-- The part

kept_joined : (start : Start) (before part : List Happening)
    → records_of start (part ++ before) ≡ kept_in part ++ records_of start before
kept_joined start before [] = refl
kept_joined start before (Kept entry ∷ part) = ap (◌∷◌ entry) (kept_joined start before part)
kept_joined start before (other ∷ part) = kept_joined start before part

quiet_when_free : (start : Start) (past : List Happening) → is_busy start past ≡ false → outstanding_of past ≡ Quiet
quiet_when_free start past free = by (is_at_work (standing_at start past)) (outstanding_of past) free where
  by : (works : Bool) (outstanding : Outstanding) → (works || unsaid_in outstanding) ≡ false → outstanding ≡ Quiet
  by false Quiet e = refl
  by false (Waiting order moment) e = absurd (true≢false e)
  by false Working e = absurd (true≢false e)
  by false JustEnded e = absurd (true≢false e)
  by true outstanding e = absurd (true≢false e)

busy_at_work : (start : Start) (past : List Happening) → is_at_work (standing_at start past) ≡ true
    → is_busy start past ≡ true
busy_at_work start past works = rw works refl

-- a part from a moment of rest on
module _ (start own : Start) (before : List Happening) (older : List Record)
    (newest : records_of start before ≡ own.records ++ older) (idle : standing_of older ≡ standings.Idle)
    (rests : (standing_at start before ≡ standings.Idle) ⊎ (is_busy start before ≡ false)) where
  records_part : (part : List Happening) → records_of start (part ++ before) ≡ records_of own part ++ older
  records_part part =
      kept_joined start before part ∙ ap (λ (records : List Record). kept_in part ++ records) newest
      ∙ sym (append_assoc (kept_in part) own.records older)

  none_kept : (part : List Happening) → kept_in part ≡ []
      → standing_at start (part ++ before) ≡ standing_at start before
  none_kept part none =
      ap standing_of (kept_joined start before part ∙ ap (λ (kept : List Record). kept ++ records_of start before) none)

  of_part : (part : List Happening) → IsOfPart start before part
  of_part part = by (told_part before part) rests where
    quiet : (stands : Standing) → standing_at start before ≡ stands → is_busy start before ≡ false
        → (kept_in part ≡ []) × (outstanding_of before ≡ Quiet → outstanding_of (part ++ before) ≡ Quiet)
        → IsUnasked start (part ++ before)
    quiet standings.Idle at free none = inl (none_kept part none.0 ∙ at)
    quiet (standings.Left left) at free none =
        inr (left, none_kept part none.0 ∙ at, ap waits_in (none.1 (quiet_when_free start before free)))
    quiet (standings.Began order) at free none =
        let never : true ≡ false = sym (busy_at_work start before (ap is_at_work at)) ∙ free in cc
    quiet (standings.Opened order) at free none =
        let never : true ≡ false = sym (busy_at_work start before (ap is_at_work at)) ∙ free in cc

    by : (told_in (part ++ before) ≡ told_in part)
        ⊎ ((kept_in part ≡ []) × (outstanding_of before ≡ Quiet → outstanding_of (part ++ before) ≡ Quiet))
        → (standing_at start before ≡ standings.Idle) ⊎ (is_busy start before ≡ false)
        → IsOfPart start before part
    by (inl told) rests = inl told
    by (inr none) (inl at) = inr (inl (none_kept part none.0 ∙ at))
    by (inr none) (inr free) = inr (quiet (standing_at start before) refl free none)

  next_part : (part : List Happening) (next : Happening) → MayFollow start (part ++ before) next
      → IsPlanned start (part ++ before) next → IsSafe own part next
  next_part part (Sent frame answer) may planned =
      let send = may_send start (part ++ before) frame answer may in
      let safe = part_frame start before part frame (of_part part) send planned in
      safe_own (sent_of part) (records_of own part) older frame idle
      (subst (λ (all : List Record). IsSafeFrame (sent_of part) (standing_of all) frame) (records_part part) safe)
  next_part part (Kept entry) may planned =
      let keep = may_keep start (part ++ before) entry may in
      let grounds = part_grounds start before part entry (of_part part) keep planned in
      kept_own (sent_of part) (records_of own part) older entry idle
      (subst (λ (all : List Record). IsSentence (entry ∷ all)) (records_part part) keep.whole.0)
      (subst (λ (all : List Record). Grounds (StillRead (sent_of part)) (standing_of all) entry) (records_part part)
      grounds)
  next_part part other may planned = tt

  pub part_safe : (part : List Happening) → Legal start (part ++ before) → ByPlan start (part ++ before)
      → AllSafe own part
  part_safe [] legal planned =
      sentence_own own.records older idle (subst IsSentence newest (legal_sentence start before legal).0)
  part_safe (next ∷ part) legal planned =
      (part_safe part legal.0 planned.0, next_part part next legal.1 planned.1)

-- A trace whose start is what another left, with nothing to be done: after that one the same may follow, and the plan
-- asks for the same, as from its own start. So a drive whose writer is handed on to another is one drive with it.
use Rattle.std.proofs.Common.{◌≡◌, ◌∙◌, refl, ap, subst, inl, inr, ◌⊎◌, ℕ, Bool, true, false, List, [], ◌∷◌, ◌++◌}
use Rattle.std.proofs.Common.{Option, Some, None, IsSome, if◌then◌else◌, append_assoc, sym, append-nil}
use Rattle.dali_frame.specs.declared.forward.Frame.{Frame}
use Rattle.dali_frame.specs.declared.forward.Frame.TheVariants.{Dtr0, Dtr1, Write, Enable, AskDtr0, AskDtr1, Read}
use Rattle.dali_bank.specs.Order.{Contents}
use Rattle.dali_journal.specs.declared.record.Record.{Record}
use Rattle.dali_journal.specs.declared.record.Record.TheVariants.{Began, Ended, Closed}
use Rattle.dali_journal.specs.declared.standing.Standing.{Standing}
use Rattle.dali_journal.specs.declared.standing.Standing.TheVariants as standings
use Rattle.dali_journal.specs.Sentence.{standing_of}
use Rattle.dali_write.specs.Exchanges.{Exchange}
use Rattle.dali_write.specs.Reads.{StillRead}
use Rattle.dali_write.specs.Worlds.{Selects}
use Rattle.dali_write.specs.declared.ask.Ask.{Ask}
use Rattle.dali_journal.proofs.AheadLemmas.{spelling_append}
use Rattle.dali_drive.proofs.SittingLemmas.{all_both}
use Rattle.dali_write.specs.declared.ask.Ask.TheVariants as asks
use Rattle.dali_write.proofs.RestLemmas.{older_reads}
use Rattle.dali_trace.specs.declared.happening.Reply.TheVariants as replies
use Rattle.dali_trace.specs.declared.happening.Happening.{Happening}
use Rattle.dali_trace.specs.declared.happening.Happening.TheVariants.{Asked, Answered, Sent, Kept, Stopped, Powered}
use Rattle.dali_trace.specs.Cut.{since, is_stop, frames_in, kept_in}
use Rattle.dali_trace.proofs.CutLemmas.{frames_joined}
use Rattle.dali_trace.specs.Trace.{Start, records_of, standing_at, sent_of, sent_since_taken, waiting, outstanding_of, pace_at}
use Rattle.dali_trace.specs.Trace.{is_at_work, is_unsaid, is_busy, Outstanding, Quiet, Waiting, Working, JustEnded, replied}
use Rattle.dali_trace.specs.Trace.{next_outstanding, unsaid_in}
use Rattle.dali_trace.specs.Legal.{Serves, MaySend, IsDue, HasNumber, MayHappen, Replies, MayFollow, Legal, IsFinished}
use Rattle.dali_trace.specs.ByPlan.{told_in, Asks, IsPlanned, ByPlan}
use Rattle.dali_laws.proofs.AgreeLemmas.{planned_too, may_follow, said_quiet}
use Rattle.dali_laws.proofs.OnPlanLemmas.{waits_on, closed_verdict}
use Rattle.dali_laws.proofs.SafeLemmas.{may_keep, may_send}
use Rattle.dali_laws.proofs.RecordLemmas.{grounds_too}
use Rattle.std.proofs.KnownBytes.{Appends-trans, Consumes-trans}
use Rattle.dali_journal.specs.declared.standing.Standing.TheVariants as standings
use Rattle.dali_trace.specs.Work.{AtEachPast}
use Rattle.dali_laws.proofs.TakenLemmas.{neither}
use Rattle.dali_engine.specs.declared.phase.Phase.{Phase}
use Rattle.dali_engine.specs.declared.phase.Phase.TheVariants.{Idle}
use Rattle.dali_engine.specs.WriterState.{WriterState, start_of, IsResumed, IsAtRest}
use Rattle.dali_engine.specs.Describes.{Describes}
use Rattle.dali_drive.specs.Lines.{link_line}
use Rattle.dali_drive.specs.Transcript.{Streams, Transcript, AreAnswers, sent_lines}
use Rattle.dali_drive.specs.Driven.{IsInTurn, KeepsRecords, IsDrive}
use Rattle.dali_drive.proofs.WorkLemmas.{in_order, both_said}
use Rattle.dali_write.specs.declared.pace.Pace.{Pace}

-- Looks back that reach the older trace

-- further back there are older happenings alone
since_behind : (ends : Happening → Bool) (past more : List Happening)
    → (older : List Happening) × (since ends (more ++ past) ≡ since ends more ++ older)
since_behind ends past [] = (since ends past, refl)
since_behind ends past (next ∷ more) = by (ends next) (since_behind ends past more) where
  by : (ended : Bool) → (older : List Happening) × (since ends (more ++ past) ≡ since ends more ++ older)
      → (older : List Happening) × ((if ended then [] else next ∷ since ends (more ++ past))
      ≡ (if ended then [] else next ∷ since ends more) ++ older)
  by true rest = ([], refl)
  by false rest = (rest.0, ap (λ (t : List Happening). next ∷ t) rest.1)

-- so there are as many frames, and then older ones
sent_behind : (past more : List Happening) → (older : List Exchange) × (sent_of (more ++ past) ≡ sent_of more ++ older)
sent_behind past more =
    let rest = since_behind is_stop past more in
    (frames_in rest.0, ap frames_in rest.1 ∙ frames_joined (since is_stop more) rest.0)

-- if an order waits, it was taken in the newer one
since_alike : (past more : List Happening) → IsSome (waiting more)
    → sent_since_taken (more ++ past) ≡ sent_since_taken more
since_alike past [] waits = cc
since_alike past (Answered id replies.Taken ∷ more) waits = refl
since_alike past (Answered id reply ∷ Asked order moment ∷ more) waits = since_alike past more waits
since_alike past (Answered id reply ∷ more) waits = cc
since_alike past (Sent frame answer ∷ more) waits =
    ap (◌∷◌ (record { frame = frame; answer = answer })) (since_alike past more waits)
since_alike past (Kept (Began order moment) ∷ more) waits = cc
since_alike past (Kept (Ended code) ∷ more) waits = cc
since_alike past (Stopped pace ∷ more) waits = refl
since_alike past (_ ∷ more) waits = since_alike past more waits

-- an order is at work, or one waits
abbrev IsAtHand : Start → List Happening → Type 0
IsAtHand start past = (is_at_work (standing_at start past) ≡ true) ⊎ IsSome (waiting past)

-- if one is at hand that wasn't at work at the start, it was begun or taken in the newer one
told_alike : (next : Start) (past more : List Happening) → is_at_work (standing_of next.records) ≡ false
    → IsAtHand next more → told_in (more ++ past) ≡ told_in more
told_alike next past [] idle (inl works) = cc
told_alike next past [] idle (inr waits) = cc
told_alike next past (Answered id replies.Taken ∷ more) idle at = refl
told_alike next past (Answered id reply ∷ Asked order moment ∷ more) idle at = told_alike next past more idle at
told_alike next past (Answered id reply ∷ more) idle (inl works) = told_alike next past more idle (inl works)
told_alike next past (Answered id reply ∷ more) idle (inr waits) = cc
told_alike next past (Sent frame answer ∷ more) idle at =
    ap (◌∷◌ (record { frame = frame; answer = answer })) (told_alike next past more idle at)
told_alike next past (Kept entry ∷ more) idle at = refl
told_alike next past (Stopped pace ∷ more) idle at = refl
told_alike next past (_ ∷ more) idle at = told_alike next past more idle at

-- The work at hand if something is done

at_hand : (pace : Pace) (past : List Happening) (stands : Standing) (told : List Exchange) (ask : Ask)
    → Asks pace stands told ask
    → ((unit : ℕ) → stands ≡ standings.Left unit → IsSome (waiting past))
    → (is_at_work stands ≡ true) ⊎ IsSome (waiting past)
at_hand pace past standings.Idle told ask asked waits = absurd asked
at_hand pace past (standings.Left unit) told ask asked waits = inr (waits unit refl)
at_hand pace past _ told ask asked waits = inl refl

-- an order that has a number waits
number_waits : (waits : Option Contents) (id : ℕ) → HasNumber id waits → IsSome waits
number_waits None id has = absurd has
number_waits (Some order) id has = refl

blocked_waits : (start : Start) (past : List Happening) (id unit : ℕ)
    → MayFollow start past (Answered id (replies.Blocked unit)) → IsSome (waiting past)
blocked_waits start (Asked order moment ∷ past) id unit may = absurd may.1
blocked_waits start past id unit may = number_waits (waiting past) id may.1

-- Whatever may follow the newer one may follow the whole

-- what a whole tells from its start, beside what its newer part tells from the second start: as much, and perhaps
-- older frames
record IsBehind (start next : Start) (whole more : List Happening) : Type 0 where
  pub limit : start.limit ≡ next.limit
  pub pace : pace_at start whole ≡ pace_at next more
  pub records : records_of start whole ≡ records_of next more
  pub outstanding : outstanding_of whole ≡ outstanding_of more
  pub older : List Exchange
  pub sent : sent_of whole ≡ sent_of more ++ older
  pub since : IsSome (waiting more) → sent_since_taken whole ≡ sent_since_taken more
  pub told : IsAtHand next more → told_in whole ≡ told_in more

module _ {start next : Start} {whole more : List Happening} (behind : IsBehind start next whole more) where
  serves_behind : (stands : Standing) (unit : ℕ) → Serves more stands unit → Serves whole stands unit
  serves_behind (standings.Left left) unit serves = rw behind.outstanding serves
  serves_behind _ unit serves = serves

  sends_behind : (stands : Standing) (frame : Frame) → MaySend more stands frame → MaySend whole stands frame
  sends_behind stands (Dtr0 byte) may = (may.0, serves_behind stands may.0 may.1)
  sends_behind stands (Dtr1 byte) may = (may.0, serves_behind stands may.0 may.1)
  sends_behind stands (AskDtr0 unit) may = serves_behind stands unit may
  sends_behind stands (AskDtr1 unit) may = serves_behind stands unit may
  sends_behind stands (Read unit) may = serves_behind stands unit may
  sends_behind stands (Enable unit) may = (serves_behind stands unit may.0, may.1)
  -- it was selected, whatever came before
  sends_behind stands (Write byte) g =
      let s = g.selected in
      let sent = behind.sent ∙ ap (λ (l : List Exchange). l ++ behind.older) s.2 ∙ append_assoc s.0 s.1 behind.older in
      let selected : Selects g.unit g.location (sent_of whole) = (s.0, s.1 ++ behind.older, sent, s.3) in
      let serves = serves_behind stands g.unit g.serves in search
  sends_behind stands other may = absurd may

  due_behind : (entry : Record) → IsDue more entry → IsDue whole entry
  due_behind (Began order moment) due = rw behind.outstanding due
  due_behind (Closed unit) due = rw (behind.outstanding, behind.since due.0) due
  due_behind other due = tt

  happens_behind : (newest : Happening) → MayHappen next more newest → MayHappen start whole newest
  happens_behind (Answered id (replies.Kept code)) may = rw (behind.outstanding, behind.records) may
  happens_behind (Answered id (replies.Blocked unit)) may =
      rw (behind.records, behind.outstanding, behind.since (number_waits (waiting more) id may.1)) may
  happens_behind (Answered id reply) may = absurd may
  happens_behind (Sent frame answer) may = rw behind.records (sends_behind (standing_at next more) frame may)
  -- a valid read is valid whatever came before
  happens_behind (Kept entry) may = record {
    whole = rw (behind.records, behind.limit) may.whole;
    due = due_behind entry may.due;
    grounds =
        rw (behind.records, behind.sent) (grounds_too (StillRead (sent_of more))
        (StillRead (sent_of more ++ behind.older)) (older_reads (sent_of more) behind.older)
        (standing_at next more) entry may.grounds);
  }
  happens_behind _ may = tt

  replies_behind : (order : Contents) (newest : Happening) → Replies next more order newest
      → Replies start whole order newest
  replies_behind order (Answered id reply) due = (due.0, rw (behind.records, behind.outstanding, behind.limit) due.1)
  replies_behind order _ due = absurd due

  planned_at_hand : (newest : Happening) → IsAtHand next more → IsPlanned next more newest
      → IsPlanned start whole newest
  planned_at_hand newest at planned = planned_too start next whole more newest behind.pace behind.records
      (behind.told at) planned

  planned_behind : (newest : Happening) → MayFollow next more newest → IsPlanned next more newest
      → IsPlanned start whole newest
  planned_behind (Sent frame answer) may planned =
      planned_at_hand (Sent frame answer)
      (at_hand (pace_at next more) more (standing_at next more) (told_in more) (asks.Send frame) planned
      (λ unit is. waits_on more unit frame (rw is at (may_send next more frame answer may)))) planned
  planned_behind (Kept (Began order moment)) may planned = tt
  planned_behind (Kept entry) may planned =
      planned_at_hand (Kept entry)
      (at_hand (pace_at next more) more (standing_at next more) (told_in more) (asks.Ended planned.0) planned.1
      (λ unit is.
      let closed = closed_verdict unit planned.0 entry (rw is at planned.2) in
      (subst (IsDue more) closed.1 (may_keep next more entry may).due).0)) planned
  planned_behind (Answered id (replies.Blocked unit)) may planned =
      planned_at_hand (Answered id (replies.Blocked unit)) (inr (blocked_waits next more id unit may)) planned
  planned_behind other may planned = tt

kept_both : (newer older : List Happening) → kept_in (newer ++ older) ≡ kept_in newer ++ kept_in older
kept_both [] older = refl
kept_both (Kept entry ∷ newer) older = ap (◌∷◌ entry) (kept_both newer older)
kept_both (_ ∷ newer) older = kept_both newer older

-- if all is said, nothing is still to be said
said_outstanding : (outstanding : Outstanding) → unsaid_in outstanding ≡ false → outstanding ≡ Quiet
said_outstanding Quiet said = refl
said_outstanding (Waiting order moment) said = cc
said_outstanding Working said = cc
said_outstanding JustEnded said = cc

-- after a drive, the trace from what it left has the same properties as the whole
module _ {start : Start} {orders : List (Contents × ℕ)} {first middle : Streams} {handed : WriterState}
    (one : IsDrive start orders first handed middle) where
  abbrev past : List Happening
  past = one.past

  abbrev next : Start
  next = start_of handed

  both_quiet : (is_at_work (standing_at start past) ≡ false) × (is_unsaid past ≡ false)
  both_quiet = neither (is_at_work (standing_at start past)) (is_unsaid past) one.quiet

  records_both : (more : List Happening) → records_of start (more ++ past) ≡ records_of next more
  records_both more = rw (kept_both more past, append_assoc, one.described.same) refl

  outstanding_both : (more : List Happening) → outstanding_of (more ++ past) ≡ outstanding_of more
  outstanding_both [] = said_outstanding (outstanding_of past) both_quiet.1
  outstanding_both (Answered id reply ∷ []) = sym (said_quiet id reply past one.described.finished)
  outstanding_both (Answered id reply ∷ Asked order moment ∷ more) =
      ap (replied order moment reply) (outstanding_both more)
  outstanding_both (newest ∷ more) =
      ap (λ (before : Outstanding). next_outstanding before newest) (outstanding_both more)

  pace_both : (more : List Happening) → pace_at start (more ++ past) ≡ pace_at next more
  pace_both [] = one.described.pace
  pace_both (Stopped pace ∷ more) = refl
  pace_both (_ ∷ more) = pace_both more

  is_behind : (more : List Happening) → IsBehind start next (more ++ past) more
  is_behind more = record {
    limit = one.described.limit;
    pace = pace_both more;
    records = records_both more;
    outstanding = outstanding_both more;
    older = (sent_behind past more).0;
    sent = (sent_behind past more).1;
    since = since_alike past more;
    told = told_alike next past more (rw (← one.described.same) both_quiet.0);
  }

  -- no reply is due to an order of the older trace
  follows_both : (more : List Happening) (newest : Happening) → MayFollow next more newest
      → MayFollow start (more ++ past) newest
  follows_both [] newest may =
      may_follow start past newest one.described.finished (happens_behind (is_behind []) newest may)
  follows_both (Asked order moment ∷ more) newest may = replies_behind (is_behind more) order newest may
  follows_both (last ∷ more) newest may = happens_behind (is_behind (last ∷ more)) newest may

  legal_both : (more : List Happening) → Legal next more → Legal start (more ++ past)
  legal_both [] after = one.driven.legal
  legal_both (newest ∷ more) after = (legal_both more after.0, follows_both more newest after.1)

  planned_both : (more : List Happening) → Legal next more → ByPlan next more → ByPlan start (more ++ past)
  planned_both [] legal after = one.driven.planned
  planned_both (newest ∷ more) legal after =
      (planned_both more legal.0 after.0, planned_behind (is_behind more) newest legal.1 after.1)

  busy_both : (more : List Happening) → is_busy start (more ++ past) ≡ is_busy next more
  busy_both more = rw (records_both more, outstanding_both more) refl

  in_turn_both : (more : List Happening) → AtEachPast (IsInTurn next) more → AtEachPast (IsInTurn start) (more ++ past)
  in_turn_both [] after = one.driven.in_turn
  in_turn_both (Asked order moment ∷ more) after = (busy_both more ∙ after.0, in_turn_both more after.1)
  in_turn_both (Stopped pace ∷ more) after = absurd after.0
  in_turn_both (Powered address ∷ more) after = absurd after.0
  in_turn_both (_ ∷ more) after = (tt, in_turn_both more after.1)

  finished_both : (more : List Happening) → IsFinished more → IsFinished (more ++ past)
  finished_both [] finished = one.described.finished
  finished_both (Asked order moment ∷ more) finished = finished
  finished_both (_ ∷ more) finished = tt

-- The text of both

sent_lines_both : (newer older : List Happening) → sent_lines (newer ++ older) ≡ sent_lines older ++ sent_lines newer
sent_lines_both [] older = sym (append-nil (sent_lines older))
sent_lines_both (Sent frame answer ∷ newer) older =
    ap (λ (text : List ℕ). text ++ link_line frame) (sent_lines_both newer older)
    ∙ append_assoc (sent_lines older) (sent_lines newer) (link_line frame)
sent_lines_both (_ ∷ newer) older = sent_lines_both newer older

answers_both : (newer older : List Happening) (heard told : List ℕ) → AreAnswers older heard → AreAnswers newer told
    → AreAnswers (newer ++ older) (heard ++ told)
answers_both [] older heard told lines more = rw more (rw (append-nil heard) lines)
answers_both (Sent frame answer ∷ newer) older heard told lines (before, last, rest, line, is) =
    let all = ap (λ (text : List ℕ). heard ++ text) is ∙ sym (append_assoc heard before last) in
    (heard ++ before, last, answers_both newer older heard before lines rest, line, all)
answers_both (_ ∷ newer) older heard told lines more = answers_both newer older heard told lines more

text_both : (newer older : List Happening) (first middle last : Streams) → Transcript older first middle
    → Transcript newer middle last → Transcript (newer ++ older) first last
text_both newer older first middle last one two = record {
  heard = one.heard ++ two.heard;
  lines = answers_both newer older one.heard two.heard one.lines two.lines;
  journal =
      rw (kept_both newer older, spelling_append (kept_in newer) (kept_in older))
      (Appends-trans _ _ _ _ _ one.journal two.journal);
  link = rw (sent_lines_both newer older) (Appends-trans _ _ _ _ _ one.link two.link);
  answers = Consumes-trans _ _ _ _ _ one.answers two.answers;
  out = both_said newer older first.out middle.out last.out one.out two.out;
}

-- The drive of both

-- a writer at rest with nothing to be done is idle
rests_idle : (pace : Pace) (stands : Standing) (phase : Phase) → is_at_work stands ≡ false → IsResumed pace stands phase
    → phase ≡ Idle
rests_idle pace (standings.Began order) phase idle resumed = cc
rests_idle pace (standings.Opened order) phase idle resumed = cc
rests_idle pace _ phase idle resumed = resumed

quiet_idle : (start : Start) (past : List Happening) (writer : WriterState) → Describes start past writer
    → is_busy start past ≡ false → IsAtRest writer → writer.phase ≡ Idle
quiet_idle start past writer described quiet (inl is) = is
quiet_idle start past writer described quiet (inr resumed) =
    rests_idle writer.pace (standing_of writer.journal.records) writer.phase
    (rw (← described.same) (neither (is_at_work (standing_at start past)) (is_unsaid past) quiet).0) resumed

pub one_drive : (start : Start) (orders more : List (Contents × ℕ)) (first middle last : Streams)
    (handed writer : WriterState)
    → IsDrive start orders first handed middle → IsDrive (start_of handed) more middle writer last
    → IsAtRest writer → IsDrive start (orders ++ more) first writer last
one_drive start orders more first middle last handed writer one two rests =
    let both : List Happening = two.past ++ one.past in
    let idle = quiet_idle (start_of handed) two.past writer two.described two.quiet rests in
    let legal = legal_both one two.past two.driven.legal in
    let planned = planned_both one two.past two.driven.legal two.driven.planned in
    let quiet : is_busy start both ≡ false = busy_both one two.past ∙ two.quiet in
    let said = neither (is_at_work (standing_at start both)) (is_unsaid both) quiet in
    let in_turn = in_turn_both one two.past two.driven.in_turn in
    let kept = all_both (kept_in two.past) (kept_in one.past) two.driven.in_range one.driven.in_range in
    let in_range : KeepsRecords both = rw (kept_both two.past one.past) kept in
    let text = text_both two.past one.past first middle last one.driven.text two.driven.text in
    record {
      past = both;
      driven = search;
      asked = rw (in_order two.past one.past, one.asked, two.asked) refl;
      quiet = quiet;
      described = record {
        legal = legal;
        finished = finished_both one two.past two.described.finished;
        same = records_both one two.past ∙ two.described.same;
        limit = one.described.limit ∙ two.described.limit;
        pace = pace_both one two.past ∙ two.described.pace;
        place = rw idle said.1;
      };
      follows = record { planned = planned; told = rw idle tt };
    }

-- Near the limits of the work: what a trace within them can't be.
use Rattle.std.proofs.Common.{◌≡◌, inl, inr, refl, sym, ap, subst, ◌∙◌, ℕ, zero, suc, ◌≤◌, true, List, [], ◌∷◌, ◌++◌}
use Rattle.std.specs.Prelude.{⊤}
use Rattle.std.proofs.Common.{append_assoc, length, Some, None, arith}
use Rattle.dali_frame.specs.declared.forward.Frame.TheVariants.{Enable}
use Rattle.dali_bank.specs.Order.{Contents}
use Rattle.dali_journal.specs.declared.record.Code.TheVariants as codes
use Rattle.dali_journal.specs.declared.record.Record.TheVariants.{Opened, Ended}
use Rattle.dali_journal.specs.declared.standing.Standing.{Standing}
use Rattle.dali_journal.specs.declared.standing.Standing.TheVariants as standings
use Rattle.dali_write.specs.Exchanges.{Exchange}
use Rattle.dali_write.specs.Plans.{Plan, unlock}
use Rattle.dali_write.specs.Reads.{IsPassive, EndsInRead, HasRead}
use Rattle.dali_write.specs.Tries.{Succeeds, Wants}
use Rattle.dali_write.specs.Doubts.{EndsUnlooked, HasFailed, FoundAnother}
use Rattle.dali_write.specs.Misses.{misses_in, IsLong}
use Rattle.dali_write.specs.declared.ask.Ask.{Ask}
use Rattle.dali_write.specs.declared.ask.Ask.TheVariants as asks
use Rattle.dali_write.specs.declared.ask.Verdict.TheVariants as verdicts
use Rattle.dali_write.proofs.MissLemmas.{failure_misses, failed_misses}
use Rattle.dali_write.proofs.DoubtLemmas.{failed_good}
use Rattle.dali_write.proofs.GiveUpLemmas.{failed_joined}
use Rattle.dali_write.proofs.TurnLemmas.{unlock_turn}
use Rattle.dali_write.proofs.DeterminedLemmas.{ask_is, frame_wanted}
use Rattle.dali_write.proofs.WorkedAccessLemmas.{found_doubts}
use Rattle.dali_trace.specs.declared.happening.Reply.TheVariants as replies
use Rattle.dali_trace.specs.declared.happening.Happening.{Happening}
use Rattle.dali_trace.specs.declared.happening.Happening.TheVariants.{Answered, Kept, Stopped}
use Rattle.dali_trace.specs.Trace.{pace_at, Start, sent_since_taken}
use Rattle.dali_trace.specs.Work.{stood_at, kept_since, frames_from, order_at_hand, FailsForGood, IsWithinLimit, IsSaidSo, IsWorked}
use Rattle.dali_trace.specs.Worked.{empty, left_open, first_order, second_order, taken, begun, opened, unlocked}
use Rattle.dali_trace.specs.Worked.{short_ended, ended, said, left_said, second_taken, unreached, taken_again}
use Rattle.dali_trace.specs.WorkedPlans.{first_frame, begun_anew, said_again, second_taken_behind, frames_more}
use Rattle.dali_trace.specs.WorkedPlans.{tries_more, reads_more, records_more, begun_said, opened_said, blocked_said}
use Rattle.dali_write.proofs.EndLemmas.{ends_reading}
use Rattle.dali_trace.proofs.RefusedLemmas.{none_read, has_none}
use Rattle.dali_write.specs.declared.pace.Pace.{Pace}
use Rattle.dali_write.specs.declared.pace.Pace.TheVariants.{Checked, Short as ShortPace}
use Rattle.dali_write.specs.Plans.{rows_of, read_backs, all_rows}
use Rattle.dali_write.specs.Requests.{block_requests, each_try, block}
use Rattle.dali_write.specs.Blocks.{IsBlockRead}
use Rattle.dali_write.proofs.BlockOneLemmas.{access_count}
use Rattle.dali_write.proofs.RowLemmas.{all_rows_some}
use Rattle.std.proofs.Common.{slice_get, get_or}

-- n frames were sent, and one record kept
frames_hand : (n : ℕ) → order_at_hand empty (frames_more n begun) ≡ Some first_order
frames_hand zero = refl
frames_hand (suc n) = frames_hand n

frames_length : (n : ℕ) → length (sent_since_taken (frames_more n begun)) ≡ n
frames_length zero = refl
frames_length (suc n) = ap suc (frames_length n)

frames_kept : (n : ℕ) → kept_since (frames_more n begun) ≡ 1
frames_kept zero = refl
frames_kept (suc n) = frames_kept n

pub frames_within : (n : ℕ) → IsWithinLimit empty (frames_more n begun) → n ≤ 1232
frames_within n within =
    let here = rw (frames_hand n) at within in
    let few = here.0 in
    let long = frames_length n in
    omega arith

pub frames_enough : (n : ℕ) → n ≤ 1232 → IsWithinLimit empty (frames_more n begun)
frames_enough n few =
    let long = frames_length n in
    let kept = frames_kept n in
    rw (frames_hand n) (omega arith, omega arith)

-- n records were kept, and no frame sent
records_hand : (n : ℕ) → order_at_hand empty (records_more n taken) ≡ Some first_order
records_hand zero = refl
records_hand (suc n) = refl

records_kept : (n : ℕ) → kept_since (records_more n taken) ≡ n
records_kept zero = refl
records_kept (suc n) = ap suc (records_kept n)

records_sent : (n : ℕ) → sent_since_taken (records_more n taken) ≡ []
records_sent zero = refl
records_sent (suc n) = records_sent n

pub records_within : (n : ℕ) → IsWithinLimit empty (records_more n taken) → n ≤ 4
records_within n within =
    let here = rw (records_hand n) at within in
    let few = here.1 in
    let kept = records_kept n in
    omega arith

pub records_enough : (n : ℕ) → n ≤ 4 → IsWithinLimit empty (records_more n taken)
records_enough n few =
    let none = ap (λ (told : List Exchange). length told) (records_sent n) in
    let kept = records_kept n in
    rw (records_hand n) (omega arith, omega arith)

-- Done after these frames, none of which asks for an answer
frames_met : (n : ℕ) → misses_in (sent_since_taken (frames_more n begun)) ≡ 0
frames_met zero = refl
frames_met (suc n) = let rest = frames_met n in omega arith

frames_stood : (n : ℕ) → stood_at empty (frames_more n begun) ≡ standings.Idle
frames_stood zero = refl
frames_stood (suc n) = frames_stood n

frames_done : (n : ℕ)
    → order_at_hand empty (Kept (Ended codes.Done) ∷ Kept (Opened 5) ∷ frames_more n begun) ≡ Some first_order
frames_done zero = refl
frames_done (suc n) = frames_done n

frames_pace : (n : ℕ) → pace_at empty (frames_more n begun) ≡ Checked
frames_pace zero = refl
frames_pace (suc n) = frames_pace n

pub done_after : (n : ℕ) → IsSaidSo empty (opened_said codes.Done (frames_more n begun)) → n ≡ 112
done_after n (order, number, hand, earned) =
    let both : Some first_order ≡ Some order = sym (frames_done n) ∙ hand in
    let same : order ≡ first_order = cc in
    let sent = sent_since_taken (frames_more n begun) in
    let long : IsLong (pace_at empty (frames_more n begun)) (read_backs order.updates)
    (frames_from (pace_at empty (frames_more n begun)) (stood_at empty (frames_more n begun)) order.updates) sent =
    earned in
    let idle : IsLong Checked (read_backs first_order.updates)
    (frames_from Checked standings.Idle first_order.updates) sent =
    rw (frames_pace n, frames_stood n, same) at long in
    let least = idle.0 in
    let most = idle.1 in
    let count = frames_length n in
    let met = frames_met n in
    omega arith

done_after_112 : IsSaidSo empty (opened_said codes.Done (frames_more 112 begun))
done_after_112 =
    let past = frames_more 112 begun in
    let long : IsLong Checked (read_backs first_order.updates) 112 (sent_since_taken past) =
    let count = frames_length 112 in (omega arith, omega arith) in (
      first_order,
      refl,
      frames_done 112,
      subst (λ (pace : Pace).
          IsLong pace (read_backs first_order.updates) (frames_from pace (stood_at empty past) first_order.updates)
          (sent_since_taken past))
          (sym (frames_pace 112))
          (subst (λ (stands : Standing).
          IsLong Checked (read_backs first_order.updates) (frames_from Checked stands first_order.updates)
          (sent_since_taken past))
          (sym (frames_stood 112)) long),
    )

pub done_so : (n : ℕ) → n ≡ 112 → IsSaidSo empty (opened_said codes.Done (frames_more n begun))
done_so n is = subst (λ (m : ℕ). IsSaidSo empty (opened_said codes.Done (frames_more m begun))) (sym is) done_after_112

-- It is the order at hand that is said, by its number.
pub not_said_so_of_another : IsSaidSo empty (Answered 2 (replies.Kept codes.Short) ∷ short_ended) → ⊥
not_said_so_of_another (order, number, hand, earned) =
    let both : Some first_order ≡ Some order = hand in
    let same : first_order ≡ order = cc in
    let one : ◌≡◌ {A = ℕ} 1 2 = ap (λ (o : Contents). o.id) same ∙ number in
    omega (arith, one)

pub not_said_so_again : IsSaidSo empty said_again → ⊥
not_said_so_again (order, number, hand, earned) = let never : None ≡ Some order = hand in cc

-- A reply for want of an answer comes after at least eight tries that missed.
tries_missed : (n : ℕ) → misses_in (sent_since_taken (tries_more n begun)) ≡ n
tries_missed zero = refl
tries_missed (suc n) = let rest = tries_missed n in omega arith

unlooked_misses : (pace : Pace) (unit : ℕ) (told : List Exchange) → EndsUnlooked pace unit told → 8 ≤ misses_in told
unlooked_misses Checked unit told (inl failed) = failure_misses unit _ told failed
unlooked_misses Checked unit told (inr (inl failed)) = failure_misses unit _ told failed
unlooked_misses Checked unit told (inr (inr failed)) = failure_misses unit _ told failed
unlooked_misses ShortPace unit told (inl failed) = failure_misses unit _ told failed
unlooked_misses ShortPace unit told (inr failed) = failure_misses unit _ told failed

pub silent_after : (n : ℕ) → IsSaidSo empty (begun_said codes.Silent (tries_more n begun)) → 8 ≤ n
silent_after n (order, number, hand, earned) =
    let many = unlooked_misses _ order.unit (sent_since_taken (tries_more n begun)) earned in
    let count = tries_missed n in omega arith

pub left_after : (n : ℕ) → IsSaidSo empty (opened_said codes.DoubtOpen (tries_more n begun)) → 8 ≤ n
left_after n (order, number, hand, earned) =
    let many = failure_misses order.unit _ (sent_since_taken (tries_more n begun)) earned in
    let count = tries_missed n in omega arith

waiting_missed : (n : ℕ) → misses_in (sent_since_taken (tries_more n second_taken)) ≡ n
waiting_missed zero = refl
waiting_missed (suc n) = let rest = waiting_missed n in omega arith

pub blocked_after : (n : ℕ) → IsSaidSo left_open (blocked_said (tries_more n second_taken)) → 8 ≤ n
blocked_after zero unread = let many = failure_misses 5 _ [] unread in omega arith
blocked_after (suc n) unread =
    let many = failure_misses 5 _ (sent_since_taken (tries_more (suc n) second_taken)) unread in
    let count = waiting_missed (suc n) in omega arith

-- a byte was found only if a checked read was answered
ends_has : (unit location byte : ℕ) (told : List Exchange) → EndsInRead unit location byte told → HasRead unit told
ends_has unit location byte [] reads = let is = (ends_reading unit location byte [] reads).is in cc
ends_has unit location byte (x ∷ told) reads = inl (location, byte, reads)

has_later : (unit : ℕ) (newer told : List Exchange) → HasRead unit told → HasRead unit (newer ++ told)
has_later unit [] told has = has
has_later unit (x ∷ newer) told has = inr (has_later unit newer told has)

has_earlier : (unit : ℕ) (newer older : List Exchange) → HasRead unit newer → HasRead unit (newer ++ older)
has_earlier unit [] older has = absurd has
has_earlier unit (x ∷ newer) older (inl (location, byte, (tried, rest, same, read))) =
    inl (
      location,
      byte,
      (tried, rest ++ older, ap (λ (t : List Exchange). t ++ older) same ∙ append_assoc tried rest older, read),
    )
has_earlier unit (x ∷ newer) older (inr has) = inr (has_earlier unit newer older has)

found_read : (unit most : ℕ) (plan : Plan) (updates : List (ℕ × ℕ)) (told : List Exchange)
    → FoundAnother unit plan (all_rows (rows_of most updates)) told → HasRead unit told
found_read unit most plan updates told found = by found.answered
  where
    first : (bytes : List ℕ) → 1 ≤ length bytes → slice_get bytes 0 ≡ Some (get_or bytes 0 0)
    first [] some = absurd (omega arith)
    first (byte ∷ bytes) some = refl

    by : Succeeds (each_try (block_requests unit (block found.location (length found.bytes)))) (Some found.found)
        found.read
        → HasRead unit told
    by done =
        let this = block found.location (length found.bytes) in
        let (tried, missed, misses, same, try, outcome, few, are) = done in
        let parts : found.read ++ found.older ≡ tried ++ (missed ++ found.older) =
        ap (λ (t : List Exchange). t ++ found.older) same ∙ append_assoc tried missed found.older in
        let some = all_rows_some most updates (found.location, found.bytes) found.is_expected in
        let count = access_count unit this found.found found.read (inl done) in
        let read : IsBlockRead unit this found.found tried = (try, let is = outcome in cc) in
        let here = ends_has unit found.location (get_or found.found 0 0) (found.read ++ found.older) (
          tried,
          missed ++ found.older,
          parts,
          record {
            block = this;
            bytes = found.found;
            read = read;
            index = 0;
            place = refl;
            there = first found.found (omega arith);
          },
        ) in
        subst (λ (t : List Exchange). HasRead unit t) (sym found.parts)
        (has_later unit found.newer (found.read ++ found.older) here)

tries_unread : (n : ℕ) → none_read (sent_since_taken (tries_more n begun)) ≡ true
tries_unread zero = refl
tries_unread (suc n) = tries_unread n

-- an access of the session failed
failed_at : (pace : Pace) (order : Contents) (sent : List Exchange) → FailsForGood pace order sent
    → HasFailed order.unit sent
failed_at pace order sent (told, older, parts, failed) =
    failed_joined order.unit sent told older parts
    (failed_good order.unit (unlock pace order.updates) told (unlock_turn pace order.updates) failed)

pub doubt_after : (n : ℕ) → IsSaidSo empty (opened_said codes.Doubt (tries_more n begun)) → 8 ≤ n
doubt_after n (order, number, hand, inl failed) =
    let many =
    failed_misses order.unit (sent_since_taken (tries_more n begun))
    (failed_at _ order (sent_since_taken (tries_more n begun)) failed) in
    let count = tries_missed n in omega arith
doubt_after n (order, number, hand, inr (told, older, parts, found)) =
    absurd (by (found_read order.unit _ _ (read_backs order.updates) told found))
  where
    by : HasRead order.unit told → ⊥
    by has =
        let sent = sent_since_taken (tries_more n begun) in
        let none : none_read (told ++ older) ≡ true =
        subst (λ (t : List Exchange). none_read t ≡ true) parts (tries_unread n) in
        has_none order.unit (told ++ older) none (has_earlier order.unit told older has)

-- nor if each read was answered
reads_met : (n : ℕ) → misses_in (sent_since_taken (reads_more n begun)) ≡ 0
reads_met zero = refl
reads_met (suc n) = let rest = reads_met n in omega arith

pub not_silent_after_reads : (n : ℕ) → IsSaidSo empty (begun_said codes.Silent (reads_more n begun)) → ⊥
not_silent_after_reads n (order, number, hand, earned) =
    let many = unlooked_misses _ order.unit (sent_since_taken (reads_more n begun)) earned in
    let count = reads_met n in omega arith

pub not_left_after_reads : (n : ℕ) → IsSaidSo empty (opened_said codes.DoubtOpen (reads_more n begun)) → ⊥
not_left_after_reads n (order, number, hand, earned) =
    let many = failure_misses order.unit _ (sent_since_taken (reads_more n begun)) earned in
    let count = reads_met n in omega arith

-- none of the frames enables a unit or writes
abbrev AllPassive : List Exchange → Type 0
AllPassive [] = ⊤
AllPassive (x ∷ told) = IsPassive x.frame × AllPassive told

reads_passive : (n : ℕ) → AllPassive (sent_since_taken (reads_more n begun))
reads_passive zero = tt
reads_passive (suc n) = (tt, (tt, (tt, (tt, (tt, (tt, (tt, reads_passive n)))))))

front_passive : (told older : List Exchange) → AllPassive (told ++ older) → AllPassive told
front_passive [] older passive = tt
front_passive (x ∷ told) older passive = (passive.0, front_passive told older passive.1)

-- an opened session begins with a frame that enables its unit
enables_first : (unit : ℕ) (pace : Pace) (updates : List (ℕ × ℕ)) (told : List Exchange) (ask : Ask)
    → Wants unit (unlock pace updates) told ask → AllPassive told → told ≡ []
enables_first unit pace updates [] ask wants passive = refl
enables_first unit pace updates (x ∷ []) ask wants passive =
    let first =
    ask_is unit (unlock pace updates) [] (asks.Send x.frame) (frame_wanted [] x unit (unlock pace updates) ask wants) in
    let enables : Enable unit ≡ x.frame = cc in
    absurd (subst IsPassive (sym enables) passive.0)
enables_first unit pace updates (x ∷ y ∷ told) ask wants passive =
    let none =
    enables_first unit pace updates (y ∷ told) (asks.Send x.frame)
    (frame_wanted (y ∷ told) x unit (unlock pace updates) ask wants) passive.1 in
    cc

pub not_doubt_after_reads : (n : ℕ) → IsSaidSo empty (opened_said codes.Doubt (reads_more n begun)) → ⊥
not_doubt_after_reads n (order, number, hand, inl failed) =
    let many =
    failed_misses order.unit (sent_since_taken (reads_more n begun))
    (failed_at _ order (sent_since_taken (reads_more n begun)) failed) in
    let count = reads_met n in omega arith
not_doubt_after_reads n (order, number, hand, inr (told, older, parts, found)) =
    let pace = pace_at empty (reads_more n begun) in
    let wants = found_doubts order.unit (unlock pace order.updates) _ told found in
    let none =
    enables_first order.unit pace order.updates told (asks.Ended verdicts.Doubt) wants
    (front_passive told older (subst AllPassive parts (reads_passive n))) in
    let doubt =
    ask_is order.unit (unlock pace order.updates) [] (asks.Ended verdicts.Doubt)
    (subst (λ (t : List Exchange). Wants order.unit (unlock pace order.updates) t (asks.Ended verdicts.Doubt)) none
    wants) in
    cc

-- the counts: the frames and records since an order was taken or the program stopped, and the standing of the records
-- then
pub frames_counted : length (sent_since_taken begun_anew) ≡ 1
frames_counted = refl

pub frames_counted_anew : sent_since_taken taken_again ≡ []
frames_counted_anew = refl

pub records_counted : kept_since opened ≡ 2
records_counted = refl

pub records_counted_from_a_stop : kept_since begun_anew ≡ 0
records_counted_from_a_stop = refl

pub records_counted_anew : kept_since (second_taken_behind left_said) ≡ 0
records_counted_anew = refl

pub stood_when_taken : stood_at empty first_frame ≡ standings.Idle
stood_when_taken = refl

pub stood_at_a_stop : stood_at empty begun_anew ≡ standings.Began first_order
stood_at_a_stop = refl

pub stood_left : stood_at empty (second_taken_behind left_said) ≡ standings.Left 5
stood_left = refl

-- the frames of the first order, from where it starts
pub frames_of_begun : frames_from Checked (standings.Began first_order) first_order.updates ≡ 112
frames_of_begun = refl

pub frames_of_opened : frames_from Checked (standings.Opened first_order) first_order.updates ≡ 105
frames_of_opened = refl

pub few_frames_of_begun : frames_from ShortPace (standings.Began first_order) first_order.updates ≡ 49
few_frames_of_begun = refl

pub few_frames_of_opened : frames_from ShortPace (standings.Opened first_order) first_order.updates ≡ 42
few_frames_of_opened = refl

-- the order at hand
pub waiting_at_hand : order_at_hand left_open unreached ≡ Some second_order
waiting_at_hand = refl

pub opened_at_hand : order_at_hand empty unlocked ≡ Some first_order
opened_at_hand = refl

pub ended_at_hand : order_at_hand empty ended ≡ Some first_order
ended_at_hand = refl

pub none_once_said : order_at_hand empty said ≡ None
none_once_said = refl

pub none_behind_a_stop : order_at_hand left_open (Stopped Checked ∷ second_taken) ≡ None
none_behind_a_stop = refl

-- what holds at each moment, held at those before
pub worked_before : (start : Start) (next : Happening) (past : List Happening) → IsWorked start (next ∷ past)
    → (IsWithinLimit start (next ∷ past) × IsSaidSo start (next ∷ past)) × IsWorked start past
worked_before start next past worked = worked

-- Happenings that may not come on the way of the worked traces.
use Rattle.std.proofs.Common.{◌≡◌, ◌⊎◌, inl, inr, refl, sym, ap, ◌∙◌, subst, ℕ, Bool, true, false, ◌&&◌, not, List, [], ◌∷◌}
use Rattle.std.proofs.Common.{Option, Some, None, arith}
use Rattle.std.specs.Prelude.{◌≢◌}
use Rattle.std.proofs.lemmas.Bool.{and_parts}
use Rattle.dali_frame.specs.declared.forward.Frame.{Frame}
use Rattle.dali_frame.specs.declared.forward.Frame.TheVariants.{Dtr0, Dtr1, Write, Enable, AskDtr0, AskDtr1, Read}
use Rattle.dali_bank.specs.Order.{update_at}
use Rattle.dali_journal.specs.declared.record.Code.TheVariants as codes
use Rattle.dali_journal.specs.declared.record.Record.TheVariants.{Began}
use Rattle.dali_journal.specs.declared.standing.Standing.TheVariants as standings
use Rattle.dali_write.specs.Exchanges.{Exchange}
use Rattle.dali_write.specs.Worlds.{Selects}
use Rattle.dali_write.specs.Reads.{EndsInRead, StillRead, HasRead}
use Rattle.dali_write.proofs.ShapeLemmas.{Got}
use Rattle.dali_write.specs.declared.request.Wish.TheVariants.{Nothing, Exactly}
use Rattle.dali_write.proofs.EndLemmas.{reads_by, ends_selecting, fourth_is, ends_reading, one_location}
use Rattle.dali_trace.specs.declared.happening.Reply.TheVariants as replies
use Rattle.dali_trace.specs.declared.happening.Happening.{Happening}
use Rattle.dali_trace.specs.declared.happening.Happening.TheVariants.{Answered, Sent, Powered}
use Rattle.dali_trace.specs.Trace.{sent_of, sent_since_taken, waiting, powered_of}
use Rattle.dali_trace.specs.Replies.{IsReply}
use Rattle.dali_trace.specs.Legal.{MayPut, MayKeep, Legal}
use Rattle.dali_trace.specs.Worked.{read_at, write_at, taken, said, second_taken, empty, left_open, first_order, locked, unguarded}
use Rattle.dali_trace.specs.Worked.{enabled_between, set_between, bank_not_asked, written_twice, another_byte, idle_frame, frame_to_another_unit}
use Rattle.dali_trace.specs.Worked.{enabled_before_opened, opened_unread, done_unread, done_with_the_lock_unread}
use Rattle.dali_trace.specs.Worked.{begun_twice, busy_at_once, reply_to_another, said_before_ended, begun_while_left}
use Rattle.dali_trace.specs.Worked.{closed_unread, blocked_after_a_read, left_unit_unlocked, begun_after_a_stop}
use Rattle.dali_trace.specs.Worked.{another_code_said, blocked_by_no_unit, silent_write, one_of_one, one_done_of_one}
use Rattle.dali_trace.specs.Worked.{second_order, another_number_said, blocked_under_another_number}
use Rattle.dali_trace.specs.Worked.{frame_to_another_unit_once_opened, frame_past_the_left_unit, another_lock_byte}
use Rattle.dali_trace.specs.Worked.{opened_after_a_stop, written_after_a_stop, said_after_a_stop, closed_by_an_old_read}
use Rattle.dali_trace.specs.Worked.{asked, begun, said, select_at, short_after_six_frames, silent_once_opened}
use Rattle.dali_write.specs.declared.pace.Pace.TheVariants.{Checked}

-- the newest exchange and the third newest of those that select
newest_is : (unit location : ℕ) (x : Exchange) (told : List Exchange) → Selects unit location (x ∷ told)
    → (x.frame ≡ AskDtr0 unit) × (x.answer ≡ Some location)
newest_is unit location x told selects =
    let ends = ends_selecting unit location (x ∷ told) selects in
    let is = ends.is in
    let same : x ≡ ends.x = cc in
    (ap (λ (e : Exchange). e.frame) same ∙ ends.got.frame_is, ap (λ (e : Exchange). e.answer) same ∙ ends.got.meets)

-- the next one asks DTR1, or it sets DTR0 and the one after it in the list asks
next_is : (unit location : ℕ) (x y z : Exchange) (told : List Exchange) → Selects unit location (x ∷ y ∷ z ∷ told)
    → (y.frame ≡ AskDtr1 unit) ⊎ ((y.frame ≡ Dtr0 location) × (z.frame ≡ AskDtr1 unit))
next_is unit location x y z told selects =
    let ends = ends_selecting unit location (x ∷ y ∷ z ∷ told) selects in
    by ends.next ends.older ends.is ends.asks
  where
    by : {first : Exchange} (next : Exchange) (older : List Exchange) → x ∷ y ∷ z ∷ told ≡ first ∷ next ∷ older
        → Got next (AskDtr1 unit) (Exactly 1)
        ⊎ (Got next (Dtr0 location) Nothing × ((third fourth : Exchange) × (before : List Exchange)
        × (older ≡ third ∷ fourth ∷ before) × Got third (AskDtr1 unit) (Exactly 1) × Got fourth (Dtr1 1) Nothing))
        → (y.frame ≡ AskDtr1 unit) ⊎ ((y.frame ≡ Dtr0 location) × (z.frame ≡ AskDtr1 unit))
    by next older is (inl asks) =
        let same : y ≡ next = cc in inl (ap (λ (e : Exchange). e.frame) same ∙ asks.frame_is)
    by next older is (inr (sets, (third, fourth, before, older_is, asks, first))) =
        let same : y ≡ next = cc in
        let behind : z ≡ third = cc in
        inr (
          ap (λ (e : Exchange). e.frame) same ∙ sets.frame_is,
          ap (λ (e : Exchange). e.frame) behind ∙ asks.frame_is,
        )

-- the two newest frames of a checked read, and the answer before its read
read_is : (unit location byte : ℕ) (x y : Exchange) (told : List Exchange)
    → EndsInRead unit location byte (x ∷ y ∷ told) → (x.frame ≡ AskDtr1 unit) × (y.frame ≡ AskDtr0 unit)
read_is unit location byte x y told reads =
    let ends = ends_reading unit location byte (x ∷ y ∷ told) reads in
    let is = ends.is in
    let newest : x ≡ ends.x7 = cc in
    let next : y ≡ ends.x6 = cc in (
      ap (λ (e : Exchange). e.frame) newest ∙ ends.got7.frame_is,
      ap (λ (e : Exchange). e.frame) next ∙ ends.ask6,
    )

told_is : (unit location byte to : ℕ) (x7 x6 x5 x4 : Exchange) (told : List Exchange) → x4.frame ≡ AskDtr0 to
    → EndsInRead unit location byte (x7 ∷ x6 ∷ x5 ∷ x4 ∷ told) → x4.answer ≡ Some location
told_is unit location byte to x7 x6 x5 x4 told asks reads =
    (one_location unit location byte x7 x6 x5 x4 told to asks reads).meets

newest_ends : (unit location byte : ℕ) (x : Exchange) (told : List Exchange) → EndsInRead unit location byte (x ∷ told)
    → x.frame ≡ AskDtr1 unit
newest_ends unit location byte x told reads =
    let ends = ends_reading unit location byte (x ∷ told) reads in
    let is = ends.is in
    let newest : x ≡ ends.x7 = cc in
    ap (λ (e : Exchange). e.frame) newest ∙ ends.got7.frame_is

-- no two of these frames are one
write_or_ask : (byte unit : ℕ) → Write byte ≡ AskDtr0 unit → ⊥
write_or_ask byte unit e = cc

enable_or_ask : (to unit : ℕ) → Enable to ≡ AskDtr0 unit → ⊥
enable_or_ask to unit e = cc

enable_or_bank : (to unit : ℕ) → Enable to ≡ AskDtr1 unit → ⊥
enable_or_bank to unit e = cc

set_or_ask : (byte unit : ℕ) → Dtr1 byte ≡ AskDtr1 unit → ⊥
set_or_ask byte unit e = cc

set_or_bank : (byte unit : ℕ) → Dtr0 byte ≡ AskDtr1 unit → ⊥
set_or_bank byte unit e = cc

write_or_end : (byte unit : ℕ) → Write byte ≡ AskDtr1 unit → ⊥
write_or_end byte unit e = cc

set_or_next : (byte unit : ℕ) → Dtr1 byte ≡ AskDtr0 unit → ⊥
set_or_next byte unit e = cc

-- after a write no read still holds
none_stands : (told : List Exchange) (byte : ℕ) (answer : Option ℕ) (unit location found : ℕ)
    → StillRead (record { frame = Write byte; answer = answer } ∷ told) unit location found → ⊥
none_stands told byte answer unit location found (inl reads) =
    write_or_end byte unit (newest_ends unit location found _ told reads)
none_stands told byte answer unit location found (inr stands) = stands.0

-- the frame asks for DTR1
abbrev may_end : Frame → Bool
may_end (AskDtr1 unit) = true
may_end _ = false

-- no other frame ends a checked read
ends_none : (unit location byte : ℕ) (x : Exchange) (told : List Exchange) → may_end x.frame ≡ false
    → EndsInRead unit location byte (x ∷ told) → ⊥
ends_none unit location byte x told is_not reads =
    let is : may_end x.frame ≡ true = ap may_end (newest_ends unit location byte x told reads) in cc

-- a read of another location shows nothing of this one
not_behind : (past : List Happening) (unit location byte other place found : ℕ) → place ≢ location
    → StillRead (sent_of (read_at other place found past)) unit location byte
    → StillRead (sent_of past) unit location byte
not_behind past unit location byte other place found differs (inl reads) =
    let told : Some place ≡ Some location = told_is unit location byte other _ _ _ _ _ refl reads in
    absurd (differs (let same : place ≡ location = cc in same))
not_behind past unit location byte other place found differs (inr (t7, inl reads)) =
    absurd (ends_none unit location byte _ _ refl reads)
not_behind past unit location byte other place found differs (inr (t7, inr (t6, inl reads))) =
    absurd (ends_none unit location byte _ _ refl reads)
not_behind past unit location byte other place found differs (inr (t7, inr (t6, inr (t5, inl reads)))) =
    absurd (ends_none unit location byte _ _ refl reads)
not_behind past unit location byte other place found differs (inr (t7, inr (t6, inr (t5, inr (t4, inl reads))))) =
    absurd (ends_none unit location byte _ _ refl reads)
not_behind past unit location byte other place found differs
    (inr (t7, inr (t6, inr (t5, inr (t4, inr (t3, inl reads)))))) =
    absurd (set_or_next 1 unit (read_is unit location byte _ _ _ reads).1)
not_behind past unit location byte other place found differs
    (inr (t7, inr (t6, inr (t5, inr (t4, inr (t3, inr (t2, inl reads))))))) =
    absurd (ends_none unit location byte _ _ refl reads)
not_behind past unit location byte other place found differs
    (inr (t7, inr (t6, inr (t5, inr (t4, inr (t3, inr (t2, inr (t1, stands)))))))) =
    stands

abbrev pub is_read : Frame → Bool
is_read (Read unit) = true
is_read _ = false

-- where no read was sent, none was answered
abbrev pub none_read : List Exchange → Bool
none_read [] = true
none_read (x ∷ told) = not (is_read x.frame) && none_read told

reads_one : (unit location byte : ℕ) (told : List Exchange) → EndsInRead unit location byte told
    → none_read told ≡ false
reads_one unit location byte told reads =
    let ends = ends_reading unit location byte told reads in
    subst (λ (t : List Exchange). none_read t ≡ false) (sym ends.is)
    (rw (ends.got7.frame_is, ends.ask6, ends.read5) refl)

pub has_none : (unit : ℕ) (told : List Exchange) → none_read told ≡ true → HasRead unit told → ⊥
has_none unit [] none has = has
has_none unit (x ∷ told) none (inl reads) =
    let one = reads_one unit reads.0 reads.1 (x ∷ told) reads.2 in cc
has_none unit (x ∷ told) none (inr has) =
    has_none unit told (and_parts (not (is_read x.frame)) (none_read told) none).1 has

-- what may not happen

pub not_unguarded : Legal empty unguarded → ⊥
not_unguarded legal = enable_or_ask 5 legal.1.unit (newest_is legal.1.unit legal.1.location _ _ legal.1.selected).0

pub not_with_the_bank_not_asked : Legal empty bank_not_asked → ⊥
not_with_the_bank_not_asked legal = elim (next_is legal.1.unit legal.1.location _ _ _ _ legal.1.selected) [
  | inl asks ↦ cc
  | inr sets ↦ set_or_ask 1 legal.1.unit sets.1
]

pub not_enabled_between : Legal empty enabled_between → ⊥
not_enabled_between legal = elim (next_is legal.1.unit legal.1.location _ _ _ _ legal.1.selected) [
  | inl asks ↦ enable_or_bank 5 legal.1.unit asks
  | inr sets ↦ cc
]

pub not_set_between : Legal empty set_between → ⊥
not_set_between legal = elim (fourth_is legal.1.unit legal.1.location _ _ _ _ _ legal.1.selected) [
  | inl asks ↦ set_or_bank 5 legal.1.unit asks
  | inr sets ↦ cc
]

pub not_written_twice : Legal empty written_twice → ⊥
not_written_twice legal =
    write_or_ask 0x55 legal.1.unit (newest_is legal.1.unit legal.1.location _ _ legal.1.selected).0

pub not_another_byte : Legal empty another_byte → ⊥
not_another_byte legal =
    by legal.1.location (newest_is legal.1.unit legal.1.location _ _ legal.1.selected).1 legal.1.may where
      by : (location : ℕ) → Some 3 ≡ Some location → MayPut (standings.Opened first_order) location 0x04 → ⊥
      by location told (inl update) =
          let is : 3 ≡ location = cc in
          let there : update_at first_order.updates 3 ≡ Some 0x04 =
          subst (λ l. update_at first_order.updates l ≡ Some 0x04) (sym is) update in
          cc
      by location told (inr lock) = let is : 3 ≡ location = cc in let two = lock.0 in omega (arith, is, two)

pub not_idle_frame : Legal empty idle_frame → ⊥
not_idle_frame legal = legal.1.1

pub not_to_another_unit : Legal empty frame_to_another_unit → ⊥
not_to_another_unit legal = let e = legal.1 in omega (arith, e)

pub not_enabled_before_opened : Legal empty enabled_before_opened → ⊥
not_enabled_before_opened legal = let e = legal.1.1 in cc

pub not_opened_unread : Legal empty opened_unread → ⊥
not_opened_unread legal = legal.1.grounds.1

-- six frames of a read tell nothing
six_none : (byte : ℕ) → StillRead (sent_of (Sent (AskDtr0 5) (Some 0x01) ∷ Sent (Read 5) (Some 0x02)
    ∷ select_at 5 0x00 begun)) 5 0x00 byte → ⊥
six_none byte (inl reads) = ends_none 5 0x00 byte _ _ refl reads
six_none byte (inr (t6, inl reads)) = ends_none 5 0x00 byte _ _ refl reads
six_none byte (inr (t6, inr (t5, inl reads))) = ends_none 5 0x00 byte _ _ refl reads
six_none byte (inr (t6, inr (t5, inr (t4, inl reads)))) = ends_none 5 0x00 byte _ _ refl reads
six_none byte (inr (t6, inr (t5, inr (t4, inr (t3, inl reads))))) =
    set_or_next 1 5 (read_is 5 0x00 byte _ _ _ reads).1
six_none byte (inr (t6, inr (t5, inr (t4, inr (t3, inr (t2, inl reads)))))) = ends_none 5 0x00 byte _ _ refl reads
six_none byte (inr (t6, inr (t5, inr (t4, inr (t3, inr (t2, inr (t1, none))))))) = none

pub not_short_after_six_frames : Legal empty short_after_six_frames → ⊥
not_short_after_six_frames legal = let grounds = legal.1.grounds in six_none grounds.0 grounds.1

pub not_done_unread : Legal empty done_unread → ⊥
not_done_unread legal = none_stands _ 0xFF (Some 0xFF) 5 0x02 0xFF legal.1.grounds.0

pub not_with_the_lock_unread : Legal empty done_with_the_lock_unread → ⊥
not_with_the_lock_unread legal = legal_none where
  p3 : List Happening
  p3 = read_at 5 3 0x03 locked

  p4 : List Happening
  p4 = read_at 5 4 0xA4 p3

  p5 : List Happening
  p5 = read_at 5 5 0xCE p4

  p6 : List Happening
  p6 = read_at 5 6 0xEF p5

  p7 : List Happening
  p7 = read_at 5 7 0xAD p6

  legal_none : ⊥
  legal_none =
      none_stands _ 0xFF (Some 0xFF) 5 0x02 0xFF
      (not_behind locked 5 2 0xFF 5 3 0x03 (λ e. omega (arith, e))
      (not_behind p3 5 2 0xFF 5 4 0xA4 (λ e. omega (arith, e))
      (not_behind p4 5 2 0xFF 5 5 0xCE (λ e. omega (arith, e))
      (not_behind p5 5 2 0xFF 5 6 0xEF (λ e. omega (arith, e))
      (not_behind p6 5 2 0xFF 5 7 0xAD (λ e. omega (arith, e))
      (not_behind p7 5 2 0xFF 5 8 0xAB (λ e. omega (arith, e)) legal.1.grounds.0))))))

pub not_begun_twice : Legal empty begun_twice → ⊥
not_begun_twice legal = let e = legal.1.whole.0.2 in cc

pub not_busy_at_once : Legal empty busy_at_once → ⊥
not_busy_at_once legal = let e = legal.1.1.1 in cc

pub not_to_another_number : Legal empty reply_to_another → ⊥
not_to_another_number legal = let e = legal.1.0 in omega (arith, e)

-- no loss of power comes between an order and its reply
pub not_powered_before_the_reply : Legal empty (Powered 5 ∷ asked) → ⊥
not_powered_before_the_reply legal = legal.1

-- all that have lost their power by now, the newest first
pub all_powered : powered_of (7 ∷ []) (Powered 5 ∷ Sent (Dtr1 1) None ∷ Powered 6 ∷ []) ≡ 5 ∷ 6 ∷ 7 ∷ []
all_powered = refl

pub not_said_before_ended : Legal empty said_before_ended → ⊥
not_said_before_ended legal = let e = legal.1.0 in cc

pub not_begun_while_left : Legal left_open begun_while_left → ⊥
not_begun_while_left legal = legal.1.whole.0.1

pub not_closed_unread : Legal left_open closed_unread → ⊥
not_closed_unread legal = has_none 5 (sent_since_taken (write_at 5 0x02 0xFF second_taken)) refl legal.1.due.1

pub not_blocked_after_a_read : Legal left_open blocked_after_a_read → ⊥
not_blocked_after_a_read legal = legal.1.2 (inl (0x02, 0xFF, reads_by 5 0x02 0xFF None None []))

pub not_unlocked : Legal left_open left_unit_unlocked → ⊥
not_unlocked legal = let e = legal.1.may.1 in omega (arith, e)

pub not_begun_after_a_stop : Legal empty begun_after_a_stop → ⊥
not_begun_after_a_stop legal = let e = legal.1.due in cc

pub not_another_code : Legal empty another_code_said → ⊥
not_another_code legal = let e = legal.1.1.1 in cc

pub not_blocked_by_no_unit : Legal empty blocked_by_no_unit → ⊥
not_blocked_by_no_unit legal = let e = legal.1.0 in cc

pub not_silent : Legal empty silent_write → ⊥
not_silent legal = legal.1

pub not_taken_when_full : Legal one_of_one second_taken → ⊥
not_taken_when_full legal = let e = legal.1.1.2 in cc

pub not_another_number : Legal empty another_number_said → ⊥
not_another_number legal = let e = legal.1.1.0 in omega (arith, e)

pub not_blocked_under_another_number : Legal left_open blocked_under_another_number → ⊥
not_blocked_under_another_number legal = let e = legal.1.1 in omega (arith, e)

pub not_to_another_unit_once_opened : Legal empty frame_to_another_unit_once_opened → ⊥
not_to_another_unit_once_opened legal = let e = legal.1 in omega (arith, e)

pub not_past_the_left_unit : Legal left_open frame_past_the_left_unit → ⊥
not_past_the_left_unit legal = let e = legal.1.0 in omega (arith, e)

pub not_another_lock_byte : Legal empty another_lock_byte → ⊥
not_another_lock_byte legal =
    by legal.1.location (newest_is legal.1.unit legal.1.location _ _ legal.1.selected).1 legal.1.may where
      by : (location : ℕ) → Some 2 ≡ Some location → MayPut (standings.Opened first_order) location 0xAA → ⊥
      by location told (inl update) =
          let is : 2 ≡ location = cc in
          let there : update_at first_order.updates 2 ≡ Some 0xAA =
          subst (λ l. update_at first_order.updates l ≡ Some 0xAA) (sym is) update in
          cc
      by location told (inr (lock, inl opens)) = omega (arith, opens)
      by location told (inr (lock, inr closes)) = omega (arith, closes)

pub not_opened_after_a_stop : Legal empty opened_after_a_stop → ⊥
not_opened_after_a_stop legal = legal.1.grounds.1

-- an order that was opened ends as no fresh one, also after a stop
pub not_silent_once_opened : Legal empty silent_once_opened → ⊥
not_silent_once_opened legal = legal.1.whole.0.1

-- nothing is selected if no frame was sent
none_selected : (unit location : ℕ) → Selects unit location [] → ⊥
none_selected unit location selects = let is = (ends_selecting unit location [] selects).is in cc

pub not_written_after_a_stop : Legal empty written_after_a_stop → ⊥
not_written_after_a_stop legal = none_selected legal.1.unit legal.1.location legal.1.selected

pub not_said_after_a_stop : Legal empty said_after_a_stop → ⊥
not_said_after_a_stop legal = let e = legal.1.0 in cc

pub not_closed_by_an_old_read : Legal empty closed_by_an_old_read → ⊥
not_closed_by_an_old_read legal = legal.1.due.1

-- the rules of a left unit, and the limit

pub not_elsewhere_in_a_left_unit : Legal left_open (write_at 5 0x03 0xFF second_taken) → ⊥
not_elsewhere_in_a_left_unit legal =
    by legal.1.location (newest_is legal.1.unit legal.1.location _ _ legal.1.selected).1 legal.1.may where
      by : (location : ℕ) → Some 3 ≡ Some location → MayPut (standings.Left 5) location 0xFF → ⊥
      by location told may = let is : 3 ≡ location = cc in let two = may.0 in omega (arith, is, two)

pub not_with_none_waiting : Legal left_open (Sent (Dtr1 1) None ∷ []) → ⊥
not_with_none_waiting legal = let e = legal.1.1.1 in cc

pub not_begun_past_the_limit : MayKeep one_done_of_one second_taken (Began second_order 9) → ⊥
not_begun_past_the_limit may = omega (arith, may.whole.1)

pub not_started_past_the_limit : Legal (record { records = Began first_order 7 ∷ []; limit = 0; pace = Checked }) [] → ⊥
not_started_past_the_limit legal = omega (arith, legal.1)

-- moments, and that an order waits

pub not_begun_with_none_waiting : MayKeep empty [] (Began first_order 0) → ⊥
not_begun_with_none_waiting may = let e = may.due.0 in cc

pub not_begun_at_another_moment : MayKeep empty taken (Began first_order 8) → ⊥
not_begun_at_another_moment may = omega (arith, may.due.1)

pub not_reused_by_its_moment : IsReply empty said first_order replies.IdReused → ⊥
not_reused_by_its_moment reply = reply refl

-- what is still to be said

pub none_waits_once_begun : waiting begun ≡ None
none_waits_once_begun = refl

pub not_said_twice : Legal empty (Answered 1 (replies.Kept codes.Done) ∷ said) → ⊥
not_said_twice legal = let e = legal.1.0 in cc

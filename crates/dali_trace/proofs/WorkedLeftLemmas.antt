-- The worked trace of an order that finds another unit left open is legal.
use Rattle.std.proofs.Common.{◌≡◌, inl, refl, List, ◌∷◌, Some, None, arith}
use Rattle.dali_frame.specs.declared.forward.Frame.TheVariants.{Dtr1, AskDtr1, Enable}
use Rattle.dali_journal.specs.Sentence.{named_unit}
use Rattle.dali_write.proofs.EndLemmas.{reads_by}
use Rattle.dali_trace.specs.declared.happening.Happening.{Happening}
use Rattle.dali_trace.specs.declared.happening.Happening.TheVariants.{Sent}
use Rattle.dali_trace.specs.Trace.{standing_at, sent_since_taken}
use Rattle.dali_trace.specs.Legal.{Serves, MayFollow, Legal}
use Rattle.dali_trace.specs.Worked.{read_at, enable_twice, write_at, read_try, lock_try, eight_times, left_open}
use Rattle.dali_trace.specs.Worked.{second_taken, unreached, blocked, taken_again, second_begun}
use Rattle.dali_trace.proofs.WorkedLemmas.{next, enable_legal, read_legal, write_legal, read_stands}
use Rattle.dali_trace.proofs.RefusedLemmas.{has_none}

-- A trace on which eight tries more may be made: it is legal, serves unit 5, and a frame to it may follow.
record TakesTries (past : List Happening) : Type 0 where
  legal : Legal left_open past
  serves : Serves past (standing_at left_open past) 5
  names : named_unit (standing_at left_open past) ≡ Some 5
  set : MayFollow left_open past (Sent (Dtr1 1) None)
  enable : MayFollow left_open past (Sent (Enable 5) None)

read_try_on : (past : List Happening) → TakesTries past → TakesTries (read_try past)
read_try_on past on =
    let stands = standing_at left_open past in
    let s1 = next past (Dtr1 1) None stands 5 on.serves in
    let s2 = next (Sent (Dtr1 1) None ∷ past) (AskDtr1 5) None stands 5 s1 in
    record { legal = ((on.legal, on.set), s1); serves = s2; names = on.names; set = (5, s2); enable = (s2, on.names) }

lock_try_on : (past : List Happening) → TakesTries past → TakesTries (lock_try past)
lock_try_on past on =
    let enabled = enable_legal left_open past 5 on.legal on.enable on.serves on.names in
    read_try_on (enable_twice 5 past)
    (record {
      legal = enabled.0;
      serves = enabled.1;
      names = on.names;
      set = (5, enabled.1);
      enable = (enabled.1, on.names);
    })

eight_on : (try : List Happening → List Happening) → ((past : List Happening) → TakesTries past → TakesTries (try past))
    → (past : List Happening) → TakesTries past
    → TakesTries (eight_times try past)
eight_on try f past on =
    let p1 = try past in let p2 = try p1 in let p3 = try p2 in let p4 = try p3 in
    let p5 = try p4 in let p6 = try p5 in let p7 = try p6 in
    f p7 (f p6 (f p5 (f p4 (f p3 (f p2 (f p1 (f past on)))))))

pub second_taken_legal : Legal left_open second_taken
second_taken_legal = (((((((tt, tt, refl), refl, tt), tt, tt), omega arith), tt), (refl, (tt, refl, refl))))

second_taken_on : TakesTries second_taken
second_taken_on = record {
  legal = second_taken_legal;
  serves = (refl, refl);
  names = refl;
  set = (5, (refl, refl));
  enable = ((refl, refl), refl);
}

unreached_on : TakesTries unreached
unreached_on =
    eight_on read_try read_try_on (eight_times lock_try second_taken)
    (eight_on lock_try lock_try_on second_taken second_taken_on)

-- the order is blocked, is taken again, and begins once the unit is closed
pub blocked_legal : Legal left_open blocked
blocked_legal = (unreached_on.legal, (refl, refl, has_none 5 (sent_since_taken unreached) refl))

taken_again_legal : Legal left_open taken_again
taken_again_legal = ((blocked_legal, tt), (refl, (tt, refl, refl)))

closing_legal : Legal left_open (read_at 5 0x02 0xFF (write_at 5 0x02 0xFF taken_again))
closing_legal =
    let locked = write_legal left_open taken_again 5 0x02 0xFF taken_again_legal ((refl, refl), refl) (refl, refl) refl
    (refl, refl) in
    read_legal left_open (write_at 5 0x02 0xFF taken_again) 5 0x02 0xFF locked (5, (refl, refl)) (refl, refl)

pub second_begun_legal : Legal left_open second_begun
second_begun_legal = (
  (
    closing_legal,
    record {
      whole = (((((tt, tt, refl), refl, tt), tt, tt), refl, tt), omega arith);
      due = (
        refl,
        inl (0x02, 0xFF, reads_by 5 0x02 0xFF None None (sent_since_taken (write_at 5 0x02 0xFF taken_again))),
      );
      grounds = (0x02, 0xFF, read_stands (write_at 5 0x02 0xFF taken_again) 5 0x02 0xFF);
    },
  ),
  record {
    whole = ((((((tt, tt, refl), refl, tt), tt, tt), refl, tt), tt, refl), omega arith);
    due = (refl, refl);
    grounds = tt;
  },
)

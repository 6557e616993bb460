-- The other ends of an order, and stops on the way, are legal.
use Rattle.std.proofs.Common.{inl, inr, refl, sym, ap, List, ◌∷◌, Some, arith}
use Rattle.dali_write.specs.Reads.{StillRead}
use Rattle.dali_trace.specs.declared.happening.Happening.{Happening}
use Rattle.dali_trace.specs.declared.happening.Happening.TheVariants.{Stopped}
use Rattle.dali_trace.specs.Trace.{sent_of}
use Rattle.dali_trace.specs.Legal.{Legal}
use Rattle.dali_trace.specs.Worked.{read_at, write_at, write_all, read_try, enable_twice, first_order, empty, left_open}
use Rattle.dali_trace.specs.Worked.{begun, measured, opened, unlocked, short_ended, silent_ended, doubt_ended}
use Rattle.dali_trace.specs.Worked.{left_said, third_begun, format_ended, tried_again, opened_anew, written_anew}
use Rattle.dali_trace.specs.Worked.{done_anew, repeated_after_a_stop, taken_after_a_stop, taken_anew}
use Rattle.dali_trace.proofs.WorkedLemmas.{enable_legal, read_legal, write_legal, writes_legal, reads_legal}
use Rattle.dali_trace.proofs.WorkedLemmas.{read_stands, behind_read, reads_behind, reads_stand, begun_legal}
use Rattle.dali_trace.proofs.WorkedLemmas.{measured_legal, opened_legal, unlocked_legal, ended_legal}
use Rattle.dali_trace.proofs.WorkedLeftLemmas.{second_taken_legal}
use Rattle.dali_write.specs.declared.pace.Pace.TheVariants.{Checked}

pub short_legal : Legal empty short_ended
short_legal = (
  read_legal empty begun 5 0x00 0x07 begun_legal (5, refl) refl,
  record {
    whole = (((tt, tt, refl), tt, tt), omega arith);
    due = tt;
    grounds = (0x07, read_stands begun 5 0x00 0x07, omega arith);
  },
)

pub silent_legal : Legal empty silent_ended
silent_legal = (begun_legal, record { whole = (((tt, tt, refl), tt, tt), omega arith); due = tt; grounds = tt })

read_on_legal : Legal empty (read_at 5 0x02 0xFF opened)
read_on_legal = read_legal empty opened 5 0x02 0xFF opened_legal (5, refl) refl

pub doubt_legal : Legal empty doubt_ended
doubt_legal = (
  read_on_legal,
  record {
    whole = ((((tt, tt, refl), refl, tt), tt, tt), omega arith);
    due = tt;
    grounds = (0x02, 0xFF, read_stands opened 5 0x02 0xFF);
  },
)

pub left_legal : Legal empty left_said
left_legal = (
  (read_on_legal, record { whole = ((((tt, tt, refl), refl, tt), tt, tt), omega arith); due = tt; grounds = tt }),
  (refl, (refl, refl)),
)

pub third_begun_legal : Legal empty third_begun
third_begun_legal = (
  (((tt, omega arith), tt), (refl, (tt, refl, refl))),
  record { whole = ((tt, tt, refl), omega arith); due = (refl, refl); grounds = tt },
)

pub format_legal : Legal empty format_ended
format_legal =
    let p0 : List Happening = read_at 5 0x00 0x77 third_begun in
    let p1 : List Happening = read_at 5 0x11 0x00 p0 in
    let one = read_legal empty third_begun 5 0x00 0x77 third_begun_legal (5, refl) refl in
    let two = read_legal empty p0 5 0x11 0x00 one (5, refl) refl in
    let three = read_legal empty p1 5 0x12 0x04 two (5, refl) refl in
    let high : StillRead (sent_of (read_at 5 0x12 0x04 p1)) 5 0x11 0x00 =
    behind_read p1 5 0x11 0x00 5 0x12 0x04 (read_stands p0 5 0x11 0x00) in (
      three,
      record {
        whole = (((tt, tt, refl), tt, tt), omega arith);
        due = tt;
        grounds =
            (0x00, 0x04, high, read_stands p1 5 0x12 0x04, omega arith, λ both. let e = both.1 in omega (arith, e));
      },
    )

pub tried_legal : Legal empty tried_again
tried_legal =
    let enabled = enable_legal empty opened 5 opened_legal (refl, refl) refl refl in
    let missed : Legal empty (read_try (enable_twice 5 opened)) = ((enabled.0, (5, refl)), refl) in
    write_legal empty (read_try (enable_twice 5 opened)) 5 0x02 0x55 missed (refl, refl) refl refl
    (inr (refl, inl refl))

pub opened_anew_legal : Legal empty opened_anew
opened_anew_legal = (
  read_legal empty (Stopped Checked ∷ measured) 5 0x00 0x77 (measured_legal, tt) (5, refl) refl,
  record {
    whole = (((tt, tt, refl), refl, tt), omega arith);
    due = tt;
    grounds = (
      0x77,
      read_stands (Stopped Checked ∷ measured) 5 0x00 0x77,
      omega arith,
      λ needed. absurd
          (omega (arith, needed)),
    );
  },
)

written_anew_legal : Legal empty written_anew
written_anew_legal =
    let p0 : List Happening = write_at 5 0x02 0x55 (Stopped Checked ∷ unlocked) in
    let one = write_legal empty (Stopped Checked ∷ unlocked) 5 0x02 0x55 (unlocked_legal, tt) (refl, refl) refl refl
    (inr (refl, inl refl)) in
    let two = writes_legal empty first_order first_order.updates p0 (refl, (refl, (refl, (refl, (refl, (refl, tt))))))
    refl one (λ unit is. (is, ap Some (sym is))) in
    write_legal empty (write_all 5 first_order.updates p0) 5 0x02 0xFF two (refl, refl) refl refl (inr (refl, inr refl))

pub done_anew_legal : Legal empty done_anew
done_anew_legal =
    let p0 : List Happening = read_at 5 0x02 0xFF written_anew in
    let one = read_legal empty written_anew 5 0x02 0xFF written_anew_legal (5, refl) refl in
    let two = reads_legal empty first_order first_order.updates p0 refl one (5, refl) in (
      (
        two,
        record {
          whole = ((((tt, tt, refl), refl, tt), tt, tt), omega arith);
          due = tt;
          grounds = (
            reads_behind 5 0x02 0xFF first_order.updates 5 p0 (read_stands written_anew 5 0x02 0xFF),
            reads_stand 5 first_order.updates p0,
          );
        },
      ),
      (refl, (refl, refl)),
    )

pub repeated_legal : Legal empty repeated_after_a_stop
repeated_legal = (((ended_legal, tt), tt), (refl, refl))

pub taken_after_legal : Legal empty taken_after_a_stop
taken_after_legal = (((ended_legal, tt), tt), (refl, (tt, refl, refl)))

pub taken_anew_legal : Legal left_open taken_anew
taken_anew_legal = (((second_taken_legal, tt), tt), (refl, (tt, refl, refl)))

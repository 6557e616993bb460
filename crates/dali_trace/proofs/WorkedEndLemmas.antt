-- Orders that little befalls, one for each way to end and one that finds a left unit: all that is asked for, so that it
-- is promised how an order ends, holds of each of them together.
use Rattle.std.proofs.Common.{inl, inr, refl, List, ◌∷◌, ◌++◌, None, arith}
use Rattle.dali_frame.specs.declared.forward.Frame.TheVariants.{Write}
use Rattle.dali_bank.specs.Order.{AreUpdates}
use Rattle.dali_gear.specs.Faults.{IsBank}
use Rattle.dali_journal.specs.declared.record.Code.TheVariants as codes
use Rattle.dali_write.specs.declared.ask.Ask.TheVariants as asks
use Rattle.dali_write.specs.declared.ask.Verdict.TheVariants as verdicts
use Rattle.dali_write.specs.Plans.{read_length, unlock, close}
use Rattle.dali_write.proofs.EndLemmas.{reads_by}
use Rattle.dali_trace.specs.declared.happening.Happening.{Happening}
use Rattle.dali_trace.specs.declared.happening.Happening.TheVariants.{Sent, Powered}
use Rattle.dali_trace.specs.Trace.{sent_since_taken}
use Rattle.dali_trace.specs.Legal.{Legal}
use Rattle.dali_trace.specs.ByPlan.{told_in, ByPlan}
use Rattle.dali_trace.specs.Runs.{fresh}
use Rattle.dali_trace.specs.Worked.{select_at, enable_twice, read_at, write_at, read_try, third_order, third_begun}
use Rattle.dali_trace.specs.Worked.{left_open, format_ended}
use Rattle.dali_trace.specs.WorkedLosses.{MeetsAll, small_bank, another_format, small_units, short_bus}
use Rattle.dali_trace.specs.WorkedLosses.{short_order_ended, format_bus, fourth_order, done_bus, fourth_begun}
use Rattle.dali_trace.specs.WorkedLosses.{fourth_opened, fourth_written, fourth_ended, sixth_order, left_bus, sixth_taken}
use Rattle.dali_trace.specs.WorkedLosses.{sixth_closing, sixth_closed, sixth_begun, sixth_ended}
use Rattle.dali_trace.proofs.WorkedLemmas.{enable_legal, read_legal, write_legal, read_stands, reads_behind}
use Rattle.dali_trace.proofs.WorkedLemmas.{reads_stand}
use Rattle.dali_trace.proofs.WorkedEndingLemmas.{third_begun_legal, format_legal}
use Rattle.dali_trace.proofs.WorkedBusLemmas.{bus_chain, none_refused, none_on}
use Rattle.dali_trace.proofs.WorkedPlanLemmas.{Onset, Keeps, wants_so, frames_planned, frames_go_on}
use Rattle.dali_write.specs.declared.pace.Pace.TheVariants.{Checked}

is_small : IsBank small_bank.bytes
is_small = record { least = omega arith; most = omega arith; last = refl }

is_long : IsBank another_format.bytes
is_long = record { least = omega arith; most = omega arith; last = refl }

-- the third order's updates
year : AreUpdates third_order.updates
year = record {
  some = omega arith;
  few = omega arith;
  rising = (omega arith, tt);
  writable = (inr (omega arith, omega arith), tt);
}

-- Short, after one answer was lost and another unit lost its power

short_legal : Legal (fresh 10 Checked) short_order_ended
short_legal = (
  read_legal (fresh 10 Checked) (Powered 6 ∷ read_try third_begun) 5 0x00 0x10
      (((third_begun_legal, (5, refl)), refl), tt)
      (5, refl) refl,
  record {
    whole = (((tt, tt, refl), tt, tt), omega arith);
    due = tt;
    grounds = (0x10, read_stands (Powered 6 ∷ read_try third_begun) 5 0x00 0x10, omega arith);
  },
)

-- the third order is looked at
looks : Onset (fresh 10 Checked) third_begun 5 (read_length Checked third_order.updates)
looks = record { planned = (((tt, tt), tt), tt); untold = refl; asks = λ told ask wants. wants }

short_planned : ByPlan (fresh 10 Checked) short_order_ended
short_planned =
    let plan = read_length Checked third_order.updates in
    let tried = told_in (read_try third_begun) in
    let told = told_in (read_at 5 0x00 0x10 third_begun) in
    let keeps : Keeps 5 plan (told ++ tried) =
    (((((((((tt, refl), refl), refl), refl), refl), refl), refl), refl), refl) in (
      frames_go_on (fresh 10 Checked) (Powered 6 ∷ read_try third_begun) 5 plan tried
          (frames_planned (fresh 10 Checked) third_begun 5 plan looks tried ((tt, refl), refl), tt) refl looks.asks told
          keeps,
      (verdicts.Short, wants_so 5 plan (told ++ tried) (asks.Ended verdicts.Short) keeps refl, (tt, refl)),
    )

pub ends_short : MeetsAll (fresh 10 Checked) short_bus third_order small_bank codes.Short 1 short_order_ended
ends_short = record {
  legal = (short_legal, (refl, (refl, refl)));
  planned = (short_planned, tt);
  chain = bus_chain short_bus short_order_ended (refl, (refl, tt)) (is_small, (is_small, tt)) refl;
  none = none_on small_units (refl, (refl, tt));
  valid = year;
  hand = refl;
  little = record {
    taken = refl;
    there = inl (refl, refl);
    unrefused = none_refused short_bus short_order_ended refl;
    powered = ((λ same. cc, λ same. cc), tt);
    few = omega arith;
    free = λ due. cc;
  };
  losses = refl;
  misses = refl;
  due = refl;
}

-- Format, with nothing lost

format_planned : ByPlan (fresh 10 Checked) format_ended
format_planned =
    let plan = read_length Checked third_order.updates in
    let told = told_in (read_at 5 0x12 0x04 (read_at 5 0x11 0x00 (read_at 5 0x00 0x77 third_begun))) in
    let length : Keeps 5 plan (told_in (read_at 5 0x00 0x77 third_begun)) =
    (((((((tt, refl), refl), refl), refl), refl), refl), refl) in
    let high : Keeps 5 plan (told_in (read_at 5 0x11 0x00 (read_at 5 0x00 0x77 third_begun))) =
    (((((((length, refl), refl), refl), refl), refl), refl), refl) in
    let keeps : Keeps 5 plan told = (((((((high, refl), refl), refl), refl), refl), refl), refl) in (
      frames_planned (fresh 10 Checked) third_begun 5 plan looks told keeps,
      (verdicts.Format, wants_so 5 plan told (asks.Ended verdicts.Format) keeps refl, (tt, refl)),
    )

pub ends_format : MeetsAll (fresh 10 Checked) format_bus third_order another_format codes.Format 0 format_ended
ends_format = record {
  legal = (format_legal, (refl, (refl, refl)));
  planned = (format_planned, tt);
  chain = bus_chain format_bus format_ended (refl, tt) (is_long, tt) refl;
  none = none_on format_bus.units (refl, tt);
  valid = year;
  hand = refl;
  little = record {
    taken = refl;
    there = inl (refl, refl);
    unrefused = none_refused format_bus format_ended refl;
    powered = tt;
    few = omega arith;
    free = λ due. cc;
  };
  losses = refl;
  misses = refl;
  due = refl;
}

-- Done, after the answer to a write was lost

fourth_begun_legal : Legal (fresh 10 Checked) fourth_begun
fourth_begun_legal = (
  (((tt, omega arith), tt), (refl, (tt, refl, refl))),
  record { whole = ((tt, tt, refl), omega arith); due = (refl, refl); grounds = tt },
)

fourth_opened_legal : Legal (fresh 10 Checked) fourth_opened
fourth_opened_legal = (
  read_legal (fresh 10 Checked) fourth_begun 5 0x00 0x10 fourth_begun_legal (5, refl) refl,
  record {
    whole = (((tt, tt, refl), refl, tt), omega arith);
    due = tt;
    grounds = (0x10, read_stands fourth_begun 5 0x00 0x10, omega arith, λ needed. absurd (omega (arith, needed)));
  },
)

fourth_ended_legal : Legal (fresh 10 Checked) fourth_ended
fourth_ended_legal =
    let unlocked : List Happening = write_at 5 0x02 0x55 fourth_opened in
    let lost : List Happening = Sent (Write 0xAB) None ∷ select_at 5 0x08 (enable_twice 5 unlocked) in
    let locked : List Happening = write_at 5 0x02 0xFF fourth_written in
    let lock_read : List Happening = read_at 5 0x02 0xFF locked in
    let one = write_legal (fresh 10 Checked) fourth_opened 5 0x02 0x55 fourth_opened_legal (refl, refl) refl refl
    (inr (refl, inl refl)) in
    let two = write_legal (fresh 10 Checked) unlocked 5 0x08 0xAB one (refl, refl) refl refl (inl refl) in
    let three = write_legal (fresh 10 Checked) lost 5 0x08 0xAB (two.0, two.1) (refl, refl) refl refl (inl refl) in
    let four = write_legal (fresh 10 Checked) fourth_written 5 0x02 0xFF three (refl, refl) refl refl
    (inr (refl, inr refl)) in
    let five = read_legal (fresh 10 Checked) locked 5 0x02 0xFF four (5, refl) refl in (
      read_legal (fresh 10 Checked) lock_read 5 0x08 0xAB five (5, refl) refl,
      record {
        whole = ((((tt, tt, refl), refl, tt), tt, tt), omega arith);
        due = tt;
        grounds = (
          reads_behind 5 0x02 0xFF fourth_order.updates 5 lock_read (read_stands locked 5 0x02 0xFF),
          reads_stand 5 fourth_order.updates lock_read,
        );
      },
    )

fourth_ended_planned : ByPlan (fresh 10 Checked) fourth_ended
fourth_ended_planned =
    let look = read_length Checked fourth_order.updates in
    let write = unlock Checked fourth_order.updates in
    let looked = told_in (read_at 5 0x00 0x10 fourth_begun) in
    let length : Keeps 5 look looked = (((((((tt, refl), refl), refl), refl), refl), refl), refl) in
    let opened : ByPlan (fresh 10 Checked) fourth_opened = (
      frames_planned (fresh 10 Checked) fourth_begun 5 look (record {
        planned = (((tt, tt), tt), tt);
        untold = refl;
        asks = λ told ask wants. wants;
      }) looked length,
      (verdicts.MayOpen, wants_so 5 look looked (asks.Ended verdicts.MayOpen) length refl, (refl, refl)),
    ) in
    let unlocked : List Happening = write_at 5 0x02 0x55 fourth_opened in
    let lost : List Happening = Sent (Write 0xAB) None ∷ select_at 5 0x08 (enable_twice 5 unlocked) in
    let locked : List Happening = write_at 5 0x02 0xFF fourth_written in
    let lock_read : List Happening = read_at 5 0x02 0xFF locked in
    let told = told_in (read_at 5 0x08 0xAB lock_read) in
    let k1 : Keeps 5 write (told_in unlocked) = (((((((tt, refl), refl), refl), refl), refl), refl), refl) in
    let k2 : Keeps 5 write (told_in lost) = (((((((k1, refl), refl), refl), refl), refl), refl), refl) in
    let k3 : Keeps 5 write (told_in fourth_written) = (((((((k2, refl), refl), refl), refl), refl), refl), refl) in
    let k4 : Keeps 5 write (told_in locked) = (((((((k3, refl), refl), refl), refl), refl), refl), refl) in
    let k5 : Keeps 5 write (told_in lock_read) = (((((((k4, refl), refl), refl), refl), refl), refl), refl) in
    let keeps : Keeps 5 write told = (((((((k5, refl), refl), refl), refl), refl), refl), refl) in (
      frames_planned (fresh 10 Checked) fourth_opened 5 write (record {
        planned = opened;
        untold = refl;
        asks = λ told ask wants. wants;
      }) told keeps,
      (verdicts.Done, wants_so 5 write told (asks.Ended verdicts.Done) keeps refl, (tt, refl)),
    )

pub ends_done : MeetsAll (fresh 10 Checked) done_bus fourth_order small_bank codes.Done 1 fourth_ended
ends_done = record {
  legal = (fourth_ended_legal, (refl, (refl, refl)));
  planned = (fourth_ended_planned, tt);
  chain = bus_chain done_bus fourth_ended (refl, (refl, tt)) (is_small, (is_small, tt)) refl;
  none = none_on small_units (refl, (refl, tt));
  valid = record {
    some = omega arith;
    few = omega arith;
    rising = (omega arith, tt);
    writable = (inl (omega arith, omega arith), tt);
  };
  hand = refl;
  little = record {
    taken = refl;
    there = inl (refl, refl);
    unrefused = none_refused done_bus fourth_ended refl;
    powered = tt;
    few = omega arith;
    free = λ due. (refl, tt);
  };
  losses = refl;
  misses = refl;
  due = refl;
}

-- Short, after an answer of a left unit was lost

sixth_taken_legal : Legal left_open sixth_taken
sixth_taken_legal = (((((((tt, tt, refl), refl, tt), tt, tt), omega arith), tt), (refl, (tt, refl, refl))))

sixth_ended_legal : Legal left_open sixth_ended
sixth_ended_legal =
    let locked : List Happening = write_at 5 0x02 0xFF sixth_closing in
    let enabled = enable_legal left_open sixth_taken 5 sixth_taken_legal ((refl, refl), refl) (refl, refl) refl in
    let one : Legal left_open sixth_closing = ((enabled.0, (5, enabled.1)), (refl, refl)) in
    let two = write_legal left_open sixth_closing 5 0x02 0xFF one ((refl, refl), refl) (refl, refl) refl (refl, refl) in
    let three = read_legal left_open locked 5 0x02 0xFF two (5, (refl, refl)) (refl, refl) in
    let closed : Legal left_open sixth_closed = (
      three,
      record {
        whole = (((((tt, tt, refl), refl, tt), tt, tt), refl, tt), omega arith);
        due = (refl, inl (0x02, 0xFF, reads_by 5 0x02 0xFF None None (sent_since_taken locked)));
        grounds = (0x02, 0xFF, read_stands locked 5 0x02 0xFF);
      },
    ) in
    let begun : Legal left_open sixth_begun = (
      closed,
      record {
        whole = ((((((tt, tt, refl), refl, tt), tt, tt), refl, tt), tt, refl), omega arith);
        due = (refl, refl);
        grounds = tt;
      },
    ) in (
      read_legal left_open sixth_begun 6 0x00 0x10 begun (6, refl) refl,
      record {
        whole = (((((((tt, tt, refl), refl, tt), tt, tt), refl, tt), tt, refl), tt, tt), omega arith);
        due = tt;
        grounds = (0x10, read_stands sixth_begun 6 0x00 0x10, omega arith);
      },
    )

sixth_ended_planned : ByPlan left_open sixth_ended
sixth_ended_planned =
    let plan = close verdicts.Closed verdicts.NotClosed in
    let look = read_length Checked sixth_order.updates in
    let told = told_in (read_at 5 0x02 0xFF (write_at 5 0x02 0xFF sixth_closing)) in
    let looked = told_in (read_at 6 0x00 0x10 sixth_begun) in
    let k1 : Keeps 5 plan (told_in sixth_closing) = ((((tt, refl), refl), refl), refl) in
    let k2 : Keeps 5 plan (told_in (write_at 5 0x02 0xFF sixth_closing)) =
    (((((((k1, refl), refl), refl), refl), refl), refl), refl) in
    let keeps : Keeps 5 plan told = (((((((k2, refl), refl), refl), refl), refl), refl), refl) in
    let length : Keeps 6 look looked = (((((((tt, refl), refl), refl), refl), refl), refl), refl) in
    let closed : ByPlan left_open sixth_closed = (
      frames_planned left_open sixth_taken 5 plan (record {
        planned = ((tt, tt), tt);
        untold = refl;
        asks = λ told ask wants. wants;
      }) told keeps,
      (verdicts.Closed, wants_so 5 plan told (asks.Ended verdicts.Closed) keeps refl, (refl, refl)),
    ) in (
      frames_planned left_open sixth_begun 6 look (record {
        planned = (closed, tt);
        untold = refl;
        asks = λ told ask wants. wants;
      }) looked length,
      (verdicts.Short, wants_so 6 look looked (asks.Ended verdicts.Short) length refl, (tt, refl)),
    )

pub ends_behind_a_left_unit : MeetsAll left_open left_bus sixth_order small_bank codes.Short 1 sixth_ended
ends_behind_a_left_unit = record {
  legal = (sixth_ended_legal, (refl, (refl, refl)));
  planned = (sixth_ended_planned, tt);
  chain = bus_chain left_bus sixth_ended (refl, (refl, tt)) (is_small, (is_small, tt)) refl;
  none = none_on small_units (refl, (refl, tt));
  valid = year;
  hand = refl;
  little = record {
    taken = refl;
    there = inr (inl (refl, refl));
    unrefused = none_refused left_bus sixth_ended refl;
    powered = tt;
    few = omega arith;
    free = λ due. cc;
  };
  losses = refl;
  misses = refl;
  due = refl;
}

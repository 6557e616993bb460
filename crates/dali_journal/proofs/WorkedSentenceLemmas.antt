-- Which record may come next, by hand, and which may not.
use Rattle.dali_bank.specs.Order.{Contents}
use Rattle.dali_journal.specs.declared.record.Code.TheVariants.{Done, Short, Format, Silent, Doubt, DoubtOpen}
use Rattle.dali_journal.specs.declared.record.Record.TheVariants.{Began, Opened, Ended, Closed}
use Rattle.dali_journal.specs.declared.standing.Standing.TheVariants as standings
use Rattle.dali_journal.specs.Sentence.{Allows}
use Rattle.std.proofs.Common.{ℕ}

module _ (order : Contents) (moment : ℕ) where
  -- an order that was begun ends as Short, Format or Silent
  pub ends_of_a_begun_one : Allows (standings.Began order) (Ended Short)
      × Allows (standings.Began order) (Ended Format) × Allows (standings.Began order) (Ended Silent)
  ends_of_a_begun_one = (tt, tt, tt)

  pub not_done_once_begun : Allows (standings.Began order) (Ended Done) → ⊥
  not_done_once_begun allows = allows

  pub not_in_doubt_once_begun : Allows (standings.Began order) (Ended Doubt) → ⊥
  not_in_doubt_once_begun allows = allows

  pub not_left_once_begun : Allows (standings.Began order) (Ended DoubtOpen) → ⊥
  not_left_once_begun allows = allows

  -- one that was opened may have changed its unit, so it ends as Done, Doubt or DoubtOpen, and as none of these
  pub ends_of_an_opened_one : Allows (standings.Opened order) (Ended Done)
      × Allows (standings.Opened order) (Ended Doubt) × Allows (standings.Opened order) (Ended DoubtOpen)
  ends_of_an_opened_one = (tt, tt, tt)

  pub not_short_once_opened : Allows (standings.Opened order) (Ended Short) → ⊥
  not_short_once_opened allows = allows

  pub not_format_once_opened : Allows (standings.Opened order) (Ended Format) → ⊥
  not_format_once_opened allows = allows

  pub not_silent_once_opened : Allows (standings.Opened order) (Ended Silent) → ⊥
  not_silent_once_opened allows = allows

  -- it ends before another begins, and so does a unit that was left
  pub not_begun_past_an_opened_one : Allows (standings.Opened order) (Began order moment) → ⊥
  not_begun_past_an_opened_one allows = allows

  pub not_begun_past_a_left_unit : Allows (standings.Left 5) (Began order moment) → ⊥
  not_begun_past_a_left_unit allows = allows

-- nothing ends or is closed if nothing is at work
pub not_ended_at_rest : Allows standings.Idle (Ended Silent) → ⊥
not_ended_at_rest allows = allows

pub not_opened_at_rest : Allows standings.Idle (Opened 5) → ⊥
not_opened_at_rest allows = allows

pub not_closed_at_rest : Allows standings.Idle (Closed 5) → ⊥
not_closed_at_rest allows = allows

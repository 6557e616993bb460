-- The numbers that are looked up once in the journal that is asked.
use Rattle.std.specs.Prelude.{◌≡◌, ◌==◌, ◌+◌, ℕ, Bool, false, List, [], ◌∷◌, Option, Some, None, IfSome}
use Rattle.dali_bank.specs.Order.{Contents}
use Rattle.dali_journal.specs.declared.kept.Progress.{Progress}
use Rattle.dali_journal.specs.declared.record.Record.{Record}
use Rattle.dali_journal.specs.declared.standing.Standing.{Standing}
use Rattle.dali_journal.specs.declared.standing.Standing.TheVariants.{Left}
use Rattle.dali_journal.specs.Orders.{orders_of}
use Rattle.dali_file_commands.specs.declared.known.Survey.{Survey}
use Rattle.dali_file_commands.specs.declared.known.Ledger.{Ledger}
use Rattle.dali_file_commands.specs.Known.{IsFirstAbove}

-- the number above the greatest, 0 if there is none
abbrev pub above : Option ℕ → ℕ
above None = 0
above (Some greatest) = greatest + 1

-- the number of the newest order
abbrev pub newest_of : List (Contents × Progress) → Option ℕ
newest_of [] = None
newest_of (newest ∷ older) = Some newest.0.id

-- the greatest number of these records' orders, and that of the newest one
pub record IsSurvey (records : List Record) (survey : Survey) : Type 0 where
  pub first_above : IsFirstAbove records (above survey.greatest)
  pub newest_is : survey.newest ≡ newest_of (orders_of records)

-- the same of the journal that is asked, if one is
abbrev pub IsSurveyed : Ledger → Type 0
IsSurveyed ledger = IfSome ledger.journal (λ journal. IsSurvey journal.now.records ledger.survey)

-- a unit is left, and the newest order has this number
abbrev pub is_left_by : Standing → Option ℕ → ℕ → Bool
is_left_by (Left unit) (Some newest) id = newest == id
is_left_by standing newest id = false

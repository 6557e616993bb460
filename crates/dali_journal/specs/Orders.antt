-- The content of a journal on each order. The newest comes first.
use Rattle.std.specs.Prelude.{ℕ, ◌==◌, List, [], ◌∷◌, Option, None, Some, if◌then◌else◌}
use Rattle.dali_bank.specs.Order.{Contents}
use Rattle.dali_journal.specs.declared.record.Record.{Record}
use Rattle.dali_journal.specs.declared.record.Record.TheVariants.{Began, Opened, Ended, Closed}
use Rattle.dali_journal.specs.declared.kept.Progress.{Progress}
use Rattle.dali_journal.specs.declared.kept.Progress.TheVariants as reached
use Rattle.dali_journal.specs.declared.kept.Kept.{Kept}
use Rattle.dali_journal.specs.declared.kept.Kept.TheVariants as kepts

-- the newest order has come so far
abbrev pub come_to : Progress → List (Contents × Progress) → List (Contents × Progress)
come_to progress [] = []
come_to progress (newest ∷ older) = (newest.0, progress) ∷ older

-- the orders that were begun, each with its progress
abbrev pub orders_of : List Record → List (Contents × Progress)
orders_of [] = []
orders_of (Began order moment ∷ older) = (order, reached.Begun) ∷ orders_of older
orders_of (Opened unit ∷ older) = come_to reached.Open (orders_of older)
orders_of (Ended code ∷ older) = come_to (reached.Ended code) (orders_of older)
orders_of (Closed unit ∷ older) = orders_of older

-- what is kept of an order that has come so far
abbrev pub kept_at : Contents → Progress → Kept
kept_at order (reached.Ended code) = kepts.Ended order code
kept_at order other = kepts.Unfinished order

-- what is kept of the order of this number, of these orders
abbrev pub kept_among : ℕ → List (Contents × Progress) → Kept
kept_among id [] = kepts.Absent
kept_among id (newest ∷ older) = if newest.0.id == id then kept_at newest.0 newest.1 else kept_among id older

-- what the journal has kept of the order of this number
abbrev pub kept_of : ℕ → List Record → Kept
kept_of id records = kept_among id (orders_of records)

-- the moment at which the order of this number was submitted
abbrev pub moment_of : ℕ → List Record → Option ℕ
moment_of id [] = None
moment_of id (Began order moment ∷ older) = if order.id == id then Some moment else moment_of id older
moment_of id (other ∷ older) = moment_of id older

-- The index shows of a number whether an order of it was begun.
use Rattle.std.proofs.Common.{◌≡◌, ℕ, Bool, true, false, cond, List, [], ◌∷◌, refl, sym, ap, ◌∙◌, ◌==◌, ◌||◌, Option}
use Rattle.dali_bank.specs.Order.{Contents}
use Rattle.dali_journal.specs.declared.record.Record.{Record}
use Rattle.dali_journal.specs.declared.record.Record.TheVariants.{Began, Opened, Ended, Closed}
use Rattle.dali_journal.specs.declared.kept.Progress.{Progress}
use Rattle.dali_journal.specs.declared.kept.Progress.TheVariants as reached
use Rattle.dali_journal.specs.declared.kept.Kept.{Kept}
use Rattle.dali_journal.specs.declared.kept.Kept.TheVariants as kepts
use Rattle.dali_journal.specs.declared.index.IndexEntry.{IndexEntry}
use Rattle.dali_journal.specs.declared.index.IndexEntry.TheVariants as index_entries
use Rattle.dali_journal.specs.Sentence.{is_begun}
use Rattle.dali_journal.specs.Orders.{come_to, orders_of, kept_at, kept_among, kept_of, moment_of}
use Rattle.dali_journal.specs.Index.{is_begun_at, Agrees}

abbrev pub is_kept : Kept → Bool
is_kept kepts.Absent = false
is_kept (kepts.Unfinished order) = true
is_kept (kepts.Ended order code) = true

abbrev is_among : ℕ → List (Contents × Progress) → Bool
is_among id [] = false
is_among id (newest ∷ older) = newest.0.id == id || is_among id older

among_come : (id : ℕ) (progress : Progress) (orders : List (Contents × Progress))
    → is_among id (come_to progress orders) ≡ is_among id orders
among_come id progress [] = refl
among_come id progress (newest ∷ older) = refl

begun_among : (id : ℕ) (records : List Record) → is_begun id records ≡ is_among id (orders_of records)
begun_among id [] = refl
begun_among id (Began order moment ∷ older) = ap (λ b. order.id == id || b) (begun_among id older)
begun_among id (Opened unit ∷ older) = begun_among id older ∙ sym (among_come id reached.Open (orders_of older))
begun_among id (Ended code ∷ older) = begun_among id older ∙ sym (among_come id (reached.Ended code) (orders_of older))
begun_among id (Closed unit ∷ older) = begun_among id older

kept_progress : (order : Contents) (progress : Progress) → is_kept (kept_at order progress) ≡ true
kept_progress order reached.Begun = refl
kept_progress order reached.Open = refl
kept_progress order (reached.Ended code) = refl

among_kept : (id : ℕ) (orders : List (Contents × Progress)) → is_among id orders ≡ is_kept (kept_among id orders)
among_kept id [] = refl
among_kept id (newest ∷ older) = by (newest.0.id == id) (among_kept id older)
  where
    by : (test : Bool) → is_among id older ≡ is_kept (kept_among id older)
        → (test || is_among id older) ≡ is_kept (cond test (kept_at newest.0 newest.1) (kept_among id older))
    by true rest = sym (kept_progress newest.0 newest.1)
    by false rest = rest

pub kept_where_begun : (id : ℕ) (records : List Record) → is_begun id records ≡ is_kept (kept_of id records)
kept_where_begun id records = begun_among id records ∙ among_kept id (orders_of records)

agrees_begun : (bytes : List ℕ) (known : IndexEntry) (kept : Kept) (since : Option ℕ) → Agrees bytes known kept since
    → is_begun_at known ≡ is_kept kept
agrees_begun bytes index_entries.NotBegun kept since a = sym (ap is_kept a.0)
agrees_begun bytes (index_entries.Begun at) kept since a = sym (ap is_kept a.2)
agrees_begun bytes (index_entries.Ended at code) kept since a = sym (ap is_kept a.2)

pub begun_told : (id : ℕ) (bytes : List ℕ) (known : IndexEntry) (records : List Record)
    → Agrees bytes known (kept_of id records) (moment_of id records)
    → is_begun_at known ≡ is_begun id records
begun_told id bytes known records a =
    agrees_begun bytes known (kept_of id records) (moment_of id records) a ∙ sym (kept_where_begun id records)

pub nothing_kept : (kept : Kept) → is_kept kept ≡ false → kept ≡ kepts.Absent
nothing_kept kepts.Absent e = refl
nothing_kept (kepts.Unfinished order) e = cc
nothing_kept (kepts.Ended order code) e = cc

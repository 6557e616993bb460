-- Orders that have ended, of journals that don't grow again, beside the index of those that do.
use Rattle.std.specs.Prelude.{ℕ, ◌+◌, ◌≢◌, ◌++◌, All, List, Option, None, Some, map, filter_map}
use Rattle.dali_journal.specs.declared.index.IndexEntry.{IndexEntry}
use Rattle.dali_journal.specs.declared.index.IndexEntry.TheVariants as index_entries
use Rattle.dali_journal.specs.declared.settled.Settled.{Settled}

-- none of them has this number
abbrev pub IsUnsettled : ℕ → List Settled → Type 0
IsUnsettled id settled = All (λ one. one.id ≢ id) settled

-- the same order, this many bytes further on
abbrev pub moved : ℕ → Settled → Settled
moved front one = record { id = one.id; at = front + one.at; code = one.code }

-- the order that an index tells as ended, whose places count from there
abbrev pub settled_at : ℕ → ℕ × IndexEntry → Option Settled
settled_at front (id, index_entries.NotBegun) = None
settled_at front (id, index_entries.Begun at) = None
settled_at front (id, index_entries.Ended at code) = Some (record { id = id; at = front + at; code = code })

-- the settled orders of two journals: of the older one with those that its index has as ended, whose places count from
-- `front` on, and those of the newer one, whose bytes come after `len` bytes
abbrev pub settled_both : ℕ → List Settled → List (ℕ × IndexEntry) → ℕ → List Settled → List Settled
settled_both front settled index len own =
    (settled ++ filter_map (settled_at front) index) ++ map (moved len) own

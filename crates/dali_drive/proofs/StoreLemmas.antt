-- A store along a drive.
use Rattle.std.proofs.Common.{inl, inr, ⊎_elim, sym, subst, ℕ, List, Option, Some, None}
use Rattle.std.specs.Io.KnownBytes.{Appends}
use Rattle.dali_journal.specs.declared.version.Version.TheVariants.{Two}
use Rattle.dali_journal.specs.Spelling.{journal_spelling}
use Rattle.dali_journal.specs.JournalState.{JournalState}
use Rattle.dali_store.specs.Stores.{IsDurable, IsBetween, Becomes, LeavesOnly}
use Rattle.dali_store.specs.Opened.{Loads, IsOpened, LeavesAlike}
use Rattle.dali_store.proofs.OpenLemmas.{found_loads}
use Rattle.dali_drive.specs.Behind.{IsOpenedBehind}
use Rattle.dali_drive.specs.Stored.{LeavesPart}
use Rattle.dali_drive.specs.Transcript.{Streams}
use Rattle.dali_store.proofs.Moments.{started, and_then}
use Rattle.dali_store.proofs.Betweens.{settled_between, between_first, between_second}

module _ {S : Type 0} (seen : S → Option (List ℕ)) (may_leave : S → List ℕ → Type 0) (moment : S → ℕ)
    (left_since : S → ℕ → List ℕ → Type 0) where
  pub untouched : (store : S) → IsDurable (seen store) (may_leave store)
      → ((c : List ℕ) → left_since store (moment store) c → may_leave store c)
      → LeavesOnly moment left_since store store (IsBetween (seen store) (seen store))
  untouched store settled only =
      started moment left_since store (IsBetween (seen store) (seen store))
      (λ c left. settled_between (seen store) (may_leave store) settled c (only c left))

  pub then_on : (old mid new : S) → ((more : List ℕ) × Appends (seen old) (seen mid) more)
      → ((more : List ℕ) × Appends (seen mid) (seen new) more)
      → LeavesOnly moment left_since old mid (IsBetween (seen old) (seen mid))
      → LeavesOnly moment left_since mid new (IsBetween (seen mid) (seen new))
      → LeavesOnly moment left_since old new (IsBetween (seen old) (seen new))
  then_on old mid new (x, first) (y, second) before after =
      and_then moment left_since old mid new _ _ _ before after
      (λ c is. between_first (seen old) (seen mid) (seen new) x y c first second is)
      (λ c is. between_second (seen old) (seen mid) (seen new) x y c first second is)

-- what a stop leaves while a journal is opened and driven

shown_loads : (limit most : ℕ) (bytes : List ℕ) (journal : JournalState) → IsOpened limit most (Some bytes) journal
    → Loads limit journal.records bytes
shown_loads limit most bytes journal o =
    subst (λ (l : List ℕ). Loads limit journal.records l) (sym o.found.shown)
    (found_loads limit most (Some bytes) journal o.version o.counted o.total o.found)

part_of_alike : (limit : ℕ) (old new : Option (List ℕ)) (before : List ℕ → Type 0) (c : List ℕ)
    → LeavesAlike limit old before c → LeavesPart limit old new before c
part_of_alike limit old new before c is = ⊎_elim (λ was. inl was) (λ alike. inr (inl alike)) is

part_of_between : (limit most : ℕ) (old mid new : Option (List ℕ)) (before : List ℕ → Type 0) (journal : JournalState)
    → IsOpened limit most old journal → Becomes old mid (journal_spelling Two journal.records)
    → (c : List ℕ) → IsBetween mid new c → LeavesPart limit old new before c
part_of_between limit most None mid new before journal opened becomes c is = inr (inr tt)
part_of_between limit most (Some bytes) None new before journal opened becomes c is = absurd becomes
part_of_between limit most (Some bytes) (Some now) new before journal opened becomes c is = inr (inr (
  journal.records,
  shown_loads limit most bytes journal opened,
  subst (λ (l : List ℕ). IsBetween (Some l) new c) becomes is,
))

module _ {D : Type 0} (shows : D → Streams) (may_leave : D → List ℕ → Type 0) (moment : D → ℕ)
    (left_since : D → ℕ → List ℕ → Type 0) (limit most : ℕ) where
  pub driven_part : (older : Option JournalState) (old mid new : D) (journal : JournalState)
      → IsOpenedBehind older limit most (shows old) (shows mid) journal
      → LeavesOnly moment left_since old mid (LeavesAlike limit (shows old).journal (may_leave old))
      → LeavesOnly moment left_since mid new (IsBetween (shows mid).journal (shows new).journal)
      → LeavesOnly moment left_since old new (LeavesPart limit (shows old).journal (shows new).journal (may_leave old))
  driven_part older old mid new journal o opening driving =
      let begun = o.behind.begun in
      and_then moment left_since old mid new _ _ _ opening driving
      (part_of_alike limit (shows old).journal (shows new).journal (may_leave old))
      (λ c is. part_of_between limit most (shows old).journal begun.middle (shows new).journal (may_leave old)
      begun.journal begun.opened begun.written c (rw o.streams at is))

-- How a reading ended.
use Rattle.std.proofs.Common.{◌≡◌, ◌⊎◌, ◌||◌, inl, inr, not, ℕ, Bool, true, false, List, Option, None}
use Rattle.std.specs.Prelude.{⊤}
use Rattle.dali_store.proofs.Moments.{started, goes_on}
use Rattle.dali_store.specs.Stores.{Elapses, LeavesOnly, MayAlso}
use Rattle.dali_store.specs.declared.file_store.FileStore.{FileStore}
use Rattle.dali_store.specs.Files as file
use Rattle.dali_drive.specs.declared.std_streams.StdSink.{StdSink}
use Rattle.dali_drive.specs.declared.std_streams.StdSource.{StdSource}
use Rattle.dali_drive.specs.declared.store_desk.StoreDesk.{StoreDesk}
use Rattle.dali_drive.specs.Desks.{Look}
use Rattle.dali_drive.specs.StdStreams.{source_left, source_failed, sink_held, sink_failed}
use Rattle.dali_drive.specs.StoreDesks.{store_look}
use Rattle.dali_input.specs.declared.command_fault.Status.{Status}
use Rattle.dali_link_commands.specs.declared.lines.Lines.{Lines}
use Rattle.dali_link_commands.specs.ReadAnswers.{IsReadAnswer}
use Rattle.dali_text.specs.Output.{has_failed, held}

-- of a file nothing is known that a stop may leave
pub nothing_known : (unit : ℕ) (leaves_only : (List ℕ → Type 0) → Type 0) (first : Look) (status : Status) (last : Look)
    → IsReadAnswer unit leaves_only first status last → IsReadAnswer unit (λ leaves. ⊤) first status last
nothing_known unit leaves_only first status last (inl e) = inl (search)
nothing_known unit leaves_only first status last (inr (inl e)) = inr (inl (search))
nothing_known unit leaves_only first status last (inr (inr (inl e))) = inr (inr (inl (search)))
nothing_known unit leaves_only first status last (inr (inr (inr e))) = inr (inr (inr (search)))

module _ {S : Type 0} (moment : S → ℕ) (left_since : S → ℕ → List ℕ → Type 0) (may_leave : S → List ℕ → Type 0)
    (only_now : (store : S) (c : List ℕ) → left_since store (moment store) c → may_leave store c) where
  -- nothing was put there
  pub left_alone : (store : S) → LeavesOnly moment left_since store store (may_leave store)
  left_alone store = started moment left_since store (may_leave store) (only_now store)

  -- this text was put there, or not
  pub text_put : (old new : S) (text : List ℕ)
      → Elapses (moment old) (moment new) (left_since old) (left_since new) (may_leave new)
      → MayAlso (λ c. c ≡ text) (may_leave old) (may_leave new)
      → LeavesOnly moment left_since old new (λ c. may_leave old c ⊎ (c ≡ text))
  text_put old new text time also =
      goes_on moment left_since old old new _ (may_leave new)
      (started moment left_since old _ (λ c left. inl (only_now old c left))) time also

-- it hasn't failed before, and not in this call
pub unfailed_on : (old new done : Bool) → old ≡ false → done ≡ true → new ≡ (old || not done) → new ≡ false
unfailed_on old new done before well is = rw (before, well) at is

-- what a desk over std's streams and a file shows
abbrev pub std_look : {I L R W : Type 0} → (L → Option (List ℕ)) → (I → Option (List ℕ)) → (W → Option (List ℕ))
    → StoreDesk (StdSource I) (StdSink L) (FileStore R) (Lines W) → Look
std_look link_held left contents desk =
    store_look (λ file. None) file.has_failed (λ file c. ⊤) (sink_held link_held) sink_failed (source_left left)
    source_failed (λ lines. held contents lines.output) (λ lines. has_failed lines.output) desk

-- a store learns in which file the orders are
pub kept_orders : {I L R W : Type 0} (link_held : L → Option (List ℕ)) (left : I → Option (List ℕ))
    (contents : W → Option (List ℕ)) (desk : StoreDesk (StdSource I) (StdSink L) (FileStore R) (Lines W))
    (journal : FileStore R) (P : Look → Type 0) → file.has_failed journal ≡ file.has_failed desk.journal
    → P (std_look link_held left contents (record desk { journal = journal }))
    → P (std_look link_held left contents desk)
kept_orders link_held left contents desk journal P is so =
    rw is at so

-- The state after a unit was read into a file, and near misses of that.
use Rattle.std.proofs.Common.{◌≡◌, ◌≢◌, ◌∙◌, inl, inr, true, false, ℕ, List, [], ◌∷◌, Some}
use Rattle.dali_input.specs.BankText.{rows_text}
use Rattle.dali_drive.specs.Desks.{Look}
use Rattle.dali_input.specs.declared.command_fault.Status.{Status}
use Rattle.dali_link_commands.specs.ReadAnswers.{EndsRead, EndsSilent, EndsUnkept}
use Rattle.dali_link_commands.proofs.WorkedBenchLemmas.{emptied, emptied_unsettled}

module _ (unit : ℕ) (first : Look) (status : Status) (last : Look) (other : List ℕ) where
  -- a stop may leave this
  abbrev Leaves : (List ℕ → Type 0) → Type 0
  Leaves may_leave = may_leave other

  -- the file has the text of what was read, and nothing else
  pub read_and_another_text : (e : EndsRead unit Leaves first status last) → first.streams.journal ≡ Some []
      → last.streams.journal ≡ Some other → other ≢ rows_text e.bytes → ⊥
  read_and_another_text e empty holds differs = differs (rw (empty, holds) at e.file)

  -- a stop leaves that, or what it might have left before
  pub read_and_another_left : (e : EndsRead unit Leaves first status last) → (first.may_leave other → ⊥)
      → other ≢ rows_text e.bytes → ⊥
  read_and_another_left e never differs = elim e.leaves [ inl left ↦ never left | inr is ↦ differs is ]

  -- and then exactly that
  pub read_and_unsettled : EndsRead unit Leaves first status last → last.streams.journal ≡ Some (1 ∷ [])
      → last.may_leave [] → ⊥
  read_and_unsettled e shows less = emptied_unsettled _ _ shows less e.settled

  pub read_where_a_store_failed : EndsRead unit Leaves first status last → last.failed.journal ≡ true → ⊥
  read_where_a_store_failed e failed = cc

  -- of a silent unit nothing is put there
  pub silent_and_put : EndsSilent unit Leaves first status last → first.streams.journal ≡ Some (1 ∷ [])
      → last.streams.journal ≡ Some [] → ⊥
  silent_and_put e held put = emptied last.streams.journal (e.file ∙ held) put

  pub silent_and_left : EndsSilent unit Leaves first status last → (first.may_leave other → ⊥) → ⊥
  silent_and_left e never = never e.leaves

  -- 21 File comes only if the store has failed; it holds what it held, or the text
  pub unkept_where_no_store_failed : EndsUnkept unit Leaves first status last → last.failed.journal ≡ false → ⊥
  unkept_where_no_store_failed e unfailed = cc

  pub unkept_and_another_left : (e : EndsUnkept unit Leaves first status last) → (first.may_leave other → ⊥)
      → other ≢ rows_text e.bytes → ⊥
  unkept_and_another_left e never differs = elim e.leaves [ inl left ↦ never left | inr is ↦ differs is ]

  pub unkept_and_another_text : (e : EndsUnkept unit Leaves first status last) → first.streams.journal ≡ Some []
      → last.streams.journal ≡ Some other → other ≢ [] → other ≢ rows_text e.bytes → ⊥
  unkept_and_another_text e empty holds some differs =
      let file = rw (empty, holds) at e.file in elim file [ inl keeps ↦ some keeps | inr becomes ↦ differs becomes ]

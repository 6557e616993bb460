-- The parts of a desk whose journal is in a store.
use Rattle.std.specs.Prelude.{ℕ, Bool, List, Option}
use Rattle.dali_drive.specs.declared.store_desk.StoreDesk.{StoreDesk}
use Rattle.dali_drive.specs.Desks.{Look, look_of, failures}
use Rattle.dali_drive.specs.Transcript.{shown}

-- by what its store, its link there and back and its replies show
abbrev pub store_look : {I L S O : Type 0} → (S → Option (List ℕ)) → (S → Bool) → (S → List ℕ → Type 0)
    → (L → Option (List ℕ)) → (L → Bool) → (I → Option (List ℕ)) → (I → Bool) → (O → Option (List ℕ)) → (O → Bool)
    → StoreDesk I L S O → Look
store_look seen store_failed may_leave link_held link_failed left source_failed out_held out_failed desk =
    look_of (shown (seen desk.journal) (link_held desk.link_out) (left desk.link_in) (out_held desk.out))
    (failures (store_failed desk.journal) (link_failed desk.link_out) (source_failed desk.link_in)
    (out_failed desk.out))
    (may_leave desk.journal)

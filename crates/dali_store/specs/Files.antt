-- The contract of a store in a file.
use Rattle.std.specs.Prelude.{◌≡◌, ℕ, Bool, List, true, false}
use Rattle.dali_store.specs.declared.file_store.FileStore.{FileStore}
use Rattle.dali_store.specs.declared.file_store.Kind.{Kind}
use Rattle.dali_store.specs.declared.file_store.Kind.TheVariants.{Journal, Text}

abbrev pub has_failed : {R : Type 0} → FileStore R → Bool
has_failed store = store.failed

abbrev pub is_of_journal : Kind → Bool
is_of_journal (Journal file) = true
is_of_journal Text = false

abbrev pub is_made : Kind → Bool
is_made (Journal file) = file.is_made
is_made Text = true

-- it is in the file of this name, as the store of a journal or else of a text, which is made if there is none or not,
-- and hasn't failed
abbrev pub IsIn : {R : Type 0} → Bool → Bool → List ℕ → FileStore R → Type 0
IsIn of_journal made name store =
    (is_of_journal store.kind ≡ of_journal) × (is_made store.kind ≡ made) × (store.name.now ≡ name)
    × (store.failed ≡ false)

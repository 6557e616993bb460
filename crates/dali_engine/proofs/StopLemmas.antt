-- The bytes that a stop leaves load again as the same journal.
use Rattle.std.proofs.Common.{◌≡◌, ◌≢◌, refl, sym, ap, ◌∙◌, subst, ℕ, ◌<◌, List, [], ◌++◌, length, take, drop, arith}
use Rattle.std.proofs.lemmas.List.{take-append-drop, length-drop}
use Rattle.dali_journal.specs.declared.record.Code.TheVariants.{Done}
use Rattle.dali_journal.specs.declared.record.Record.{Record}
use Rattle.dali_journal.specs.declared.record.Record.TheVariants.{Ended}
use Rattle.dali_journal.specs.declared.version.Version.{Version}
use Rattle.dali_journal.specs.declared.version.Version.TheVariants.{Two}
use Rattle.dali_journal.specs.Spelling.{spelling, journal_spelling, IsRecord}
use Rattle.dali_journal.specs.Reading.{IsCutOf}
use Rattle.dali_journal.specs.JournalState.{JournalState, IsJournal}
use Rattle.dali_journal.specs.Loading.{IsLoaded, IsLoadable}
use Rattle.dali_journal.proofs.LoadLemmas.{loads_again}
use Rattle.dali_journal.proofs.TornLemmas.{torn_no_fault}

-- nothing of a record, which is a proper front of it
pub cut_of_none : (last : Record) × IsCutOf Two [] last
cut_of_none = (Ended Done, (tt, spelling Two (Ended Done), (λ e. cc), refl))

-- the first bytes of a record that has more
pub cut_of_some : (entry : Record) (spelled : List ℕ) (reached : ℕ) → spelled ≡ spelling Two entry
    → IsRecord Two entry
    → reached < length (spelling Two entry) → (last : Record) × IsCutOf Two (take reached spelled) last
cut_of_some entry spelled reached same ranged more =
    (entry, (ranged, drop reached spelled, some, sym same ∙ sym (take-append-drop reached spelled)))
  where
    some : drop reached spelled ≢ []
    some none =
        let long = ap (λ (bytes : List ℕ). length bytes) none in
        let all = ap (λ (bytes : List ℕ). length bytes) same in omega (arith, length-drop reached spelled)

-- the journal that is loaded from a journal's bytes with a cut record after them
pub left_same : (journal again : JournalState) (last : Record) (cut bytes : List ℕ) (limit len : ℕ) (version : Version)
    → IsJournal journal → IsCutOf Two cut last → limit ≡ journal.limit
    → bytes ≡ journal_spelling Two journal.records ++ cut → IsLoaded limit bytes again len version
    → (again.records ≡ journal.records) × (again.limit ≡ journal.limit)
left_same journal again last cut bytes limit len version is cut_is same spelled loaded =
    let all = loads_again journal last cut is cut_is in
    let one =
    torn_no_fault journal.limit (journal_spelling Two journal.records ++ cut) Two journal.records
    (length (journal_spelling Two journal.records)) all.1 all.2 in
    let there : IsLoadable version (journal_spelling Two journal.records ++ cut) again.records len =
    subst (λ (b : List ℕ). IsLoadable version b again.records len) spelled loaded.2 in
    ((one.2 version again.records len (rw same at loaded.1) there).1, loaded.0 ∙ same)

-- The bytes of a small journal, and what is near them.
use Rattle.std.specs.Prelude.{ℕ, List, [], ◌∷◌, ◌++◌}
use Rattle.dali_bank.specs.Order.{Contents}
use Rattle.dali_journal.specs.declared.record.Record.{Record}
use Rattle.dali_journal.specs.declared.record.Record.TheVariants.{Began}
use Rattle.dali_journal.specs.declared.version.Version.TheVariants.{One, Two}
use Rattle.dali_journal.specs.Spelling.{header, journal_spelling}
use Rattle.dali_journal.specs.JournalState.{JournalState}

-- an order of one byte, begun at this moment
abbrev pub order : Contents
order = record { id = 1; unit = 5; updates = (3, 7) ∷ [] }

abbrev pub begun_at : ℕ → List Record
begun_at moment = Began order moment ∷ []

abbrev pub journal_of : List Record → JournalState
journal_of records = record { records = records; limit = 1; room = 0; numbers = 1 ∷ []; index_room = 0 }

-- its journal in version 2, the same with the first byte of another record after it, and with one byte less
abbrev pub whole : List ℕ
whole = journal_spelling Two (begun_at 7)

abbrev pub with_cut : List ℕ
with_cut = whole ++ 79 ∷ []

abbrev pub bare : List ℕ
bare = header Two

-- its journal in version 1, in which no moment is written, and the same written anew
abbrev pub old : List ℕ
old = journal_spelling One (begun_at 0)

abbrev pub anew : List ℕ
anew = journal_spelling Two (begun_at 0)

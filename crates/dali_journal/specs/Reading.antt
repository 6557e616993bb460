-- The front of bytes, by a version: a record, a proper front of one, or neither.
use Rattle.std.specs.Prelude.{◌≡◌, ◌≢◌, ℕ, List, [], ◌++◌, length}
use Rattle.dali_journal.specs.declared.record.Record.{Record}
use Rattle.dali_journal.specs.declared.version.Version.{Version}
use Rattle.dali_journal.specs.declared.read.Piece.{Piece}
use Rattle.dali_journal.specs.declared.read.Piece.TheVariants.{Whole, Cut, Bad}
use Rattle.dali_journal.specs.Spelling.{spelling, IsRecord}

-- the bytes begin with those of the record
abbrev pub BeginsWith : Version → List ℕ → Record → Type 0
BeginsWith version bytes entry =
    IsRecord version entry × (rest : List ℕ) × (bytes ≡ spelling version entry ++ rest)

-- the bytes are a proper front of those of the record
abbrev pub IsCutOf : Version → List ℕ → Record → Type 0
IsCutOf version bytes entry =
    IsRecord version entry × (more : List ℕ) × (more ≢ []) × (spelling version entry ≡ bytes ++ more)

-- what a piece says of bytes: they begin with a record of this length; they are a proper front of some
-- record's; they are neither
abbrev pub IsRead : Version → List ℕ → Piece → Type 0
IsRead version bytes (Whole entry len) = BeginsWith version bytes entry × (len ≡ length (spelling version entry))
IsRead version bytes Cut = (entry : Record) × IsCutOf version bytes entry
IsRead version bytes Bad = (entry : Record) → (¬ BeginsWith version bytes entry) × (¬ IsCutOf version bytes entry)

-- How a journal is printed: its records, and then how much of a file they are and what they leave to be done.
use Rattle.std.specs.Prelude.{Bool, true, ℕ, List, ◌++◌, codes, decimal, length, reverse}
use Rattle.std.specs.List.{flat_map}
use Rattle.dali_journal.specs.declared.record.Record.{Record}
use Rattle.dali_journal.specs.declared.record.Record.TheVariants as records
use Rattle.dali_journal.specs.declared.standing.Standing.{Standing}
use Rattle.dali_journal.specs.declared.standing.Standing.TheVariants.{Idle, Began, Opened, Left}
use Rattle.dali_journal.specs.declared.version.Version.{Version}
use Rattle.dali_journal.specs.Spelling.{version_number}
use Rattle.dali_journal.specs.Orders.{orders_of}
use Rattle.dali_journal.specs.Sentence.{standing_of}
use Rattle.dali_text.specs.OrderLines.{update_lines}
use Rattle.dali_text.specs.RecordText.{record_text}

-- a record by itself
abbrev pub record_line : Record → List ℕ
record_line entry = record_text entry ++ codes "\n"

-- a record, and if updates are wanted and it begins an order, that order's updates after it
abbrev pub record_lines : Bool → Record → List ℕ
record_lines true (records.Began order moment) = record_line (records.Began order moment) ++ update_lines order
record_lines with_updates entry = record_line entry

abbrev pub standing_text : Standing → List ℕ
standing_text Idle = codes "idle"
standing_text (Began order) = codes "began"
standing_text (Opened order) = codes "opened"
standing_text (Left unit) = codes "left " ++ decimal unit

-- how many bytes of how many count, how many orders they begin, and the standing that they leave
abbrev pub counts_line : ℕ → ℕ → ℕ → Standing → List ℕ
counts_line counted total orders standing =
    codes "counts " ++ decimal counted ++ codes " of " ++ decimal total ++ codes " orders " ++ decimal orders
    ++ codes " standing " ++ standing_text standing ++ codes "\n"

-- the version of the bytes
abbrev pub version_line : Version → List ℕ
version_line version = codes "version " ++ decimal (version_number version) ++ codes "\n"

-- the records, the oldest first, and what counts; records are listed newest first
abbrev pub records_text : Bool → List Record → ℕ → ℕ → List ℕ
records_text with_updates records counted total =
    flat_map (record_lines with_updates) (reverse records)
    ++ counts_line counted total (length (orders_of records)) (standing_of records)

-- the version, and the records, with the updates of each begun order or without
abbrev pub journal_text : Bool → Version → List Record → ℕ → ℕ → List ℕ
journal_text with_updates version records counted total =
    version_line version ++ records_text with_updates records counted total

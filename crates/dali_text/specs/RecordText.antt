-- How a record of the journal is printed.
use Rattle.std.specs.Prelude.{ℕ, List, ◌++◌, codes, decimal, length}
use Rattle.dali_journal.specs.declared.record.Record.{Record}
use Rattle.dali_journal.specs.declared.record.Record.TheVariants.{Began, Opened, Ended, Closed}
use Rattle.dali_journal.specs.Spelling.{code_name, code_number}

-- a record, without a line feed
abbrev pub record_text : Record → List ℕ
record_text (Began order moment) =
    codes "B order " ++ decimal order.id ++ codes " unit " ++ decimal order.unit ++ codes " at " ++ decimal moment
    ++ codes " bytes " ++ decimal (length order.updates)
record_text (Opened unit) = codes "O unit " ++ decimal unit
record_text (Ended code) = codes "E " ++ decimal (code_number code) ++ codes " " ++ code_name code
record_text (Closed unit) = codes "C unit " ++ decimal unit

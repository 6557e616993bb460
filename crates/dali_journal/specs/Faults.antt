-- Why there is no journal, and how a fault is reported.
use Rattle.std.specs.Prelude.{ℕ, List, codes}
use Rattle.dali_journal.specs.declared.fault.JournalFault.{JournalFault}
use Rattle.dali_journal.specs.declared.fault.JournalFault.TheVariants.{Limit, NoMemory, Record as NoRecord}
use Rattle.dali_journal.specs.declared.fault.JournalFault.TheVariants.{Sequence, Repeated, Full, Header}
use Rattle.dali_journal.specs.JournalState.{IsLimit}

abbrev pub number_of : JournalFault → ℕ
number_of Limit = 1
number_of NoMemory = 2
number_of (NoRecord place) = 3
number_of (Sequence place) = 4
number_of (Repeated place) = 5
number_of (Full place) = 6
number_of Header = 7

abbrev pub name_of : JournalFault → List ℕ
name_of Limit = codes "Limit"
name_of NoMemory = codes "NoMemory"
name_of (NoRecord place) = codes "Record"
name_of (Sequence place) = codes "Sequence"
name_of (Repeated place) = codes "Repeated"
name_of (Full place) = codes "Full"
name_of Header = codes "Header"

-- why no journal is made for at most this many orders
abbrev pub IsNewFault : ℕ → JournalFault → Type 0
IsNewFault limit Limit = ¬ IsLimit limit
IsNewFault limit NoMemory = IsLimit limit
IsNewFault limit other = ⊥

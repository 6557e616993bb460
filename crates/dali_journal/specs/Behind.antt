-- A journal after older ones that are at rest: its records are in front of theirs in a list, the newest first.
use Rattle.std.specs.Prelude.{◌≡◌, ℕ, ◌+◌, List, ◌++◌, length, true, false, ⊤}
use Rattle.dali_journal.specs.declared.behind.JoinFault.{JoinFault}
use Rattle.dali_journal.specs.declared.behind.JoinFault.TheVariants.{Repeated, NoMemory}
use Rattle.dali_journal.specs.declared.record.Record.{Record}
use Rattle.dali_journal.specs.declared.standing.Standing.TheVariants.{Idle}
use Rattle.dali_journal.specs.declared.version.Version.{Version}
use Rattle.dali_journal.specs.Sentence.{standing_of, is_begun}
use Rattle.dali_journal.specs.Orders.{orders_of, kept_of, moment_of}
use Rattle.dali_journal.specs.JournalState.{AreKept}

-- a number isn't begun in both; none is
abbrev pub IsApart : List Record → List Record → ℕ → Type 0
IsApart own older id = is_begun id own ≡ true → is_begun id older ≡ false

abbrev pub AreApart : List Record → List Record → Type 0
AreApart own older = (id : ℕ) → IsApart own older id

-- why they are no journal together: a number that both have begun
abbrev pub IsJoinFault : JoinFault → List Record → List Record → Type 0
IsJoinFault (Repeated id) own older = (is_begun id own ≡ true) × (is_begun id older ≡ true)
IsJoinFault NoMemory own older = ⊤

-- The records after older ones are a journal by themselves, for as many orders as are left to it, and have the standing
-- of the whole.
abbrev pub OwnRecordsStandAlone : Type 0
OwnRecordsStandAlone =
    (version : Version) (limit : ℕ) (own older : List Record) → standing_of older ≡ Idle
    → AreKept version (length (orders_of older) + limit) (own ++ older)
    → AreKept version limit own × (standing_of (own ++ older) ≡ standing_of own)
    × (length (orders_of (own ++ older)) ≡ length (orders_of older) + length (orders_of own))

-- No number is in both, and of each number that the older ones have the whole keeps what they have kept: the order, how
-- it ended, and its moment. Of all others it keeps what its own records have kept.
abbrev pub OlderOrdersAreKept : Type 0
OlderOrdersAreKept =
    (version : Version) (limit : ℕ) (own older : List Record) (id : ℕ) → standing_of older ≡ Idle
    → AreKept version limit (own ++ older)
    → (is_begun id older ≡ true → (is_begun id own ≡ false) × (kept_of id (own ++ older) ≡ kept_of id older)
    × (moment_of id (own ++ older) ≡ moment_of id older))
    × (is_begun id older ≡ false → (kept_of id (own ++ older) ≡ kept_of id own)
    × (moment_of id (own ++ older) ≡ moment_of id own))

-- The findings of reads of bank 1 of a unit, where 'shows location byte' says that the location shows the byte.
--
-- How a byte is shown is left open: for the verdict of a session the world shows it, for a record of the journal the
-- frames that were sent, and for the promises of the writer again the world.
use Rattle.std.specs.Prelude.{◌≡◌, ℕ, ◌<◌, ◌≤◌, List, ⊤}
use Rattle.std.specs.List.{AllByRecursion}
use Rattle.dali_write.specs.declared.ask.Verdict.{Verdict}
use Rattle.dali_write.specs.declared.ask.Verdict.TheVariants.{MayOpen, Done, Short, Format, Doubt}
use Rattle.dali_write.specs.declared.ask.Verdict.TheVariants.{Closed}
use Rattle.dali_write.specs.Plans.{greatest}

-- bank 1 reaches to the greatest location of the updates, and if that is 13h or above the content format is 0003h
abbrev pub Suits : (ℕ → ℕ → Type 0) → List (ℕ × ℕ) → Type 0
Suits shows updates = (last : ℕ) × shows 0x00 last × (greatest updates ≤ last) × (0x13 ≤ greatest updates
    → shows 0x11 0x00 × shows 0x12 0x03)

-- bank 1 ends before the greatest location of the updates
abbrev pub IsTooShort : (ℕ → ℕ → Type 0) → List (ℕ × ℕ) → Type 0
IsTooShort shows updates = (last : ℕ) × shows 0x00 last × (last < greatest updates)

-- an update is at 13h or above, and the content format isn't 0003h
abbrev pub HasOtherFormat : (ℕ → ℕ → Type 0) → List (ℕ × ℕ) → Type 0
HasOtherFormat shows updates =
    (high : ℕ) × (low : ℕ) × shows 0x11 high × shows 0x12 low × (0x13 ≤ greatest updates)
    × ((high ≡ 0x00) × (low ≡ 0x03) → ⊥)

-- the lock byte is FFh, and each update's location shows its byte
abbrev pub IsWritten : (ℕ → ℕ → Type 0) → List (ℕ × ℕ) → Type 0
IsWritten shows updates = shows 0x02 0xFF × AllByRecursion (λ update. shows update.0 update.1) updates

-- The one table of grounds. MayOpen: bank 1 suits the updates. Short, Format: it doesn't. Done: they are written.
-- Doubt and Closed: 'answered' is so, that the unit has answered a read; whatever it answered, it isn't write-enabled
-- then. Other verdicts rest on nothing.
abbrev pub RestsOn : (ℕ → ℕ → Type 0) → Type 0 → List (ℕ × ℕ) → Verdict → Type 0
RestsOn shows answered updates MayOpen = Suits shows updates
RestsOn shows answered updates Done = IsWritten shows updates
RestsOn shows answered updates Short = IsTooShort shows updates
RestsOn shows answered updates Format = HasOtherFormat shows updates
RestsOn shows answered updates Doubt = answered
RestsOn shows answered updates Closed = answered
RestsOn shows answered updates other = ⊤

-- what the verdict of a session rests on: the read that was answered is that of the lock byte
abbrev pub Rests : (ℕ → ℕ → Type 0) → List (ℕ × ℕ) → Verdict → Type 0
Rests shows updates verdict = RestsOn shows ((byte : ℕ) × shows 0x02 byte) updates verdict

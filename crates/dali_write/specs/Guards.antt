-- Which frames a session may want.
use Rattle.std.specs.Prelude.{◌≡◌, ℕ, List, ⊤}
use Rattle.dali_frame.specs.declared.forward.Frame.{Frame}
use Rattle.dali_frame.specs.declared.forward.Frame.TheVariants.{Dtr0, Dtr1, AskDtr0, AskDtr1, Read, Enable, Write}
use Rattle.dali_write.specs.Exchanges.{Exchange}
use Rattle.dali_write.specs.Worlds.{Selects}
use Rattle.dali_write.specs.Touches.{Has}

-- Of the exchanges of the session, the newest comes first. The frame is to the unit alone, or sets DTR0 or DTR1; it
-- enables the unit only if there is something to write; and it writes a byte of these writes only after both registers
-- were asked back, and made sure that the unit has selected its location.
abbrev pub IsGuarded : List (ℕ × ℕ) → ℕ → List Exchange → Frame → Type 0
IsGuarded writes unit told (Dtr0 byte) = ⊤
IsGuarded writes unit told (Dtr1 byte) = ⊤
IsGuarded writes unit told (AskDtr0 to) = to ≡ unit
IsGuarded writes unit told (AskDtr1 to) = to ≡ unit
IsGuarded writes unit told (Read to) = to ≡ unit
IsGuarded writes unit told (Enable to) = (to ≡ unit) × ((location : ℕ) × (byte : ℕ) × Has writes location byte)
IsGuarded writes unit told (Write byte) = (location : ℕ) × Has writes location byte × Selects unit location told
IsGuarded writes unit told _ = ⊥

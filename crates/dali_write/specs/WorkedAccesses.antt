-- Small lists of exchanges and units near the edges of what is promised of accesses and sessions.
use Rattle.std.specs.Prelude.{ℕ, zero, suc, replicate, List, [], ◌∷◌, Option, Some, None}
use Rattle.dali_frame.specs.declared.forward.Frame.{Frame}
use Rattle.dali_frame.specs.declared.forward.Frame.TheVariants.{Dtr0, Dtr1, AskDtr0, AskDtr1, Read}
use Rattle.dali_gear.specs.UnitState.{BankState, UnitState, new_unit}
use Rattle.dali_write.specs.Exchanges.{Exchange}

abbrev pub sent : Frame → Option ℕ → Exchange
sent frame answer = record { frame = frame; answer = answer }

-- one more try of a checked read, that misses when DTR0 is asked back
abbrev pub missed_read : ℕ → ℕ → List Exchange → List Exchange
missed_read unit location told =
    sent (AskDtr0 unit) None ∷ sent (Dtr0 location) None ∷ sent (AskDtr1 unit) (Some 1) ∷ sent (Dtr1 1) None ∷ told

-- this many frames after one that missed
abbrev pub after_a_miss : ℕ → List Exchange
after_a_miss zero = sent (AskDtr1 5) None ∷ []
after_a_miss (suc frames) = sent (Dtr1 1) None ∷ after_a_miss frames

-- a read more, which told this byte
abbrev pub told_more : ℕ → List Exchange → List Exchange
told_more byte told = sent (Read 5) (Some byte) ∷ told

-- three reads from 03h on, which told these bytes, with exchanges before them
abbrev pub three_read : ℕ → ℕ → ℕ → List Exchange → List Exchange
three_read one two three told = told_more three (told_more two (told_more one (sent (Dtr0 0x03) None ∷ told)))

-- this many frames after reads of four locations from 03h on, which told 1, 2, 3 and this byte
abbrev pub after_a_row : ℕ → ℕ → List Exchange
after_a_row byte zero = told_more byte (three_read 1 2 3 [])
after_a_row byte (suc frames) = sent (Dtr1 1) None ∷ after_a_row byte frames

-- a bank of 17 bytes with one fixed location
abbrev pub small_bank : BankState
small_bank = record { bytes = 0x10 ∷ replicate 0x10 0xFF; fixed = 0x07 ∷ [] }

-- another unit before the one that has it
abbrev pub two_units : List UnitState
two_units = new_unit 6 [] [] ∷ new_unit 5 (0x10 ∷ replicate 0x10 0xFF) (0x07 ∷ []) ∷ []

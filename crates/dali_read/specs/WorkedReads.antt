-- Small lists of exchanges and updates near the edges of what is promised of block reads and readings.
use Rattle.std.specs.Prelude.{ℕ, zero, suc, replicate, List, [], ◌∷◌, ◌++◌, Some, None}
use Rattle.dali_frame.specs.declared.forward.Frame.TheVariants.{Dtr0, Dtr1, AskDtr0, AskDtr1, Read}
use Rattle.dali_write.specs.Exchanges.{Exchange}
use Rattle.dali_write.specs.WorkedAccesses.{sent}

-- a try that misses when DTR1 is asked for, and this many of them
abbrev pub missed_try : List Exchange
missed_try = sent (AskDtr1 5) None ∷ sent (Dtr1 0x01) None ∷ []

abbrev pub missed_tries : ℕ → List Exchange
missed_tries zero = []
missed_tries (suc misses) = missed_try ++ missed_tries misses

-- the first four frames of a read of 00h of unit 5, and all seven; bank 1 ends at 77h
abbrev pub four_frames : List Exchange
four_frames =
    sent (AskDtr0 5) (Some 0x00) ∷ sent (Dtr0 0x00) None ∷ sent (AskDtr1 5) (Some 0x01) ∷ sent (Dtr1 0x01) None ∷ []

abbrev pub last_read : List Exchange
last_read =
    sent (AskDtr1 5) (Some 0x01) ∷ sent (AskDtr0 5) (Some 0x01) ∷ sent (Read 5) (Some 0x77) ∷ four_frames

-- a reading of a whole bank that ends at 02h: the block read of 00h, and after it that of 01h and 02h
abbrev pub first_part : List Exchange
first_part =
    sent (AskDtr1 5) (Some 0x01) ∷ sent (AskDtr0 5) (Some 0x01) ∷ sent (Read 5) (Some 0x02) ∷ four_frames

abbrev pub second_part : List Exchange
second_part =
    sent (AskDtr1 5) (Some 0x01) ∷ sent (AskDtr0 5) (Some 0x03) ∷ sent (Read 5) (Some 0x0B)
    ∷ sent (Read 5) (Some 0x0A) ∷ sent (AskDtr0 5) (Some 0x01) ∷ sent (Dtr0 0x01) None
    ∷ sent (AskDtr1 5) (Some 0x01) ∷ sent (Dtr1 0x01) None ∷ []

-- updates at 03h to 05h, at 10h and at 13h, and without the last one
abbrev pub four_updates : List (ℕ × ℕ)
four_updates = (0x03, 7) ∷ (0x04, 8) ∷ (0x05, 9) ∷ (0x10, 7) ∷ []

abbrev pub five_updates : List (ℕ × ℕ)
five_updates = four_updates ++ (0x13, 8) ∷ []

-- this many updates in a row from a location on
abbrev pub row : ℕ → ℕ → List (ℕ × ℕ)
row location zero = []
row location (suc count) = (location, 7) ∷ row (suc location) count

-- this many bytes
abbrev pub filled : ℕ → List ℕ
filled count = replicate count 0xFF

-- updates at 03h, 04h and 13h
abbrev pub three_updates : List (ℕ × ℕ)
three_updates = (0x03, 7) ∷ (0x04, 8) ∷ (0x13, 9) ∷ []

-- a bank that ends at 04h and one that ends at 13h, which has the content format 0003h and has 06h at 04h
abbrev pub small_bank : List ℕ
small_bank = 0x04 ∷ 1 ∷ 0xFF ∷ 7 ∷ 8 ∷ []

abbrev pub other_bank : List ℕ
other_bank = 0x13 ∷ 1 ∷ 0xFF ∷ 7 ∷ 6 ∷ (replicate 12 0 ++ 0x00 ∷ 0x03 ∷ 5 ∷ [])

-- the bytes of a GTIN and of an identification number, and a bank that ends after them
abbrev pub known_bytes : List ℕ
known_bytes = 0x00 ∷ 0x03 ∷ 0xA4 ∷ 0x7D ∷ 0x4E ∷ 0xC3 ∷ 1 ∷ 2 ∷ 3 ∷ 4 ∷ 5 ∷ 6 ∷ 7 ∷ 8 ∷ []

abbrev pub known_bank : List ℕ
known_bank = 0x10 ∷ 1 ∷ 0xFF ∷ known_bytes

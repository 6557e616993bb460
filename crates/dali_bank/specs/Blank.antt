-- Memory bank 1 of a blank unit.
use Rattle.std.specs.Prelude.{ℕ, List, [], ◌∷◌, ◌++◌, replicate}

-- the last location is 77h, the content format at 11h is 0003h, and each other byte is FFh
abbrev pub blank_bank : List ℕ
blank_bank = 0x77 ∷ replicate 16 0xFF ++ (0x00 ∷ 0x03 ∷ []) ++ replicate 101 0xFF

-- How faults are printed, each by its number and its name.
use Rattle.std.specs.Prelude.{ℕ, List, ◌++◌, codes, decimal}

-- a fault of a whole input
abbrev pub fault_line : ℕ → List ℕ → List ℕ
fault_line number name = codes "fault " ++ decimal number ++ codes " " ++ name ++ codes "\n"

-- a fault of something that is there once
abbrev pub single_line : List ℕ → ℕ → List ℕ → List ℕ
single_line what number name = what ++ codes " fault " ++ decimal number ++ codes " " ++ name ++ codes "\n"

-- a fault of something that is counted
abbrev pub counted_line : List ℕ → ℕ → ℕ → List ℕ → List ℕ
counted_line what count number name =
    what ++ codes " " ++ decimal count ++ codes " fault " ++ decimal number ++ codes " " ++ name ++ codes "\n"

-- a fault at a place in what was read
abbrev pub placed_line : List ℕ → ℕ → List ℕ → ℕ → List ℕ
placed_line what number name place =
    what ++ codes " fault " ++ decimal number ++ codes " " ++ name ++ codes " at " ++ decimal place ++ codes "\n"

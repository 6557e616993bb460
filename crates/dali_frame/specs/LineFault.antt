-- The faults of a line: their numbers and names.
use Rattle.std.specs.Prelude.{ℕ, List, codes}
use Rattle.dali_frame.specs.declared.fault.LineFault.{LineFault}
use Rattle.dali_frame.specs.declared.fault.LineFault.TheVariants.{Length, Digit}

-- the fault's number
abbrev pub number_of : LineFault → ℕ
number_of Length = 1
number_of Digit = 2

-- the fault's name
abbrev pub name_of : LineFault → List ℕ
name_of Length = codes "Length"
name_of Digit = codes "Digit"

-- How a unit is printed.
use Rattle.std.specs.Prelude.{ℕ, ◌*◌, ◌==◌, Bool, List, [], ◌++◌, codes, decimal, drop, take, if◌then◌else◌}
use Rattle.std.specs.List.{flat_map, list_all, range_with_len}
use Rattle.dali_frame.specs.Hex.{byte_digits}
use Rattle.dali_gear.specs.UnitState.{UnitState}
use Rattle.dali_text.specs.Digits.{bytes_digits}

-- how many locations a line tells
abbrev pub group_size : ℕ
group_size = 16

-- the locations of a group, of which the last one may be shorter
abbrev pub group_of : ℕ → List ℕ → List ℕ
group_of number bytes = take group_size (drop (group_size * number) bytes)

-- the line of a group from this location on
abbrev pub bytes_line : ℕ → ℕ → List ℕ → List ℕ
bytes_line address first bytes = codes "bank " ++ decimal address ++ codes " " ++ byte_digits first
    ++ codes " " ++ bytes_digits bytes ++ codes "\n"

-- the line of a group, or nothing where each of its bytes is FFh
abbrev pub group_line : ℕ → ℕ → List ℕ → List ℕ
group_line address number bytes =
    if list_all (λ byte. byte == 0xFF) (group_of number bytes)
    then []
    else bytes_line address (group_size * number) (group_of number bytes)

-- whether
abbrev pub yes_or_no : Bool → List ℕ
yes_or_no answer = if answer then codes "yes" else codes "no"

-- DTR0, DTR1 and DTR2
abbrev pub dtrs_text : UnitState → List ℕ
dtrs_text unit = byte_digits unit.dtr0 ++ codes " " ++ byte_digits unit.dtr1 ++ codes " " ++ byte_digits unit.dtr2

-- a unit without its bank
abbrev pub registers_line : UnitState → List ℕ
registers_line unit = codes "unit " ++ decimal unit.address ++ codes " dtr " ++ dtrs_text unit
    ++ codes " enabled " ++ yes_or_no unit.enabled ++ codes "\n"

-- the sixteen groups that a bank may have
unfoldable pub bank_lines : ℕ → List ℕ → List ℕ
bank_lines address bytes = flat_map (λ number. group_line address number bytes) (range_with_len 0 16)

abbrev pub unit_text : UnitState → List ℕ
unit_text unit = registers_line unit ++ bank_lines unit.address unit.bank1.bytes

-- The line that tells why a line is refused.
use Rattle.std.specs.Prelude.{ℕ, List, ◌++◌, Option, Some, None, codes, decimal}
use Rattle.dali_input.specs.Faults.{item_number_of, item_name_of}
use Rattle.dali_text.specs.FaultLines.{single_line}
use Rattle.dali_link_commands.specs.declared.stream.fault.RefusedLine.{RefusedLine}

-- an item by the number of its line, and by its order's number if it has one
abbrev pub item_head : ℕ → Option ℕ → List ℕ
item_head number None = codes "item " ++ decimal number
item_head number (Some order) = codes "item " ++ decimal number ++ codes " order " ++ decimal order

-- a refused item, on the line of this number
abbrev pub item_line : ℕ → RefusedLine → List ℕ
item_line number refused =
    single_line (item_head number refused.order) (item_number_of refused.fault) (item_name_of refused.fault)

-- How orders are printed, and how many there were.
use Rattle.std.specs.Prelude.{ℕ, List, ◌++◌, codes, decimal, length}
use Rattle.std.specs.List.{flat_map}
use Rattle.dali_bank.specs.Order.{Contents}
use Rattle.dali_frame.specs.Hex.{byte_digits}

-- a location and its byte
abbrev pub update_line : ℕ × ℕ → List ℕ
update_line update = byte_digits update.0 ++ codes " " ++ byte_digits update.1 ++ codes "\n"

-- what an order is, under the number of the item that gave it
abbrev pub order_line : ℕ → Contents → List ℕ
order_line number order = codes "item " ++ decimal number ++ codes " order " ++ decimal order.id
    ++ codes " unit " ++ decimal order.unit ++ codes " bytes " ++ decimal (length order.updates) ++ codes "\n"

-- the updates of an order
abbrev pub update_lines : Contents → List ℕ
update_lines order = flat_map update_line order.updates

-- an order with its updates
abbrev pub order_lines : ℕ → Contents → List ℕ
order_lines number order = order_line number order ++ update_lines order

-- how many items were accepted and refused
abbrev pub tally_line : ℕ → ℕ → List ℕ
tally_line accepted refused =
    codes "accepted " ++ decimal accepted ++ codes " refused " ++ decimal refused ++ codes "\n"

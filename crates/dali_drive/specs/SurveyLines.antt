-- The lines that tell what was read of units.
use Rattle.std.specs.Prelude.{◌≡◌, ◌⊎◌, ℕ, ◌++◌, List, [], ◌∷◌, codes, decimal, length}
use Rattle.dali_bank.specs.declared.field.Field.TheVariants.{Gtin, Identification}
use Rattle.dali_bank.specs.Order.{Contents}
use Rattle.dali_frame.specs.Hex.{byte_digits}
use Rattle.dali_read.specs.declared.finding.Finding.{Finding}
use Rattle.dali_read.specs.declared.finding.Finding.TheVariants.{Same, Other, Short, Format}
use Rattle.dali_text.specs.BankLines.{IsRowText}
use Rattle.dali_text.specs.declared.bank_lines.Row.TheVariants.{Of}

abbrev pub unit_head : ℕ → List ℕ
unit_head unit = codes "unit " ++ decimal unit

-- a unit whose bank 1 has this last location
abbrev pub last_head : ℕ → ℕ → List ℕ
last_head unit last = unit_head unit ++ codes " last " ++ byte_digits last

abbrev pub last_line : ℕ → ℕ → List ℕ
last_line unit last = last_head unit last ++ codes "\n"

-- a bank with this last location and these bytes from 03h on; the bytes between them aren't known
abbrev pub bank_with : ℕ → List ℕ → List ℕ
bank_with last more = last ∷ 0xFF ∷ 0xFF ∷ more

-- 00h was read, or with it the locations from 03h to 10h
abbrev pub HasUnitLine : List ℕ → Type 0
HasUnitLine bytes = (length bytes ≡ 1) ⊎ (length bytes ≡ 15)

-- The line of a unit of which these bytes were read: its last location, and if those from 03h to 10h were read, the
-- GTIN and identification number of a bank with them.
abbrev pub IsUnitLine : ℕ → List ℕ → List ℕ → Type 0
IsUnitLine unit [] line = ⊥
IsUnitLine unit (last ∷ []) line = line ≡ last_line unit last
IsUnitLine unit (last ∷ byte ∷ more) line =
    (length more ≡ 13) × (gtin : List ℕ) × (identification : List ℕ)
    × IsRowText (bank_with last (byte ∷ more)) (Of Gtin) gtin
    × IsRowText (bank_with last (byte ∷ more)) (Of Identification) identification
    × (line ≡ last_head unit last ++ codes " gtin " ++ gtin ++ codes " identification " ++ identification ++ codes "\n")

-- this many units answered
abbrev pub units_line : ℕ → List ℕ
units_line count = codes "units " ++ decimal count ++ codes "\n"

-- this many bytes of a unit were read
abbrev pub bytes_line : ℕ → ℕ → List ℕ
bytes_line unit count = unit_head unit ++ codes " bytes " ++ decimal count ++ codes "\n"

abbrev pub silent_line : ℕ → List ℕ
silent_line unit = unit_head unit ++ codes " silent\n"

abbrev pub order_head : Contents → List ℕ
order_head order = codes "order " ++ decimal order.id ++ codes " unit " ++ decimal order.unit

-- what was found of an order
abbrev pub finding_line : Contents → Finding → List ℕ
finding_line order Same = order_head order ++ codes " same\n"
finding_line order (Other location byte) =
    order_head order ++ codes " other " ++ byte_digits location ++ codes " " ++ byte_digits byte ++ codes "\n"
finding_line order Short = order_head order ++ codes " short\n"
finding_line order Format = order_head order ++ codes " format\n"

abbrev pub order_silent_line : Contents → List ℕ
order_silent_line order = order_head order ++ codes " silent\n"

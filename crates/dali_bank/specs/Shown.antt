-- How the bytes of a memory bank are shown as a field's value (profile).
use Rattle.std.specs.Prelude.{◌≡◌, ◌≢◌, ℕ, ◌+◌, ◌<◌, ◌≤◌, List, take, drop, length, replicate, ⊤}
use Rattle.dali_bank.specs.declared.field.Field.{Field}
use Rattle.dali_bank.specs.declared.field.Form.{Form}
use Rattle.dali_bank.specs.declared.field.Form.TheVariants as form
use Rattle.dali_bank.specs.declared.shown.Shown.{Shown}
use Rattle.dali_bank.specs.declared.shown.Shown.TheVariants.{Absent, Unknown, Number, Hex, Text, Raw}
use Rattle.dali_bank.specs.Layout.{row_of, first_of, length_of}
use Rattle.dali_bank.specs.Gtin.{IsGtinNumber}
use Rattle.dali_bank.specs.Numbers.{SpellsNumber}
use Rattle.dali_bank.specs.Spelling.{number, ShowsText, AreFormBytes}

-- the value as which the bytes of a field of this form are shown
abbrev pub ShowsValue : Form → ℕ → List ℕ → Shown → Type 0
ShowsValue form.Gtin size bytes (Number n) = IsGtinNumber n × SpellsNumber size n bytes
ShowsValue form.Identification size bytes Hex = ⊤
ShowsValue (form.Number least most) size bytes (Number n) = AreFormBytes (form.Number least most) size (number n) bytes
ShowsValue form.Text size bytes (Text k) = ShowsText size bytes k
ShowsValue _ size bytes _ = ⊥

-- how the bytes of a field of this form are shown
abbrev pub IsFormShown : Form → ℕ → List ℕ → Shown → Type 0
IsFormShown form size bytes Absent = ⊥
IsFormShown form size bytes Unknown = bytes ≡ replicate size 0xFF
IsFormShown form size bytes Raw = (bytes ≢ replicate size 0xFF) × ((shown : Shown) → ¬ ShowsValue form size bytes shown)
IsFormShown form size bytes shown = (bytes ≢ replicate size 0xFF) × ShowsValue form size bytes shown

-- the bytes of a field in a bank
abbrev pub part_of : Field → List ℕ → List ℕ
part_of field bank = take (length_of field) (drop (first_of field) bank)

-- how a field of a bank is shown
abbrev pub IsShown : List ℕ → Field → Shown → Type 0
IsShown bank field Absent = length bank < first_of field + length_of field
IsShown bank field shown =
    (first_of field + length_of field ≤ length bank)
    × IsFormShown (row_of field).form (length_of field) (part_of field bank) shown

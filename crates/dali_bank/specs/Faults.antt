-- When a draft refuses, and how a fault is reported.
use Rattle.std.specs.Prelude.{◌≡◌, ℕ, List, [], Option, Some, None, IsSome, codes}
use Rattle.dali_bank.specs.declared.field.Field.{Field}
use Rattle.dali_bank.specs.declared.field.Form.{Form}
use Rattle.dali_bank.specs.declared.fault.BankFault.{BankFault}
use Rattle.dali_bank.specs.declared.fault.BankFault.TheVariants.{Unit, Kind, Range, Gtin, Text, Twice, Voltage, Empty}
use Rattle.dali_bank.specs.Layout.{row_of, length_of}
use Rattle.dali_bank.specs.Spelling.{Plain, unknown, number, digits, hex, text, FormTakes, HasFormBytes, HasBytes}
use Rattle.dali_bank.specs.Draft.{Drafted, found_of, VoltagesCross, updates_of}

abbrev pub number_of : BankFault → ℕ
number_of Unit = 1
number_of Kind = 2
number_of Range = 3
number_of Gtin = 4
number_of Text = 5
number_of Twice = 6
number_of Voltage = 7
number_of Empty = 8

abbrev pub name_of : BankFault → List ℕ
name_of Unit = codes "Unit"
name_of Kind = codes "Kind"
name_of Range = codes "Range"
name_of Gtin = codes "Gtin"
name_of Text = codes "Text"
name_of Twice = codes "Twice"
name_of Voltage = codes "Voltage"
name_of Empty = codes "Empty"

-- the fault that tells a value of this kind that breaks its rule: unknown breaks none
abbrev pub rule_fault : Plain → Option BankFault
rule_fault unknown = None
rule_fault (number n) = Some Range
rule_fault (digits s) = Some Gtin
rule_fault (hex s) = Some Text
rule_fault (text s) = Some Text

-- why no bytes stand for the value in a field of this form
abbrev pub IsFormFault : Form → ℕ → Plain → BankFault → Type 0
IsFormFault form size value Kind = ¬ FormTakes form value
IsFormFault form size value fault =
    FormTakes form value × (¬ HasFormBytes form size value) × (rule_fault value ≡ Some fault)

-- why no bytes stand for the value in the field
abbrev pub IsValueFault : Field → Plain → BankFault → Type 0
IsValueFault field value fault = IsFormFault (row_of field).form (length_of field) value fault

-- why a draft does not set the field to the value: the first fault that applies
abbrev pub IsSetFault : Field → Plain → Drafted → BankFault → Type 0
IsSetFault field value draft Twice = HasBytes field value × IsSome (found_of field draft)
IsSetFault field value draft fault = IsValueFault field value fault

-- why a draft makes no order: the first fault that applies
abbrev pub IsFinishFault : Drafted → BankFault → Type 0
IsFinishFault draft Voltage = VoltagesCross draft
IsFinishFault draft Empty = (¬ VoltagesCross draft) × (updates_of draft ≡ [])
IsFinishFault draft _ = ⊥

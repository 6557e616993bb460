-- The faults of what files say: their numbers and their names.
use Rattle.std.specs.Prelude.{ℕ, List, codes}
use Rattle.dali_bank.specs.Faults as bank
use Rattle.dali_input.specs.declared.fault.InputFault.{InputFault}
use Rattle.dali_input.specs.declared.fault.InputFault.TheVariants.{Json, Document, TooBig, Hex, Memory, File}
use Rattle.dali_input.specs.declared.item.ItemFault.{ItemFault}
use Rattle.dali_input.specs.declared.item.ItemFault.TheVariants.{Input, Bank, Shape, Key}

abbrev pub number_of : InputFault → ℕ
number_of Json = 11
number_of Document = 12
number_of TooBig = 13
number_of Hex = 14
number_of Memory = 20
number_of File = 21

abbrev pub name_of : InputFault → List ℕ
name_of Json = codes "Json"
name_of Document = codes "Document"
name_of TooBig = codes "TooBig"
name_of Hex = codes "Hex"
name_of Memory = codes "Memory"
name_of File = codes "File"

abbrev pub item_number_of : ItemFault → ℕ
item_number_of (Input fault) = number_of fault
item_number_of (Bank fault) = bank.number_of fault
item_number_of Shape = 9
item_number_of Key = 10

abbrev pub item_name_of : ItemFault → List ℕ
item_name_of (Input fault) = name_of fault
item_name_of (Bank fault) = bank.name_of fault
item_name_of Shape = codes "Shape"
item_name_of Key = codes "Key"

-- Why no unit or bus is made, and how a fault is reported.
use Rattle.std.specs.Prelude.{◌≡◌, ℕ, ◌+◌, ◌<◌, ◌≤◌, List, [], ◌∷◌, length, slice_index, codes, ⊤}
use Rattle.std.specs.List.{AllByRecursion}
use Rattle.dali_gear.specs.declared.fault.GearFault.{GearFault}
use Rattle.dali_gear.specs.declared.fault.GearFault.TheVariants.{Address, Size, Fixed, NoMemory, SameAddress}

abbrev pub number_of : GearFault → ℕ
number_of Address = 1
number_of Size = 2
number_of Fixed = 3
number_of NoMemory = 4
number_of SameAddress = 5

abbrev pub name_of : GearFault → List ℕ
name_of Address = codes "Address"
name_of Size = codes "Size"
name_of Fixed = codes "Fixed"
name_of NoMemory = codes "NoMemory"
name_of SameAddress = codes "SameAddress"

-- the bytes that bank 1 may have: 17 to 255, and at 00h the last location
pub record IsBank (bytes : List ℕ) : Type 0 where
  pub least : 17 ≤ length bytes
  pub most : length bytes ≤ 255
  pub last : slice_index bytes 0 + 1 ≡ length bytes

-- each location is above the one before it, the first one above the bound
abbrev pub LocationsRiseAbove : ℕ → List ℕ → Type 0
LocationsRiseAbove bound [] = ⊤
LocationsRiseAbove bound (location ∷ locations) = (bound < location) × LocationsRiseAbove location locations

-- the locations that may be fixed in a bank of these bytes: rising, from 03h on, none past the last one
abbrev pub AreFixed : List ℕ → List ℕ → Type 0
AreFixed bytes fixed = LocationsRiseAbove 2 fixed × AllByRecursion (λ location. location < length bytes) fixed

-- why no unit is made of bytes and fixed locations: the first fault that applies
abbrev pub IsUnitFault : ℕ → List ℕ → List ℕ → GearFault → Type 0
IsUnitFault address bytes fixed Address = 63 < address
IsUnitFault address bytes fixed Size = (address ≤ 63) × ¬ IsBank bytes
IsUnitFault address bytes fixed Fixed = (address ≤ 63) × IsBank bytes × ¬ AreFixed bytes fixed
IsUnitFault address bytes fixed NoMemory = (address ≤ 63) × IsBank bytes × AreFixed bytes fixed
IsUnitFault address bytes fixed SameAddress = ⊥

-- why no blank unit is made
abbrev pub IsBlankFault : ℕ → GearFault → Type 0
IsBlankFault address Address = 63 < address
IsBlankFault address NoMemory = address ≤ 63
IsBlankFault address _ = ⊥

-- Units that are write-enabled.
use Rattle.std.specs.Prelude.{Bool, false, Option}
use Rattle.std.specs.Option.{option_map_or}
use Rattle.dali_bus.specs.World.{Gear}

-- there is a unit, and it is write-enabled
abbrev pub is_open : Option Gear → Bool
is_open unit = option_map_or (λ gear. gear.enabled) unit false

use Rattle.std.proofs.Common.{◌≡◌, take, None}
use Rattle.dali_gear.specs.SimState.{world_of}
use Rattle.dali_gear.proofs.sim_bus.is_free.Given as goal

abbrev pub invariant-loop-unit : goal.invariant-loop-unit
invariant-loop-unit l = world_of (take l.unit-index l.units) l.address ≡ None

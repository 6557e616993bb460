use Rattle.std.proofs.Common.{◌≡◌, sym, subst}
use Rattle.std.proofs.lemmas.List.Edits.{map_over_more}
use Rattle.dali_gear.specs.SimState.{unit_powered}
use Rattle.dali_gear.specs.UnitState.{UnitState}
use Rattle.dali_gear.proofs.sim_bus.power_at.Goals as goal

pub loop-unit-preserved : goal.loop-unit-preserved
loop-unit-preserved c =
    let P : UnitState → Type 0 = λ u. c.power_where.new.unit ≡ unit_powered c.args.address u in
    let after = subst P (sym c.unit-item.is) c.power_where.ensures in
    rw after
    (map_over_more (unit_powered c.args.address) c.args.units.now c.loop-unit.units c.loop-unit.unit-index
    c.unit-item.result c.loop-unit-test.true c.loop-unit.invariant c.unit-item.is)

use Rattle.std.proofs.Common.{◌≡◌, ◌++◌, arith, take, drop, length}
use Rattle.dali_gear.proofs.SimLemmas.{written_back, AreApart-map}
use Rattle.dali_gear.proofs.sim_bus.SimBusBus.power.Goals as goal
use Rattle.dali_gear.proofs.BankLemmas.{power_bank, banks_after}
use Rattle.dali_gear.specs.SimState.{AreApart, AreBanks}
use Rattle.dali_gear.specs.SimSteps.{power_keeps}

pub invariant_of-self : goal.invariant_of-self
invariant_of-self c =
    let lent : c.deref_mut.result.now ≡ c.self.inside.units.items.items = c.deref_mut.ensures.value in
    let before : AreApart c.deref_mut.result.now × AreBanks c.deref_mut.result.now = rw lent c.self.invariant in
    let back : take c.self.inside.units.items.len
    (c.power_at.new.units ++ drop (length c.power_at.new.units) c.self.inside.units.items.items)
    ≡ c.power_at.new.units
    = written_back c.power_at.new.units c.self.inside.units.items.items c.self.inside.units.items.len
    (omega arith) (omega arith) in
    let after : AreApart c.power_at.new.units × AreBanks c.power_at.new.units
    = rw c.power_at.ensures (
      AreApart-map _ (power_keeps c.args.address) c.deref_mut.result.now before.0,
      banks_after _ (power_bank c.args.address) c.deref_mut.result.now before.1,
    ) in
    rw back after

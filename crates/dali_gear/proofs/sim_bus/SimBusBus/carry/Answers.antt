use Rattle.std.proofs.Common.{◌≡◌, ◌++◌, arith, take, drop, length}
use Rattle.dali_gear.proofs.SimLemmas.{written_back, AreApart-map}
use Rattle.dali_gear.proofs.sim_bus.SimBusBus.carry.Goals as goal
use Rattle.dali_gear.proofs.BankLemmas.{fate_bank, banks_after}
use Rattle.dali_gear.specs.SimState.{AreApart, AreBanks}
use Rattle.dali_gear.specs.SimSteps.{fate_keeps}

pub invariant_of-self : goal.invariant_of-self
invariant_of-self c =
    let lent : c.deref_mut.result.now ≡ c.self.inside.units.items.items = c.deref_mut.ensures.value in
    let before : AreApart c.deref_mut.result.now × AreBanks c.deref_mut.result.now = rw lent c.self.invariant in
    let back : take c.self.inside.units.items.len
    (c.carry_to-answer.new.units ++ drop (length c.carry_to-answer.new.units) c.self.inside.units.items.items)
    ≡ c.carry_to-answer.new.units
    = written_back c.carry_to-answer.new.units c.self.inside.units.items.items c.self.inside.units.items.len
    (omega arith) (omega arith) in
    let after : AreApart c.carry_to-answer.new.units × AreBanks c.carry_to-answer.new.units
    = rw c.carry_to-answer.ensures.after (
      AreApart-map _ (fate_keeps c.take_fate-fate.result c.args.frame.now) c.deref_mut.result.now before.0,
      banks_after _ (fate_bank c.take_fate-fate.result c.args.frame.now) c.deref_mut.result.now before.1,
    ) in
    rw back after

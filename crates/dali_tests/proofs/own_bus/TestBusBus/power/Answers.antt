use Rattle.dali_write.proofs.LoneUnitLemmas.{loses_power, keeps_power}
use Rattle.dali_tests.proofs.own_bus.TestBusBus.power.Goals as goal

pub returns-then-address-eq9 : goal.returns-then-address-eq9
returns-then-address-eq9 c = rw c.if-address-eq9.true (loses_power _ _)

pub returns-else-address-eq9 : goal.returns-else-address-eq9
returns-else-address-eq9 c = keeps_power _ _ _ c.if-address-eq9.false

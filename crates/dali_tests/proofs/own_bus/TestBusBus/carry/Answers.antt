use Rattle.dali_write.proofs.LoneUnitLemmas.{hears_dtr0, hears_dtr1, tells_dtr0, tells_dtr1}
use Rattle.dali_tests.proofs.own_bus.TestBusBus.carry.Goals as goal

pub returns-in-Dtr0 : goal.returns-in-Dtr0
returns-in-Dtr0 c = rw c.in-Dtr0.is (hears_dtr0 _ _ _)

pub returns-in-Dtr1 : goal.returns-in-Dtr1
returns-in-Dtr1 c = rw c.in-Dtr1.is (hears_dtr1 _ _ _)

pub returns-in-AskDtr0 : goal.returns-in-AskDtr0
returns-in-AskDtr0 c = rw c.in-AskDtr0.is (tells_dtr0 _ _ _ c.if-to-eq9.true)

pub returns-in-AskDtr1 : goal.returns-in-AskDtr1
returns-in-AskDtr1 c = rw c.in-AskDtr1.is (tells_dtr1 _ _ _ c.if-to-eq9-2.true)

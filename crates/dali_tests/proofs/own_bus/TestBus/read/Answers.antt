use Rattle.dali_write.proofs.LoneUnitLemmas.{reads_bank_0, reads_bank_1}
use Rattle.dali_tests.proofs.own_bus.TestBus.read.Goals as goal

pub returns-in-0-eq0 : goal.returns-in-0-eq0
returns-in-0-eq0 c = rw (c.in-0-eq0.is-0, c.in-0-eq0.is-1) reads_bank_0

pub returns-in-1-eq0 : goal.returns-in-1-eq0
returns-in-1-eq0 c = rw (c.in-1-eq0.is-0, c.in-1-eq0.is-1) reads_bank_1

use Rattle.dali_write.proofs.RestLemmas.{opened_rests, closing_rests}
use Rattle.dali_write.proofs.FreshRestLemmas.{fresh_rests}
use Rattle.dali_write.proofs.ReadLemmas.{bytes_are_read}
use Rattle.dali_write.proofs.laws.verdicts_rest_on_reads.Goals as goal

pub returns-clause-opened : goal.returns-clause-opened
returns-clause-opened c = opened_rests

pub returns-clause-fresh : goal.returns-clause-fresh
returns-clause-fresh c = fresh_rests

pub returns-clause-closing : goal.returns-clause-closing
returns-clause-closing c = closing_rests

pub returns-clause-reading : goal.returns-clause-reading
returns-clause-reading c = bytes_are_read

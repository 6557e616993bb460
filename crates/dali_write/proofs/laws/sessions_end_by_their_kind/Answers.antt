use Rattle.dali_write.proofs.KindLemmas.{fresh_ends, opened_ends, closing_ends, reading_ends, block_ends}
use Rattle.dali_write.proofs.laws.sessions_end_by_their_kind.Goals as goal

pub returns-clause-fresh : goal.returns-clause-fresh
returns-clause-fresh c = fresh_ends

pub returns-clause-opened : goal.returns-clause-opened
returns-clause-opened c = opened_ends

pub returns-clause-closing : goal.returns-clause-closing
returns-clause-closing c = closing_ends

pub returns-clause-reading : goal.returns-clause-reading
returns-clause-reading c = reading_ends

pub returns-clause-block : goal.returns-clause-block
returns-clause-block c = block_ends

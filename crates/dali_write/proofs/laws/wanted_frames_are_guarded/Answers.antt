use Rattle.dali_write.specs.Plans.{read_length, read_all, read_block}
use Rattle.dali_write.proofs.FreshLemmas.{calm_guarded, length_calm, all_calm, one_calm}
use Rattle.dali_write.proofs.GuardLemmas.{opened_guarded, closing_guarded}
use Rattle.dali_write.proofs.laws.wanted_frames_are_guarded.Goals as goal

pub returns-clause-opened : goal.returns-clause-opened
returns-clause-opened c = opened_guarded

pub returns-clause-fresh : goal.returns-clause-fresh
returns-clause-fresh c = λ told unit pace updates frame.
    calm_guarded unit (read_length pace updates) told frame (length_calm unit pace updates)

pub returns-clause-closing : goal.returns-clause-closing
returns-clause-closing c = closing_guarded

pub returns-clause-reading : goal.returns-clause-reading
returns-clause-reading c = λ told unit frame. calm_guarded unit read_all told frame (all_calm unit)

pub returns-clause-block : goal.returns-clause-block
returns-clause-block c = λ told unit block frame.
    calm_guarded unit (read_block block) told frame (one_calm unit block)

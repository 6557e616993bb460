use Rattle.dali_write.specs.declared.access.Access.TheVariants.{ReadFrom}
use Rattle.dali_write.specs.Requests.{block}
use Rattle.dali_write.proofs.MissLemmas.{failed_misses, failure_misses, walk_misses_in}
use Rattle.dali_write.proofs.TurnLemmas.{task_turn}
use Rattle.dali_write.proofs.laws.misses_are_those_of_the_tries.Goals as goal

pub returns-clause-failed : goal.returns-clause-failed
returns-clause-failed c = failed_misses

pub returns-clause-unread : goal.returns-clause-unread
returns-clause-unread c = λ unit location told f. failure_misses unit (ReadFrom (block location 1)) told f

pub returns-clause-walk : goal.returns-clause-walk
returns-clause-walk c = walk_misses_in

pub returns-clause-turn : goal.returns-clause-turn
returns-clause-turn c = task_turn

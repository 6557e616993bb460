use Rattle.dali_laws.specs.Joined.{joined}
use Rattle.dali_laws.proofs.JoinLemmas.{joined_sittings}
use Rattle.dali_laws.proofs.StayLemmas.{stay_right, trace_right}
use Rattle.dali_laws.proofs.laws.every_moment_of_a_stay_is_right.Goals as goal

pub returns-clause-trace : goal.returns-clause-trace
returns-clause-trace c = trace_right

pub returns-clause-part : goal.returns-clause-part
returns-clause-part c = stay_right

pub returns-clause-sittings : goal.returns-clause-sittings
returns-clause-sittings c = λ start sittings stay follow is.
    let one = joined_sittings start sittings follow in stay_right start (joined sittings) stay one.0 one.1 is

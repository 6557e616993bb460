use Rattle.dali_laws.proofs.StayLemmas.{ready_at_rest, ready_begins}
use Rattle.dali_laws.proofs.laws.each_rest_suits_the_next_stay.Goals as goal

pub returns-clause-ready : goal.returns-clause-ready
returns-clause-ready c = ready_at_rest

pub returns-clause-begins : goal.returns-clause-begins
returns-clause-begins c = ready_begins

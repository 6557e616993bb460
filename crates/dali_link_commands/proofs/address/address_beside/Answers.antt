use Rattle.std.proofs.Common.{rules, inr}
use Rattle.dali_link_commands.proofs.address.address_beside.Goals as goal

pub returns-in-Err-clause-carried_out : goal.returns-in-Err-clause-carried_out
returns-in-Err-clause-carried_out g c = rw c.in-Some.is (inr (
  λ none. cc,
  (c.in-Err.problem.fault, c.in-Err.ensures.why, search rules, c.tell.ensures.told),
))

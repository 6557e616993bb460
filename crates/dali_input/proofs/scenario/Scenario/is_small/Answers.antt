use Rattle.std.proofs.Common.{arith}
use Rattle.std.proofs.lemmas.Bool.{lt-leb}
use Rattle.dali_input.proofs.ValueLemmas.{sum_by_of_map}
use Rattle.dali_input.proofs.scenario.Scenario.is_small.Goals as goal

pub returns-else-count_events-from : goal.returns-else-count_events-from
returns-else-count_events-from c = (
  λ yes.
      let no = rw (lt-leb c.count_events.result c.from.result c.if-count_events-from.false) at yes in
      cc,
  λ small.
      let few = rw sum_by_of_map at small.events in
      let sum = rw c.deref.ensures.value at c.count_events.ensures in
      absurd (omega (arith, few, sum, c.if-count_events-from.false, c.from.ensures)),
)

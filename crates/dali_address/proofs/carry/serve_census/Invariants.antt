use Rattle.dali_address.specs.Counting.{left_of, IsTaking}
use Rattle.dali_address.proofs.carry.serve_census.Given as goal

abbrev pub invariant-loop-call : goal.invariant-loop-call
invariant-loop-call g l = record {
  taking : IsTaking l.care (g.B.AddressBus.units l.fn.bus) (g.B.AddressBus.units l.bus) l.census;
}

abbrev pub decreases-loop-call : goal.decreases-loop-call
decreases-loop-call g l = left_of l.census

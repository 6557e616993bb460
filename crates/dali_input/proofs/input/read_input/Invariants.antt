use Rattle.std.proofs.Common.{◌≡◌, ◌-◌, ◌≤◌, length}
use Rattle.std.specs.Option.{is_some}
use Rattle.std.specs.Io.KnownBytes.{Consumes}
use Rattle.dali_input.proofs.input.read_input.Given as goal

abbrev pub invariant-loop-chunk : goal.invariant-loop-chunk
invariant-loop-chunk g l = record {
  consumed : Consumes (g.R.Read.remaining l.initial.input.reader) (g.R.Read.remaining l.input.reader) l.bytes.items;
  bounded : length l.bytes.items ≤ l.most;
  unfailed : is_some l.input.cause ≡ is_some l.initial.input.cause;
}

abbrev pub decreases-loop-chunk : goal.decreases-loop-chunk
decreases-loop-chunk g l = l.most - length l.bytes.items

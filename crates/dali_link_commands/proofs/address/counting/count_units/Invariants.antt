use Rattle.std.proofs.Common.{◌≡◌, false}
use Rattle.dali_address.specs.Counting.{left_of}
use Rattle.dali_drive.specs.Transcript.{link_shown}
use Rattle.dali_link_commands.proofs.CountLemmas.{IsCounting}
use Rattle.dali_link_commands.proofs.address.counting.count_units.Given as goal

abbrev pub invariant-loop-call : goal.invariant-loop-call
invariant-loop-call g l = record {
  counting : IsCounting l.care l.census
      (link_shown (g.L.Sink.held l.fn.link_out) (g.I.Source.left l.fn.link_in))
      (link_shown (g.L.Sink.held l.link_out) (g.I.Source.left l.link_in));
  link_out : g.L.Sink.failed l.link_out ≡ false;
  link_in : g.I.Source.failed l.link_in ≡ false;
}

abbrev pub decreases-loop-call : goal.decreases-loop-call
decreases-loop-call g l = left_of l.census

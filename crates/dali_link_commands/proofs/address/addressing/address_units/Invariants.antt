use Rattle.std.proofs.Common.{◌≡◌, None, false}
use Rattle.dali_address.specs.Told.{left_of}
use Rattle.dali_drive.specs.Transcript.{shown}
use Rattle.dali_link_commands.proofs.MoveLemmas.{IsGoing}
use Rattle.dali_link_commands.proofs.address.addressing.address_units.Given as goal

abbrev pub invariant-loop-call : goal.invariant-loop-call
invariant-loop-call g l = record {
  going : IsGoing l.fn.task l.run
      (shown None (g.L.Sink.held l.fn.link_out) (g.I.Source.left l.fn.link_in) (g.O.Sink.held l.fn.out))
      (shown None (g.L.Sink.held l.link_out) (g.I.Source.left l.link_in) (g.O.Sink.held l.out));
  link_out : g.L.Sink.failed l.link_out ≡ false;
  link_in : g.I.Source.failed l.link_in ≡ false;
  out : g.O.Sink.failed l.out ≡ false;
}

abbrev pub decreases-loop-call : goal.decreases-loop-call
decreases-loop-call g l = left_of l.run

use Rattle.std.proofs.Common.{◌≡◌, false}
use Rattle.dali_write.specs.Told.{frames_left}
use Rattle.dali_drive.specs.Transcript.{link_shown}
use Rattle.dali_drive.specs.UnitRead.{BlockSoFar}
use Rattle.dali_drive.proofs.reading.read_block.Given as goal

abbrev pub invariant-loop-frame : goal.invariant-loop-frame
invariant-loop-frame g l = record {
  so_far : BlockSoFar l.fn.unit l.fn.block l.session
      (link_shown (g.L.Sink.held l.fn.link_out) (g.I.Source.left l.fn.link_in))
      (link_shown (g.L.Sink.held l.link_out) (g.I.Source.left l.link_in));
  link_out : g.L.Sink.failed l.link_out ≡ false;
  link_in : g.I.Source.failed l.link_in ≡ false;
}

abbrev pub decreases-loop-frame : goal.decreases-loop-frame
decreases-loop-frame g l = frames_left l.session

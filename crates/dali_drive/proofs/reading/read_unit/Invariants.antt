use Rattle.std.proofs.Common.{◌≡◌, ◌-◌, length, false}
use Rattle.dali_read.specs.Places.{course_of}
use Rattle.dali_drive.specs.Transcript.{link_shown}
use Rattle.dali_drive.specs.UnitRead.{ReadSoFar}
use Rattle.dali_drive.proofs.reading.read_unit.Given as goal

abbrev pub invariant-loop-block : goal.invariant-loop-block
invariant-loop-block g l = record {
  read : ReadSoFar l.fn.unit (course_of l.fn.places) l.bytes.items
      (link_shown (g.L.Sink.held l.fn.link_out) (g.I.Source.left l.fn.link_in))
      (link_shown (g.L.Sink.held l.link_out) (g.I.Source.left l.link_in));
  link_out : g.L.Sink.failed l.link_out ≡ false;
  link_in : g.I.Source.failed l.link_in ≡ false;
}

abbrev pub decreases-loop-block : goal.decreases-loop-block
decreases-loop-block g l = 255 - length l.bytes.items

use Rattle.std.proofs.Common.{◌≡◌}
use Rattle.std.specs.Io.KnownBytes.{Keeps}
use Rattle.dali_drive.proofs.std_streams.StdSinkSink.flush.Given as goal

abbrev pub invariant-loop : goal.invariant-loop
invariant-loop g l = record {
  bytes : Keeps (g.W.Write.contents l.fn.self.writer) (g.W.Write.contents l.self.writer);
  cause : l.self.cause ≡ l.fn.self.cause;
}

use Rattle.std.proofs.Common.{◌≡◌}
use Rattle.dali_text.specs.Output.{has_failed}
use Rattle.std.specs.Io.KnownBytes.{Keeps}
use Rattle.dali_text.proofs.output.Output.write.Given as goal

abbrev pub invariant-loop : goal.invariant-loop
invariant-loop g l = record {
  bytes : Keeps (g.W.Write.contents l.fn.self.writer) (g.W.Write.contents l.self.writer);
  failed : has_failed l.self ≡ has_failed l.fn.self;
}

use Rattle.std.proofs.Common.{◌≡◌, List, ℕ, length}
use Rattle.std.specs.Io.KnownBytes.{Consumes}
use Rattle.dali_drive.specs.Lines.{IsInLine}
use Rattle.dali_link_commands.specs.LineBuffers.{Holds}
use Rattle.dali_link_commands.proofs.stream.reading.read_line.Given as goal

abbrev pub invariant-loop : goal.invariant-loop
invariant-loop g l = record {
  line : List ℕ;
  inside : IsInLine line;
  holds : Holds l.buffer line;
  taken : Consumes (g.R.Source.left l.fn.source) (g.R.Source.left l.source) line;
  count : length line ≡ l.counter;
}

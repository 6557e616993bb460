use Rattle.std.proofs.Common.{length, ◌-◌, ◌≡◌, ◌≢◌, ◌≤◌}
use Rattle.std.specs.List.{All}
use Rattle.std.specs.Io.KnownBytes.{Consumes}
use Rattle.dali_drive.proofs.lines.read_answer.Given as goal

abbrev pub invariant-loop-text : goal.invariant-loop-text
invariant-loop-text g l = record {
  short : length l.text.items ≤ 8;
  inside : All (λ b. b ≢ 10) l.text.items;
  bytes : Consumes (g.I.Source.left l.fn.link_in) (g.I.Source.left l.link_in) l.text.items;
  failed : g.I.Source.failed l.link_in ≡ g.I.Source.failed l.fn.link_in;
}

abbrev pub decreases-loop-text : goal.decreases-loop-text
decreases-loop-text g l = 8 - length l.text.items

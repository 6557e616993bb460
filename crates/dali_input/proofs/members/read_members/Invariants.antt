use Rattle.std.proofs.Common.{length}
use Rattle.json.specs.Json.{value}
use Rattle.dali_input.proofs.ObjectLemmas.{ReadSoFar}
use Rattle.dali_input.proofs.members.read_members.Given as goal

abbrev pub invariant-members : goal.invariant-members
invariant-members l = ReadSoFar (value l.depth) l.initial.reader l.reader l.members

abbrev pub decreases-members : goal.decreases-members
decreases-members l = length l.reader

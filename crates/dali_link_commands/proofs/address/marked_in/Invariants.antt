use Rattle.std.proofs.Common.{◌≡◌, ◌≤◌, take}
use Rattle.dali_link_commands.specs.AddressAnswers.{marked_in}
use Rattle.dali_link_commands.proofs.address.marked_in.Given as goal

abbrev pub invariant-loop-is_marked : goal.invariant-loop-is_marked
invariant-loop-is_marked l = record {
  counts : l.count ≡ marked_in (take l.is_marked-index l.addresses);
  within : l.count ≤ l.is_marked-index;
}

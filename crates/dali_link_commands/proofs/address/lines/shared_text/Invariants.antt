use Rattle.std.proofs.Common.{◌≡◌, ◌≤◌, ◌*◌, take}
use Rattle.arrayvec.specs.ArrayVec.{array_vec_len}
use Rattle.dali_link_commands.specs.AddressLines.{shared_lines}
use Rattle.dali_link_commands.proofs.address.lines.shared_text.Given as goal

abbrev pub invariant-loop-short : goal.invariant-loop-short
invariant-loop-short l = record {
  told : l.text.items ≡ shared_lines (take l.short l.fn.addresses) 0;
  within : array_vec_len l.text ≤ 11 * l.short;
}

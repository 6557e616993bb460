use Rattle.std.proofs.Common.{◌≡◌, ◌+◌, ◌*◌, ◌≤◌, drop}
use Rattle.dali_bank.specs.Gtin.{weighted_sum}
use Rattle.dali_bank.proofs.gtin.weighted_sum.Given as goal

abbrev pub invariant-loop-i : goal.invariant-loop-i
invariant-loop-i l = record {
  summed : l.sum + weighted_sum (drop l.i l.digits) ≡ weighted_sum l.digits;
  small : l.sum ≤ 27 * l.i;
}

use Rattle.std.proofs.Common.{◌≡◌, ◌<◌, ◌-◌, length, get_or, arith}
use Rattle.std.specs.Char.{digit_value}
use Rattle.dali_bank.proofs.GtinLemmas.{digit_value-in_range, weighted_sum-drop}
use Rattle.dali_bank.proofs.gtin.weighted_sum.Goals as goal

pub loop-i-preserved : goal.loop-i-preserved
loop-i-preserved c =
    let digits = c.args.digits.now in
    let i = c.loop-i.i in
    let within : i < length digits = omega arith in
    let digit = c.requires.digits i 0 within in
    let value : digit_value (get_or digits i 0) ≡ get_or digits i 0 - 48 =
    digit_value-in_range (get_or digits i 0) digit.0 digit.1 in
    let step = weighted_sum-drop digits i within in
    record {
      summed = rw (c.from.ensures, c.weight.ensures.value, ← value) (omega (arith, step, c.loop-i.invariant.summed));
      small = grind arith;
    }

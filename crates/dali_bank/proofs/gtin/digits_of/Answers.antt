use Rattle.std.proofs.Common.{◌≡◌, length-set, ◌+◌, ◌-◌, ◌%◌, ◌<◌, suc, length, drop, arith, ◌∙◌}
use Rattle.std.specs.Char.{IsAsciiDigit}
use Rattle.std.proofs.lemmas.List.{drop-set}
use Rattle.std.proofs.lemmas.List.Elements.{All-set}
use Rattle.dali_bank.proofs.GtinLemmas.{tenth_small, written_more}
use Rattle.dali_bank.proofs.gtin.digits_of.Goals as goal

pub loop-place-preserved : goal.loop-place-preserved
loop-place-preserved c =
    let digits = c.loop-place.digits in
    let rest = c.loop-place.rest in
    let place = c.loop-place.place - 1 in
    let next : suc place ≡ c.loop-place.place = omega arith in
    let within : place < length digits = omega (arith, c.loop-place.invariant.sized) in
    let after : place + 1 ≡ c.loop-place.place = omega arith in
    record {
      sized = simp length-set c.loop-place.invariant.sized;
      digits =
          All-set IsAsciiDigit digits place (48 + rest % 10) (omega arith, omega arith) c.loop-place.invariant.digits;
      written = rw drop-set (written_more rest (drop (place + 1) digits) ∙ rw after c.loop-place.invariant.written);
      small = tenth_small rest place (rw next c.loop-place.invariant.small);
    }

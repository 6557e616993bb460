use Rattle.std.proofs.Common.{◌<◌, length, get_or, refl, arith}
use Rattle.std.proofs.lemmas.List.{take_more}
use Rattle.dali_bank.proofs.NumberLemmas.{big_endian-push, number_small}
use Rattle.dali_bank.proofs.spelling.big_endian_number.Goals as goal

pub loop-byte-preserved : goal.loop-byte-preserved
loop-byte-preserved c =
    let bytes = c.args.bytes.now in
    let i = c.loop-byte.byte-index in
    let within : i < length bytes = omega arith in
    let byte = get_or bytes i 0 in
    let range = c.type_inv.bytes i in
    let fits : byte < 256 = omega arith in
    record {
      read = rw (c.from.ensures, take_more bytes i 0 within, big_endian-push, c.loop-byte.invariant.read) refl;
      small = rw c.from.ensures (number_small c.loop-byte.number byte i c.loop-byte.invariant.small fits);
    }

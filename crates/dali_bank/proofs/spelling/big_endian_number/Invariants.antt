use Rattle.std.proofs.Common.{◌≡◌, ◌<◌, ◌^◌, take}
use Rattle.dali_bank.specs.Numbers.{big_endian}
use Rattle.dali_bank.proofs.spelling.big_endian_number.Given as goal

abbrev pub invariant-loop-byte : goal.invariant-loop-byte
invariant-loop-byte l = record {
  read : l.number ≡ big_endian (take l.byte-index l.bytes);
  small : l.number < 256 ^ l.byte-index;
}

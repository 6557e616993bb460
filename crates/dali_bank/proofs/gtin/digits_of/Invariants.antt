use Rattle.std.proofs.Common.{◌≡◌, ◌<◌, ◌^◌, drop, length, All}
use Rattle.std.specs.Char.{IsAsciiDigit}
use Rattle.std.specs.Str.Parse.{digits_value_after}
use Rattle.dali_bank.proofs.gtin.digits_of.Given as goal

abbrev pub invariant-loop-place : goal.invariant-loop-place
invariant-loop-place l = record {
  sized : length l.digits ≡ 14;
  digits : All IsAsciiDigit l.digits;
  written : digits_value_after 10 l.rest (drop l.place l.digits) ≡ l.fn.number;
  small : l.rest < 10 ^ l.place;
}

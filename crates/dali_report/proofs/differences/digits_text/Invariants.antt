use Rattle.std.proofs.Common.{◌≡◌, ◌++◌, string_bytes, take}
use Rattle.dali_text.specs.Digits.{bytes_digits}
use Rattle.dali_report.proofs.differences.digits_text.Given as goal

abbrev pub invariant-loop-byte : goal.invariant-loop-byte
invariant-loop-byte l = record {
  text : string_bytes l.text ≡ l.word ++ bytes_digits (take l.byte-index l.bytes);
}

use Rattle.std.proofs.Common.{◌≡◌, take}
use Rattle.dali_text.specs.Digits.{bytes_digits}
use Rattle.dali_text.specs.Output.{Takes, has_failed}
use Rattle.dali_text.proofs.digits.write_bytes.Given as goal

abbrev pub invariant-loop-byte : goal.invariant-loop-byte
invariant-loop-byte g l = record {
  text : Takes g.W.Write.contents l.initial.output l.output (bytes_digits (take l.byte-index l.bytes));
  failed : has_failed l.output ≡ has_failed l.initial.output;
}

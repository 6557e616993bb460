use Rattle.std.proofs.Common.{◌≡◌, string_bytes, take}
use Rattle.dali_report.specs.Lines.{escaped}
use Rattle.dali_report.proofs.line.escaped.Given as goal

abbrev pub invariant-loop-byte : goal.invariant-loop-byte
invariant-loop-byte l = record {
  text : string_bytes l.text ≡ escaped (take l.byte-index l.bytes);
}

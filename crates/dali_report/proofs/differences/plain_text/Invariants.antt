use Rattle.std.proofs.Common.{◌≡◌, ◌++◌, codes, string_bytes, take}
use Rattle.dali_report.proofs.differences.plain_text.Given as goal

abbrev pub invariant-loop-byte : goal.invariant-loop-byte
invariant-loop-byte l = record { text : string_bytes l.text ≡ codes "text " ++ take l.byte-index l.bytes }

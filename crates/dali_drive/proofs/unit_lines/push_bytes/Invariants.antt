use Rattle.std.proofs.Common.{◌≡◌, ◌+◌, ◌*◌, ◌++◌, take}
use Rattle.arrayvec.specs.ArrayVec.{array_vec_len}
use Rattle.dali_text.specs.Digits.{bytes_digits}
use Rattle.dali_drive.proofs.unit_lines.push_bytes.Given as goal

abbrev pub invariant-loop-byte : goal.invariant-loop-byte
invariant-loop-byte l = record {
  items : l.line.items ≡ l.initial.line.items ++ bytes_digits (take l.byte-index l.bytes);
  len : array_vec_len l.line ≡ array_vec_len l.initial.line + 2 * l.byte-index;
}

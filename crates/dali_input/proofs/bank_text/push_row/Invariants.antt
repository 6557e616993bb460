use Rattle.std.proofs.Common.{◌≡◌, ◌+◌, ◌*◌, ◌++◌, take}
use Rattle.arrayvec.specs.ArrayVec.{array_vec_len}
use Rattle.std.specs.List.{flat_map}
use Rattle.dali_input.proofs.BankTextLemmas.{behind_space}
use Rattle.dali_input.proofs.bank_text.push_row.Given as goal

abbrev pub invariant-loop-byte : goal.invariant-loop-byte
invariant-loop-byte l = record {
  items : l.text.items ≡ l.initial.text.items ++ flat_map behind_space (take l.byte-index l.byte-items);
  len : array_vec_len l.text ≡ array_vec_len l.initial.text + 3 * l.byte-index;
}

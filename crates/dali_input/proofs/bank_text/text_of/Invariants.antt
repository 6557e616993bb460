use Rattle.std.proofs.Common.{◌≡◌, ◌*◌, length, min}
use Rattle.arrayvec.specs.ArrayVec.{array_vec_len}
use Rattle.dali_input.proofs.BankTextLemmas.{rows}
use Rattle.dali_input.proofs.bank_text.text_of.Given as goal

abbrev pub invariant-loop-number : goal.invariant-loop-number
invariant-loop-number l = record {
  items : l.text.items ≡ rows l.number l.bank;
  len : array_vec_len l.text ≡ 3 * min (16 * l.number) (length l.bank);
}

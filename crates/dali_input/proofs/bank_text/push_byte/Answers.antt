use Rattle.std.proofs.Common.{arith}
use Rattle.std.proofs.lemmas.Grind.{common_steps}
use Rattle.hex.specs.Hex.{encode_with}
use Rattle.dali_input.proofs.bank_text.push_byte.Goals as goal

pub returns-clause-items : goal.returns-clause-items
unfolding encode_with
returns-clause-items c = grind (arith, common_steps)

use Rattle.std.proofs.Common.{◌≡◌, ◌≢◌, length, get_or, arith}
use Rattle.dali_file_commands.proofs.FrameLemmas.{four_digits}
use Rattle.dali_file_commands.proofs.frame.word_in.Goals as goal

pub returns-clause-found : goal.returns-clause-found
returns-clause-found c =
    let four : length c.args.argument.now ≡ 4 =
    rw c.as_bytes.ensures.value at (let l : length c.as_bytes.result.now ≡ 4 = omega arith in l) in
    let plain : get_or c.args.argument.now 0 0 ≢ 43 = rw c.as_bytes.ensures.value at c.if-first-eq43.false in
    rw c.ok.ensures.value
    (four_digits c.args.argument.now c.from_str_radix.result four plain c.from_str_radix.ensures.value)

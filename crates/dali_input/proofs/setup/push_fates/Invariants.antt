use Rattle.std.proofs.Common.{◌≡◌, ◌++◌, replicate}
use Rattle.dali_input.proofs.setup.push_fates.Given as goal

abbrev pub invariant-loop : goal.invariant-loop
invariant-loop l = l.fates.items ≡ l.fn.fates.items ++ replicate l.counter l.fate

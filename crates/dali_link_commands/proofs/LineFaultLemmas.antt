-- How long the number of a fault is.
use Rattle.std.proofs.Common.{ℕ, ◌<◌, ◌≤◌, length, decimal, arith}
use Rattle.std.proofs.lemmas.Fmt.{length-decimal-le}

pub byte_is_short : (number : ℕ) → number < 256 → length (decimal number) ≤ 3
byte_is_short number byte = length-decimal-le 3 number (omega arith) (omega arith) (omega arith)

-- One byte.
use Rattle.std.proofs.Common.{◌≡◌, ℕ, Some}

pub same_byte : (a b : ℕ) → Some a ≡ Some b → a ≡ b
same_byte a b e = cc

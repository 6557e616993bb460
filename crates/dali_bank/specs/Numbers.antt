-- Numbers that are spelled by bytes.
use Rattle.std.specs.Prelude.{◌≡◌, ℕ, ◌+◌, ◌*◌, ◌^◌, ◌<◌, List, [], ◌∷◌, length}
use Rattle.std.specs.List.{AllByRecursion}

-- the sum of the bytes, each times its power of 256, the most significant byte first
abbrev pub big_endian : List ℕ → ℕ
big_endian [] = 0
big_endian (byte ∷ bytes) = byte * 256 ^ length bytes + big_endian bytes

-- `size` bytes, which add up to the number
pub record SpellsNumber (size number : ℕ) (bytes : List ℕ) : Type 0 where
  pub sized : length bytes ≡ size
  pub in_range : AllByRecursion (λ byte. byte < 256) bytes
  pub adds_up : big_endian bytes ≡ number

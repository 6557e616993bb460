-- How bytes are printed.
use Rattle.std.specs.Prelude.{ℕ, List}
use Rattle.std.specs.List.{flat_map}
use Rattle.dali_frame.specs.Hex.{byte_digits}

-- two upper-case hexadecimal digits for each byte
abbrev pub bytes_digits : List ℕ → List ℕ
bytes_digits bytes = flat_map byte_digits bytes

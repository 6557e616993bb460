-- The lines of a stream.
use Rattle.std.specs.Prelude.{◌==◌, ◌||◌, ◌++◌, ℕ, Bool, List, [], ◌∷◌, codes}
use Rattle.std.specs.List.{list_all}

-- the most bytes of a line, without its line feed
abbrev pub line_limit : ℕ
line_limit = 16384

-- a space, a tab or a carriage return
abbrev pub is_space : ℕ → Bool
is_space byte = (byte == 0x20) || ((byte == 0x09) || (byte == 0x0D))

-- there is nothing else on the line
abbrev pub is_blank : List ℕ → Bool
is_blank line = list_all is_space line

-- the bytes of these lines, the newest first: each with its line feed
abbrev pub bytes_of : List (List ℕ) → List ℕ
bytes_of [] = []
bytes_of (line ∷ lines) = bytes_of lines ++ (line ++ codes "\n")

-- The bytes that the reading of a line takes of a source.
use Rattle.std.specs.Prelude.{◌≡◌, ◌⊎◌, ◌++◌, ◌-◌, ◌^◌, ℕ, Bool, true, List, Option, codes, length}
use Rattle.std.specs.Io.KnownBytes.{Consumes, IsAtEnd}
use Rattle.dali_link_commands.specs.declared.stream.reading.LineEnd.{LineEnd}
use Rattle.dali_link_commands.specs.declared.stream.reading.LineEnd.TheVariants.{LineFeed, Stream, Broken}

-- why a line is broken off: the source failed, or the line has more bytes than any program lives to see
abbrev pub IsBroken : Bool → List ℕ → Type 0
IsBroken failed line = (failed ≡ true) ⊎ (length line ≡ 2 ^ 64 - 1)

-- what is taken for a line, by how its reading ended
abbrev pub ReadsLine : Option (List ℕ) → Option (List ℕ) → Bool → List ℕ → LineEnd → Type 0
ReadsLine old new failed line LineFeed = Consumes old new (line ++ codes "\n")
ReadsLine old new failed line Stream = Consumes old new line × IsAtEnd new
ReadsLine old new failed line Broken = Consumes old new line × IsBroken failed line

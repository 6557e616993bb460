-- The lines that tell of short addresses.
use Rattle.std.specs.Prelude.{◌++◌, ◌+◌, ◌∷◌, ℕ, Bool, true, false, List, [], codes, decimal, if◌then◌else◌}
use Rattle.dali_frame.specs.Hex.{byte_digits}
use Rattle.dali_address.specs.declared.census.CensusEnd.{CensusEnd}
use Rattle.dali_address.specs.declared.census.CensusEnd.TheVariants as ends
use Rattle.dali_address.specs.declared.task.Line.{Line}
use Rattle.dali_address.specs.declared.task.Line.TheVariants.{Unit, Shared}
use Rattle.dali_address.specs.declared.task.Random.{Random}
use Rattle.dali_address.specs.declared.task.Summary.{Summary}
use Rattle.dali_link_commands.specs.declared.address.addressing.End.{End}
use Rattle.dali_link_commands.specs.declared.address.addressing.End.TheVariants.{Done, Taken}

-- six hexadecimal digits
abbrev pub random_digits : Random → List ℕ
random_digits random = byte_digits random.high ++ byte_digits random.middle ++ byte_digits random.low

-- what a run tells on its way
abbrev pub address_line : Line → List ℕ
address_line (Unit short random) =
    codes "unit " ++ decimal short ++ codes " random " ++ random_digits random ++ codes "\n"
address_line (Shared short) = codes "shared " ++ decimal short ++ codes "\n"

-- units may still be in the initialisation state
abbrev pub open_line : List ℕ
open_line = codes "open: units answer searches for up to 16.5 minutes\n"

abbrev pub summary_line : Summary → List ℕ
summary_line summary =
    codes "given " ++ decimal summary.given ++ codes " missing " ++ decimal summary.missing ++ codes " shared "
    ++ decimal summary.shared ++ codes "\n"

abbrev pub taken_line : ℕ → List ℕ
taken_line short = codes "error: a unit is at short address " ++ decimal short ++ codes " already\n"

-- how a run ended
abbrev pub end_text : End → List ℕ
end_text (Done summary) = (if summary.open then open_line else []) ++ summary_line summary
end_text (Taken short) = taken_line short

-- a line for each short address that is marked, from this one on
abbrev pub shared_lines : List Bool → ℕ → List ℕ
shared_lines [] short = []
shared_lines (true ∷ more) short = address_line (Shared short) ++ shared_lines more (short + 1)
shared_lines (false ∷ more) short = shared_lines more (short + 1)

-- how a count ended
abbrev pub count_text : CensusEnd → List ℕ
count_text (ends.Apart units) = codes "apart " ++ decimal units ++ codes "\n"
count_text (ends.Shared sharing) = shared_lines sharing.addresses 0
count_text ends.Unclear = codes "unclear\n"

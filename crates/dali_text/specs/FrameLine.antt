-- How the word of a forward frame is printed.
use Rattle.std.specs.Prelude.{ℕ, List, ◌++◌, codes, decimal}
use Rattle.dali_frame.specs.declared.forward.Frame.{Frame}
use Rattle.dali_frame.specs.declared.forward.Frame.TheVariants.{Dtr0, Dtr1, Dtr2, Write, WriteSilent, Enable, AskDtr0}
use Rattle.dali_frame.specs.declared.forward.Frame.TheVariants.{AskDtr1, AskDtr2, Read, Other}
use Rattle.dali_frame.specs.Hex.{byte_digits, word_digits}

-- a special command: its word, its name and its operand
abbrev pub special_line : ℕ → List ℕ → ℕ → List ℕ
special_line word name operand = word_digits word ++ codes " " ++ name ++ codes " " ++ byte_digits operand ++ codes "\n"

-- a command to a short address: its word, its name and the address
abbrev pub command_line : ℕ → List ℕ → ℕ → List ℕ
command_line word name address =
    word_digits word ++ codes " " ++ name ++ codes " unit " ++ decimal address ++ codes "\n"

-- the line of a word that spells the frame, by the standard's names
abbrev pub frame_line : ℕ → Frame → List ℕ
frame_line word (Dtr0 operand) = special_line word (codes "DTR0") operand
frame_line word (Dtr1 operand) = special_line word (codes "DTR1") operand
frame_line word (Dtr2 operand) = special_line word (codes "DTR2") operand
frame_line word (Write operand) = special_line word (codes "WRITE MEMORY LOCATION") operand
frame_line word (WriteSilent operand) = special_line word (codes "WRITE MEMORY LOCATION - NO REPLY") operand
frame_line word (Enable address) = command_line word (codes "ENABLE WRITE MEMORY") address
frame_line word (AskDtr0 address) = command_line word (codes "QUERY CONTENT DTR0") address
frame_line word (AskDtr1 address) = command_line word (codes "QUERY CONTENT DTR1") address
frame_line word (AskDtr2 address) = command_line word (codes "QUERY CONTENT DTR2") address
frame_line word (Read address) = command_line word (codes "READ MEMORY LOCATION") address
frame_line word (Other _) = word_digits word ++ codes " OTHER\n"

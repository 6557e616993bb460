-- The notes for a person, on an output of their own: lines of printable characters, and of a thing that has a number,
-- as an item of a list, lines that begin with it.
use Rattle.std.specs.Prelude.{◌≡◌, ◌<◌, ◌⊎◌, ℕ, zero, suc, false, List, [], ◌++◌, Option, codes, decimal}
use Rattle.std.specs.List.{AllByRecursion}
use Rattle.std.specs.Io.KnownBytes.{Appends}
use Rattle.dali_bank.specs.Spelling.{IsTextByte}
use Rattle.dali_text.specs.declared.output.Output.{Output}
use Rattle.dali_text.specs.Output.{has_failed, held}
use Rattle.dali_file_commands.specs.declared.notes.front.Front.{Front}
use Rattle.dali_file_commands.specs.declared.notes.front.Front.TheVariants.{Nothing, Numbered, Order}

-- printable characters of ASCII, none of which a terminal takes for an order
abbrev pub ArePlain : List ℕ → Type 0
ArePlain words = AllByRecursion IsTextByte words

-- what a thing is and its number
abbrev pub number_front : List ℕ → ℕ → List ℕ
number_front what number = what ++ codes " " ++ decimal number ++ codes ": "

-- what an order is, its place, and its number
abbrev pub order_front : List ℕ → ℕ → ℕ → List ℕ
order_front what number order = what ++ codes " " ++ decimal number ++ codes " order " ++ decimal order ++ codes ": "

-- what a line begins with
abbrev pub front_text : Front → List ℕ
front_text Nothing = []
front_text (Numbered what number) = number_front what.now number
front_text (Order what number order) = order_front what.now number order

-- a line that begins so
abbrev pub IsLine : List ℕ → List ℕ → Type 0
IsLine front line = (words : List ℕ) × ArePlain words × (line ≡ front ++ words ++ codes "\n")

-- this many lines that begin so, one after the other
abbrev pub AreLines : List ℕ → ℕ → List ℕ → Type 0
AreLines front zero text = text ≡ []
AreLines front (suc count) text = (lines : List ℕ) × (line : List ℕ) × AreLines front count lines × IsLine front line
    × (text ≡ lines ++ line)

-- lines that begin so, at least one
abbrev pub SomeLines : List ℕ → List ℕ → Type 0
SomeLines front text = (count : ℕ) × (0 < count) × AreLines front count text

-- lines of a thing that has a number, and of an order with its number too
abbrev pub SomeAbout : List ℕ → ℕ → List ℕ → Type 0
SomeAbout what number text = SomeLines (number_front what number) text
    ⊎ ((order : ℕ) × SomeLines (order_front what number order) text)

-- unless the output has failed, it took a text of this form
abbrev pub Tells : {N : Type 0} → (N → Option (List ℕ)) → Output N → Output N → (List ℕ → Type 0) → Type 0
Tells contents old new IsSo = has_failed new ≡ false → (has_failed old ≡ false)
    × ((text : List ℕ) × IsSo text × Appends (held contents old) (held contents new) text)

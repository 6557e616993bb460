-- Words of others, as a terminal may show them.
use Rattle.std.specs.Prelude.{ℕ, Bool, false, List, [], ◌∷◌, ◌++◌, ◌&&◌, codes, chars, length, take, nat_le, nat_lt}
use Rattle.std.specs.Prelude.{if◌then◌else◌}
use Rattle.std.specs.Fmt.{digits}
use Rattle.std.specs.List.{flat_map}
use Rattle.dali_text.specs.declared.escaped.Escaped.{Escaped}
use Rattle.dali_text.specs.declared.escaped.Escaped.TheVariants.{Whole, Cut}

-- a character of 20h to 7Eh: none of these ends a line
abbrev pub is_plain : ℕ → Bool
is_plain letter = nat_le 0x20 letter && nat_le letter 0x7E

-- a character as words show it: one that isn't plain by its hexadecimal number
abbrev pub shown_letter : ℕ → List ℕ
shown_letter letter = if is_plain letter then letter ∷ [] else codes "\\u{" ++ digits 16 false letter ++ codes "}"

-- characters so
abbrev pub shown_letters : List ℕ → List ℕ
shown_letters letters = flat_map shown_letter letters

-- a text so
abbrev pub shown_text : List ℕ → List ℕ
shown_text text = shown_letters (chars text)

-- the first of these characters as they are shown, and three dots if there are more
abbrev pub shown_front : ℕ → List ℕ → List ℕ
shown_front most letters =
    shown_letters (take most letters) ++ (if nat_lt most (length letters) then codes "..." else [])

-- a text whole, or the first 40 of its characters
abbrev pub escaped_text : Escaped → List ℕ
escaped_text (Whole text) = shown_text text.now
escaped_text (Cut text) = shown_front 40 (chars text.now)

-- The line's digits are those of the word, and they spell it.
use Rattle.std.proofs.Common.{◌≡◌, List, [], ◌∷◌, ℕ, ◌/◌, ◌%◌, get_or, subst, arith}
use Rattle.std.proofs.lemmas.Grind.{common_steps}
use Rattle.dali_frame.specs.Frame.{frame_word}
use Rattle.dali_frame.specs.Hex.{SpellsHexNumber, word_digits}
use Rattle.dali_frame.proofs.HexLemmas.{word_digits_spell}
use Rattle.dali_frame.proofs.line.line_of.Goals as goal

pub returns-clause-spells : goal.returns-clause-spells
returns-clause-spells c =
    let word = frame_word c.args.frame.now in
    let digits = get_or c.byte_digits.result 0 0 ∷ get_or c.byte_digits.result 1 0
    ∷ get_or c.byte_digits-2.result 0 0 ∷ get_or c.byte_digits-2.result 1 0 ∷ [] in
    let low : word / 256 % 256 ≡ word / 256 = omega (arith, c.well_formed) in
    let is : word_digits word ≡ digits = rw
    (c.byte_digits.ensures, c.byte_digits-2.ensures, c.to_be_bytes.ensures, c.word_of.ensures)
    (grind (arith, common_steps)) in
    let P : List ℕ → Type 0 = λ these. SpellsHexNumber these word in
    subst P is (word_digits_spell word (omega arith))

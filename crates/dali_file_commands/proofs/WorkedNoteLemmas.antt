-- Worked notes: what none may be.
use Rattle.std.proofs.Common.{◌≡◌, ℕ, zero, suc, ◌+◌, List, [], ◌∷◌, ◌++◌, Err, length, inl, inr, ap, ◌∙◌, arith, codes}
use Rattle.std.proofs.Common.{length-append}
use Rattle.dali_input.specs.declared.item.ItemFault.{ItemFault}
use Rattle.dali_file_commands.specs.NoteLines.{ArePlain, SomeLines, number_front, order_front}
use Rattle.dali_file_commands.specs.Notes.{IsItemNote}

-- no line is nothing
no_lines : (front : List ℕ) → ¬ SomeLines front []
no_lines front (zero, some, are) = omega (arith, some)
no_lines front (suc count, some, (lines, line, are, (words, plain, is), split)) =
    let size : 0 ≡ length lines + length line = ap length split ∙ length-append lines line in
    let tail : length line ≡ length (front ++ words) + 1 = ap length is ∙ length-append (front ++ words) (codes "\n") in
    omega (arith, size, tail)

-- a refused item is reported
pub refused_is_told : (number : ℕ) (fault : ItemFault) → ¬ IsItemNote number (Err fault) []
refused_is_told number fault (inl lines) = no_lines (number_front (codes "item") number) lines
refused_is_told number fault (inr (order, lines)) = no_lines (order_front (codes "item") number order) lines

-- the character that begins a terminal's orders is never printed
pub no_escape : ¬ ArePlain (0x1B ∷ [])
no_escape ((least, most), rest) = omega (arith, least)

-- Lemmas on lines.
use Rattle.std.proofs.Common.{◌≡◌, ℕ, suc, ◌+◌, List, ◌++◌, arith, refl, subst}
use Rattle.dali_file_commands.specs.NoteLines.{AreLines, IsLine}

-- one line more
pub one_more : (front : List ℕ) (count : ℕ) (lines line : List ℕ)
    → AreLines front count lines → IsLine front line → AreLines front (count + 1) (lines ++ line)
one_more front count lines line are is =
    let next : suc count ≡ count + 1 = omega arith in
    subst (λ n. AreLines front n (lines ++ line)) next (lines, line, are, is, refl)

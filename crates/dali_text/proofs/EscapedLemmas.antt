-- Lemmas on words of others as a terminal may show them.
use Rattle.std.proofs.Common.{◌≡◌, ◌<◌, ◌≤◌, ◌++◌, ℕ, List, codes, take, length, append-nil, arith}
use Rattle.std.proofs.lemmas.Bool.Decides.{nat_tests}
use Rattle.std.proofs.lemmas.Bool.{lt-ltb}
use Rattle.dali_text.specs.Escaped.{shown_front, shown_letters}

-- of more characters the first ones and dots are shown, of no more these
pub front_past : (most : ℕ) (letters : List ℕ) → most < length letters
    → shown_letters (take most letters) ++ codes "..." ≡ shown_front most letters
front_past most letters more = rw (lt-ltb most (length letters) more)

pub front_whole : (most : ℕ) (letters : List ℕ) → length letters ≤ most
    → shown_letters (take most letters) ≡ shown_front most letters
front_whole most letters all = grind (arith, nat_tests, append-nil (shown_letters (take most letters)))

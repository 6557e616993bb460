-- One step of the loop that reads pairs.
use Rattle.std.proofs.Common.{◌≡◌, ℕ, suc, true, false, List, [], ◌∷◌, ◌++◌, refl, append_assoc}
use Rattle.dali_journal.specs.declared.read.Pairs.{Pairs}
use Rattle.dali_journal.specs.declared.read.Pairs.TheVariants as lists
use Rattle.dali_journal.specs.Decoding.{fits, behind_pair, behind_pairs, pairs_of}

pub pairs_of-bad : (to_come count low location : ℕ) (after : List ℕ) → to_come ≡ suc count
    → fits count low location ≡ false →
    pairs_of to_come low (location ∷ after) ≡ lists.Bad
pairs_of-bad to_come count low location [] h e = rw (h, e) refl
pairs_of-bad to_come count low location (byte ∷ rest) h e = rw (h, e) refl

pub pairs_of-pair : (to_come count low location byte : ℕ) (rest : List ℕ) → to_come ≡ suc count
    → fits count low location ≡ true →
    pairs_of to_come low (location ∷ byte ∷ rest) ≡ behind_pair (location, byte) (pairs_of count location rest)
pairs_of-pair to_come count low location byte rest h e = rw (h, e) refl

pub behind-move : (front : List (ℕ × ℕ)) (pair : ℕ × ℕ) (piece : Pairs) →
    behind_pairs (front ++ pair ∷ []) piece ≡ behind_pairs front (behind_pair pair piece)
behind-move front pair (lists.Whole pairs) = rw append_assoc refl
behind-move front pair lists.Cut = refl
behind-move front pair lists.Bad = refl

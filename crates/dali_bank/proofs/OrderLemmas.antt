-- Lists of pairs that are compared pair by pair.
use Rattle.std.proofs.Common.{◌≡◌, ℕ, Bool, true, ◌&&◌, List, [], ◌∷◌, refl, subst}
use Rattle.std.specs.Prelude.{nat_eq}
use Rattle.std.proofs.lemmas.Bool.{eqb-true, eq-eqb, and_parts}
use lib.Pointwise.{pointwise}

abbrev is_pair : ℕ × ℕ → ℕ × ℕ → Bool
is_pair x y = nat_eq x.0 y.0 && nat_eq x.1 y.1

-- if each pair is the other's, the lists are the same
pub pairs_same : (pairs others : List (ℕ × ℕ)) → pointwise is_pair pairs others ≡ true → pairs ≡ others
pairs_same [] [] told = refl
pairs_same [] (other ∷ others) told = cc
pairs_same (pair ∷ pairs) [] told = cc
pairs_same (pair ∷ pairs) (other ∷ others) told =
    let parts = and_parts (is_pair pair other) (pointwise is_pair pairs others) told in
    let numbers = and_parts (nat_eq pair.0 other.0) (nat_eq pair.1 other.1) parts.0 in
    let first : pair.0 ≡ other.0 = eqb-true pair.0 other.0 numbers.0 in
    let second : pair.1 ≡ other.1 = eqb-true pair.1 other.1 numbers.1 in
    let rest : pairs ≡ others = pairs_same pairs others parts.1 in
    λ i. (first i, second i) ∷ rest i

itself : (pairs : List (ℕ × ℕ)) → pointwise is_pair pairs pairs ≡ true
itself [] = refl
itself (pair ∷ pairs) = rw (eq-eqb pair.0 pair.0 refl, eq-eqb pair.1 pair.1 refl) (itself pairs)

-- and the other way round
pub same_pairs : (pairs others : List (ℕ × ℕ)) → pairs ≡ others → pointwise is_pair pairs others ≡ true
same_pairs pairs others same =
    let P : List (ℕ × ℕ) → Type 0 = λ list. pointwise is_pair pairs list ≡ true in subst P same (itself pairs)

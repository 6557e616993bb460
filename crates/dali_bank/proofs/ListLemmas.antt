-- Lists one longer, which the crates above share.
use Rattle.std.proofs.Common.{◌≡◌, ℕ, zero, suc, List, [], ◌∷◌, ◌++◌, ap, ◌+◌, arith}
use Rattle.std.specs.List.{AllByRecursion, range_with_len}

pub all_one_more : {X : Type 0} (P : X → Type 0) (xs : List X) (x : X) → AllByRecursion P xs → P x
    → AllByRecursion P (xs ++ x ∷ [])
all_one_more P [] x all holds = (holds, tt)
all_one_more P (y ∷ xs) x all holds = (all.0, all_one_more P xs x all.1 holds)

pub range_more : (a n b : ℕ) → a + n ≡ b → range_with_len a (suc n) ≡ range_with_len a n ++ b ∷ []
range_more a zero b e = ap (λ k. k ∷ []) (omega arith)
range_more a (suc n) b e = ap (λ ns. a ∷ ns) (range_more (a + 1) n b (omega arith))

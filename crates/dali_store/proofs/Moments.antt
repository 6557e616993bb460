-- How a run of a store's calls goes on.
use Rattle.std.proofs.Common.{inl, inr, ⊎_elim, ℕ, List, arith}
use Rattle.dali_store.specs.Stores.{Elapses, LeavesOnly}

module _ {S : Type 0} (moment : S → ℕ) (left_since : S → ℕ → List ℕ → Type 0) where
  -- before the first call
  pub started : (old : S) (P : List ℕ → Type 0) → ((c : List ℕ) → left_since old (moment old) c → P c)
      → LeavesOnly moment left_since old old P
  started old P here = record { later = omega arith; each = here; before = λ t c le left. inl left }

  -- one call more, after which a stop leaves what has P
  pub goes_on : (old mid new : S) (P may_leave : List ℕ → Type 0) → LeavesOnly moment left_since old mid P
      → Elapses (moment mid) (moment new) (left_since mid) (left_since new) may_leave
      → ((c : List ℕ) → may_leave c → P c) → LeavesOnly moment left_since old new P
  goes_on old mid new P may_leave so_far time here = record {
    later = omega (arith, so_far.later, time.later);
    each = λ c left. ⊎_elim (so_far.each c) (here c) (time.nothing_else (moment old) c so_far.later left);
    before = λ t c le left.
        ⊎_elim (so_far.before t c le) (λ now. inr (here c now))
        (time.nothing_else t c (omega (arith, le, so_far.later)) left);
  }

  -- a weaker word of it
  pub so_too : (old new : S) (P Q : List ℕ → Type 0) → LeavesOnly moment left_since old new P
      → ((c : List ℕ) → P c → Q c) → LeavesOnly moment left_since old new Q
  so_too old new P Q so then = record {
    later = so.later;
    each = λ c left. then c (so.each c left);
    before = λ t c le left. ⊎_elim (λ was. inl was) (λ p. inr (then c p)) (so.before t c le left);
  }

  -- one run after another
  pub and_then : (old mid new : S) (P Q R : List ℕ → Type 0) → LeavesOnly moment left_since old mid P
      → LeavesOnly moment left_since mid new Q
      → ((c : List ℕ) → P c → R c) → ((c : List ℕ) → Q c → R c) → LeavesOnly moment left_since old new R
  and_then old mid new P Q R first second p q = record {
    later = omega (arith, first.later, second.later);
    each = λ c left.
        ⊎_elim (λ was. p c (first.each c was)) (λ now. q c now) (second.before (moment old) c first.later left);
    before = λ t c le left.
        ⊎_elim (λ was. ⊎_elim (λ w. inl w) (λ now. inr (p c now)) (first.before t c le was)) (λ now. inr (q c now))
        (second.before t c (omega (arith, le, first.later)) left);
  }

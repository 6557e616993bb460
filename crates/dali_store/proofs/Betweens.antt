-- First parts of bytes.
use Rattle.std.proofs.Common.{◌≡◌, ◌≤◌, ◌-◌, ◌+◌, sym, ap, ◌∙◌, subst, ⊎_elim, ℕ, List, [], ◌++◌, length}
use Rattle.std.proofs.Common.{Option, Some, None}
use Rattle.std.proofs.Common.{take, drop, arith, length-take, take-append-drop}
use Rattle.std.proofs.lemmas.List.{append_assoc, append-nil, take_rest}
use Rattle.std.proofs.Math.Seq.{take-add, take-length}
use Rattle.std.specs.Io.KnownBytes.{Appends}
use Rattle.std.proofs.KnownBytes.{Appends-trans}
use Rattle.dali_store.specs.Stores.{IsDurable, IsBetween, MayAlso, Elapses, LeavesOnly}
use Rattle.dali_store.proofs.Moments.{goes_on, so_too}

-- the first `len` bytes
pub is_behind : (len : ℕ) (bytes c : List ℕ) → len ≤ length bytes → c ≡ take len bytes
    → (len ≤ length c) × (rest : List ℕ) × (bytes ≡ c ++ rest)
is_behind len bytes c within is = (
  omega (arith, ap length is, length-take len bytes, within),
  drop len bytes,
  sym (take-append-drop len bytes) ∙ ap (λ (l : List ℕ). l ++ drop len bytes) (sym is),
)

-- if a stop leaves what is known, that is between it and it
pub settled_between : (known : Option (List ℕ)) (outcomes : List ℕ → Type 0) → IsDurable known outcomes
    → (c : List ℕ) → outcomes c → IsBetween known known c
settled_between None outcomes settled c left = tt
settled_between (Some bytes) outcomes settled c left =
    let is = settled c left in ([], [], is ∙ sym (append-nil bytes), sym is ∙ sym (append-nil c))

-- what is between is so when more is put
pub between_first : (a b d : Option (List ℕ)) (x y c : List ℕ) → Appends a b x → Appends b d y → IsBetween a b c
    → IsBetween a d c
between_first None b d x y c first second is = tt
between_first (Some a) None d x y c first second is = absurd first
between_first (Some a) (Some b) None x y c first second is = absurd second
between_first (Some a) (Some b) (Some d) x y c first second (more, rest, front, whole) = (
  more,
  rest ++ y,
  front,
  second ∙ ap (λ (l : List ℕ). l ++ y) whole ∙ append_assoc c rest y,
)

pub between_second : (a b d : Option (List ℕ)) (x y c : List ℕ) → Appends a b x → Appends b d y → IsBetween b d c
    → IsBetween a d c
between_second None b d x y c first second is = tt
between_second (Some a) None d x y c first second is = absurd first
between_second (Some a) (Some b) None x y c first second is = absurd second
between_second (Some a) (Some b) (Some d) x y c first second (more, rest, front, whole) = (
  x ++ more,
  rest,
  front ∙ ap (λ (l : List ℕ). l ++ more) first ∙ append_assoc a x more,
  whole,
)

-- what is put piece by piece

take_more : (bytes : List ℕ) (done count : ℕ)
    → take done bytes ++ take count (take (length bytes - done) (drop done bytes)) ≡ take (done + count) bytes
take_more bytes done count = rw (take_rest bytes done) (sym (take-add done count bytes))

pub put_more : (a b c : Option (List ℕ)) (bytes : List ℕ) (done count : ℕ) → Appends a b (take done bytes)
    → Appends b c (take count (take (length bytes - done) (drop done bytes))) → Appends a c (take (done + count) bytes)
put_more a b c bytes done count before next =
    subst (Appends a c) (take_more bytes done count) (Appends-trans a b c _ _ before next)

-- the bytes that a stop may leave after one more call that puts bytes

pub left_more : (a b d : Option (List ℕ)) (x y : List ℕ) (mid new : List ℕ → Type 0) → Appends a b x → Appends b d y
    → ((c : List ℕ) → mid c → IsBetween a b c) → MayAlso (IsBetween b d) mid new
    → (c : List ℕ) → new c → IsBetween a d c
left_more a b d x y mid new first second stop also c left =
    ⊎_elim (λ was. between_first a b d x y c first second (stop c was))
    (λ now. between_second a b d x y c first second now) (also c left)

module _ {S : Type 0} (moment : S → ℕ) (left_since : S → ℕ → List ℕ → Type 0) where
  pub grown : (old mid new : S) (a b d : Option (List ℕ)) (x y : List ℕ) (was now : List ℕ → Type 0) → Appends a b x
      → Appends b d y → ((c : List ℕ) → was c → IsBetween a b c) → MayAlso (IsBetween b d) was now
      → LeavesOnly moment left_since old mid (IsBetween a b)
      → Elapses (moment mid) (moment new) (left_since mid) (left_since new) now
      → LeavesOnly moment left_since old new (IsBetween a d)
  grown old mid new a b d x y was now first second stop also so_far time =
      goes_on moment left_since old mid new (IsBetween a d) now
      (so_too moment left_since old mid (IsBetween a b) (IsBetween a d) so_far
      (λ c is. between_first a b d x y c first second is))
      time (left_more a b d x y was now first second stop also)

-- all the bytes are a first part of them
pub kept_all : (a b : Option (List ℕ)) (bytes : List ℕ) → Appends a b bytes
    → (length bytes ≤ length bytes) × Appends a b (take (length bytes) bytes)
kept_all a b bytes all = (omega arith, subst (Appends a b) (sym (take-length bytes)) all)

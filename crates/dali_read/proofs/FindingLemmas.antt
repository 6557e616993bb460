-- How the bytes of an order are compared, from the first one on.
use Rattle.std.proofs.Common.{◌≡◌, ◌≢◌, ◌≤◌, ◌<◌, ◌-◌, inl, inr, refl, ap, subst, ℕ, zero, suc, List, []}
use Rattle.std.proofs.Common.{◌∷◌, ◌++◌, append_assoc, length, take, drop, None, slice_index_or, arith}
use Rattle.std.proofs.lemmas.List.{take_all, length-drop}
use Rattle.std.proofs.lemmas.Bool.{lt-ltb, le-ltb}
use Rattle.dali_write.specs.Plans.{greatest}
use Rattle.dali_read.specs.declared.finding.Finding.{Finding}
use Rattle.dali_read.specs.declared.finding.Finding.TheVariants.{Same, Other, Short, Format}
use Rattle.dali_read.specs.Findings.{own_bytes, IsFirstOther, IsFound}
use Rattle.dali_read.specs.Places.{row_of, order_course}

-- the elements after the first `count`
abbrev pub behind : {A : Type 0} → ℕ → List A → List A
behind count xs = take (length xs - count) (drop count xs)

behind_is : {A : Type 0} (count : ℕ) (xs : List A) → behind count xs ≡ drop count xs
behind_is count xs = grind (arith, length-drop count xs, take_all)

pub no_updates : (updates : List (ℕ × ℕ)) (bytes : List ℕ) → length updates < 1 → IsFirstOther updates bytes Same
no_updates [] bytes none = (bytes, refl)
no_updates (update ∷ updates) bytes none = absurd (omega arith)

-- if the first byte is the update's own, a finding for the ones after it holds for all
further : (update : ℕ × ℕ) (updates : List (ℕ × ℕ)) (bytes : List ℕ) (finding : Finding)
    → IsFirstOther updates bytes finding → IsFirstOther (update ∷ updates) (update.1 ∷ bytes) finding
further update updates bytes Same (more, is) = (more, ap (λ (l : List ℕ). update.1 ∷ l) is)
further update updates bytes (Other location byte) (before, own, behind, more, splits, is, other) = (
  update ∷ before,
  own,
  behind,
  more,
  ap (λ (l : List (ℕ × ℕ)). update ∷ l) splits,
  ap (λ (l : List ℕ). update.1 ∷ l) is,
  other,
)
further update updates bytes Short never = never
further update updates bytes Format never = never

pub first_is_own : (updates : List (ℕ × ℕ)) (bytes : List ℕ) (finding : Finding) → 1 ≤ length updates
    → 1 ≤ length bytes → slice_index_or bytes 0 0 ≡ (slice_index_or updates 0 (0, 0)).1
    → IsFirstOther (behind 1 updates) (behind 1 bytes) finding → IsFirstOther updates bytes finding
first_is_own [] bytes finding some more own rest = absurd (omega arith)
first_is_own (update ∷ updates) [] finding some more own rest = absurd (omega arith)
first_is_own (update ∷ updates) (byte ∷ bytes) finding some more own rest =
    rw own (further update updates bytes finding
    (subst (λ (l : List ℕ). IsFirstOther updates l finding) (behind_is 1 (byte ∷ bytes))
    (subst (λ (l : List (ℕ × ℕ)). IsFirstOther l (behind 1 (byte ∷ bytes)) finding) (behind_is 1 (update ∷ updates))
    rest)))

pub first_is_other : (updates : List (ℕ × ℕ)) (bytes : List ℕ) → 1 ≤ length updates → 1 ≤ length bytes
    → slice_index_or bytes 0 0 ≢ (slice_index_or updates 0 (0, 0)).1
    → IsFirstOther updates bytes (Other (slice_index_or updates 0 (0, 0)).0 (slice_index_or bytes 0 0))
first_is_other [] bytes some more other = absurd (omega arith)
first_is_other (update ∷ updates) [] some more other = absurd (omega arith)
first_is_other (update ∷ updates) (byte ∷ bytes) some more other = ([], update.1, updates, bytes, refl, refl, other)

-- if no row is left, none of the updates is
row_over : (updates : List (ℕ × ℕ)) (count : ℕ) → row_of (drop count updates) ≡ None → length updates ≤ count
row_over [] count over = omega arith
row_over (update ∷ updates) zero over = cc
row_over (update ∷ updates) (suc count) over = let rest = row_over updates count over in omega arith

-- the updates have a byte each, after that of 00h
pub enough_plain : (updates : List (ℕ × ℕ)) (bytes : List ℕ) → order_course updates bytes ≡ None → 1 ≤ length bytes
    → greatest updates ≤ slice_index_or bytes 0 0
    → greatest updates < 0x13 → length updates ≤ length (behind 1 bytes)
enough_plain updates [] over some reaches plain = absurd (omega arith)
enough_plain updates (last ∷ more) over some reaches plain =
    grind (
      arith,
      le-ltb last (greatest updates) reaches,
      lt-ltb (greatest updates) 0x13 plain,
      behind_is 1 (last ∷
          more),
      row_over,
    )

-- or after the content format
pub enough_formatted : (updates : List (ℕ × ℕ)) (bytes : List ℕ) → order_course updates bytes ≡ None
    → 3 ≤ length bytes → greatest updates ≤ slice_index_or bytes 0 0 → 0x13 ≤ greatest updates
    → slice_index_or bytes 1 0 ≡ 0x00 → slice_index_or bytes 2 0 ≡ 0x03 → length updates ≤ length (behind 3 bytes)
enough_formatted updates [] over some reaches late high low = absurd (omega arith)
enough_formatted updates (last ∷ []) over some reaches late high low = absurd (omega arith)
enough_formatted updates (last ∷ first ∷ []) over some reaches late high low = absurd (omega arith)
enough_formatted updates (last ∷ first ∷ second ∷ more) over some reaches late high low =
    grind (
      arith,
      le-ltb last (greatest updates) reaches,
      le-ltb (greatest updates) 0x13 late,
      behind_is 3 (last ∷
          first ∷ second ∷ more),
      row_over,
    )

pub found_plain : (updates : List (ℕ × ℕ)) (bytes : List ℕ) (finding : Finding) → 1 ≤ length bytes
    → greatest updates ≤ slice_index_or bytes 0 0 → greatest updates < 0x13
    → IsFirstOther updates (behind 1 bytes) finding → IsFound updates bytes finding
found_plain updates [] finding some reaches plain is = absurd (omega arith)
found_plain updates (last ∷ more) finding some reaches plain is =
    by finding (subst (λ (l : List ℕ). IsFirstOther updates l finding) (behind_is 1 (last ∷ more)) is)
  where
    by : (finding : Finding) → IsFirstOther updates more finding → IsFound updates (last ∷ more) finding
    by Same is = (last, reaches, inl (more, refl, plain, is))
    by (Other location byte) is = (last, reaches, inl (more, refl, plain, is))
    by Short never = absurd never
    by Format never = absurd never

pub found_formatted : (updates : List (ℕ × ℕ)) (bytes : List ℕ) (finding : Finding) → 3 ≤ length bytes
    → greatest updates ≤ slice_index_or bytes 0 0 → 0x13 ≤ greatest updates
    → slice_index_or bytes 1 0 ≡ 0x00 → slice_index_or bytes 2 0 ≡ 0x03
    → IsFirstOther updates (behind 3 bytes) finding → IsFound updates bytes finding
found_formatted updates [] finding some reaches late high low is = absurd (omega arith)
found_formatted updates (last ∷ []) finding some reaches late high low is = absurd (omega arith)
found_formatted updates (last ∷ first ∷ []) finding some reaches late high low is = absurd (omega arith)
found_formatted updates (last ∷ first ∷ second ∷ more) finding some reaches late high low is =
    rw (high, low) (by finding
    (subst (λ (l : List ℕ). IsFirstOther updates l finding) (behind_is 3 (last ∷ first ∷ second ∷ more)) is))
  where
    by : (finding : Finding) → IsFirstOther updates more finding
        → IsFound updates (last ∷ 0x00 ∷ 0x03 ∷ more) finding
    by Same is = (last, reaches, inr (more, refl, late, is))
    by (Other location byte) is = (last, reaches, inr (more, refl, late, is))
    by Short never = absurd never
    by Format never = absurd never

-- if all is the same nothing else is found

own_both : (one two : List (ℕ × ℕ)) → own_bytes (one ++ two) ≡ own_bytes one ++ own_bytes two
own_both [] two = refl
own_both (update ∷ one) two = ap (λ (l : List ℕ). update.1 ∷ l) (own_both one two)

same_next : (front one two : List ℕ) (first second : ℕ) → front ++ first ∷ one ≡ front ++ second ∷ two
    → first ≡ second
same_next [] one two first second is = cc
same_next (byte ∷ front) one two first second is =
    let rest : front ++ first ∷ one ≡ front ++ second ∷ two = cc in same_next front one two first second rest

same_first : (updates : List (ℕ × ℕ)) (bytes : List ℕ) (finding : Finding) → IsFirstOther updates bytes Same
    → IsFirstOther updates bytes finding → finding ≡ Same
same_first updates bytes Same same is = refl
same_first updates bytes (Other location byte) same (before, own, behind, more, splits, is, other) =
    grind (arith, own_both, append_assoc, same_next)
same_first updates bytes Short same never = absurd never
same_first updates bytes Format same never = absurd never

same_behind : (updates : List (ℕ × ℕ)) (one two : List ℕ) (finding : Finding) → one ≡ two
    → IsFirstOther updates one Same → IsFirstOther updates two finding → finding ≡ Same
same_behind updates one two finding same first second = grind (arith, same_first)

pub same_found : (updates : List (ℕ × ℕ)) (bytes : List ℕ) (finding : Finding) → IsFound updates bytes Same
    → IsFound updates bytes finding → finding ≡ Same
same_found updates bytes Same all is = refl
same_found updates bytes (Other location byte) (last, reaches, inl (one, is1, near, same))
    (last2, r2, inl (two, is2, n2, other)) =
    let both : one ≡ two = cc in same_behind updates one two (Other location byte) both same other
same_found updates bytes (Other location byte) (last, reaches, inr (one, is1, late, same))
    (last2, r2, inr (two, is2, l2, other)) =
    let both : one ≡ two = cc in same_behind updates one two (Other location byte) both same other
same_found updates bytes (Other location byte) (last, reaches, inl (one, is1, near, same))
    (last2, r2, inr (two, is2, l2, other)) = grind arith
same_found updates bytes (Other location byte) (last, reaches, inr (one, is1, late, same))
    (last2, r2, inl (two, is2, n2, other)) = grind arith
same_found updates bytes Short (last, reaches, inl (one, is1, near, same)) (last2, more, is2, short) = grind arith
same_found updates bytes Short (last, reaches, inr (one, is1, late, same)) (last2, more, is2, short) = grind arith
same_found updates bytes Format (last, reaches, inl (one, is1, near, same))
    (last2, high, low, more, is2, r2, late, other) = grind arith
same_found updates bytes Format (last, reaches, inr (one, is1, late, same))
    (last2, high, low, more, is2, r2, l2, other) = grind arith

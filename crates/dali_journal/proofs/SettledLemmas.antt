-- The orders found among settled ones: those of an index that have ended.
use Rattle.std.proofs.Common.{◌≡◌, ℕ, ◌+◌, ◌<◌, ◌≤◌, All, Contains, List, length, get_or, Ok, Err}
use Rattle.std.proofs.Common.{sym, ap, arith, ◌∙◌, ◌++◌, ◌∷◌, [], suc, take, take-suc, append_assoc}
use Rattle.std.proofs.Common.{slice_get, Some, filter_map}
use Rattle.std.proofs.Common.{◌-◌, ◌⊎◌, inl, inr, subst, length-append, IsPermutation, get_or-append-add}
use Rattle.std.proofs.lemmas.Bool.{cases_lt}
use Rattle.std.proofs.lemmas.List.{get_or_append_left}
use Rattle.std.proofs.lemmas.List.Sorted.{IsPermutation-trans, IsPermutation-append_right}
use Rattle.std.proofs.lemmas.Option.{slice_get-get_or, slice_get_within, get_or_from_slice_get}
use Rattle.std.specs.List.Sorted.{IsSearchInRange, IsBinarySearchResult, IsNonDecreasingBy}
use Rattle.std.specs.Ordering.{nat_cmp, ordering_index}
use Rattle.std.proofs.lemmas.Cmp.{ranked}
use Rattle.std.proofs.lemmas.Bool.Decides.{nat_tests}
use Rattle.std.proofs.lemmas.List.Elements.{Contains-get_or, All-push, All-same, filter_map-append}
use Rattle.dali_journal.specs.declared.index.IndexEntry.{IndexEntry}
use Rattle.dali_journal.specs.declared.settled.Settled.{Settled}
use Rattle.dali_journal.specs.Settled.{IsUnsettled, settled_at}

-- in the order of numbers, the comparisons with one rise
comparisons_rise : (settled : List Settled) (id : ℕ) → IsNonDecreasingBy (λ one. one.id) settled
    → IsNonDecreasingBy (λ one. ordering_index (nat_cmp one.id id)) settled
comparisons_rise settled id sorted i j d below within = grind (arith, nat_tests, sorted i j d below within)

-- if a search ends without one, none has the number
pub none_found : (settled : List Settled) (id at : ℕ) → IsNonDecreasingBy (λ one. one.id) settled
    → IsSearchInRange (Err at) (length settled)
    → IsBinarySearchResult (λ one. nat_cmp one.id id) settled (Err at) → IsUnsettled id settled
none_found settled id at sorted in_range parted k d within same =
    let parts = parted (comparisons_rise settled id sorted) in
    let below = λ (lt : k < at). ranked (get_or settled k d).id id _ (sym (parts.0 k d (omega arith) lt)) in
    let above = λ (le : at ≤ k). ranked (get_or settled k d).id id _ (sym (parts.1 k d le within)) in
    grind (arith, below, above)

pub one_found : (settled : List Settled) (id at : ℕ) (d : Settled) → at < length settled
    → IsBinarySearchResult (λ one. nat_cmp one.id id) settled (Ok at)
    → Contains settled (get_or settled at d) × ((get_or settled at d).id ≡ id)
one_found settled id at d within equal =
    (Contains-get_or settled at d within, ranked (get_or settled at d).id id _ (sym (equal d)))

-- one entry more of an index
take_more : {X : Type 0} (xs : List X) (i : ℕ) (x : X) → slice_get xs i ≡ Some x → take (i + 1) xs ≡ take i xs ++ x ∷ []
take_more xs i x there =
    let within = slice_get_within xs i x there in
    let at = get_or_from_slice_get xs i x x there in
    ap (λ n. take n xs) {y = suc i} (omega arith) ∙ take-suc xs i x within ∙ ap (λ y. take i xs ++ y ∷ []) at

pub ended_more : (settled old more : List Settled) (front : ℕ) (entries : List (ℕ × IndexEntry)) (i : ℕ)
    (entry : ℕ × IndexEntry) → slice_get entries i ≡ Some entry
    → more ≡ old ++ filter_map (settled_at front) (take i entries)
    → settled ≡ more ++ filter_map (settled_at front) (entry ∷ [])
    → settled ≡ old ++ filter_map (settled_at front) (take (i + 1) entries)
ended_more settled old more front entries i entry there before now =
    let of : List (ℕ × IndexEntry) → List Settled = filter_map (settled_at front) in
    now ∙ ap (λ xs. xs ++ of (entry ∷ [])) before
    ∙ append_assoc old (of (take i entries)) (of (entry ∷ []))
    ∙ ap (λ xs. old ++ xs)
    (sym (filter_map-append (settled_at front) (take i entries) (entry ∷ []))
    ∙ ap of (sym (take_more entries i entry there)))

pub told_more : (entries : List (ℕ × IndexEntry)) (P : ℕ × IndexEntry → Type 0) (i : ℕ) (entry : ℕ × IndexEntry)
    → slice_get entries i ≡ Some entry → All P (take i entries) → P entry → All P (take (i + 1) entries)
told_more entries P i entry there before is =
    All-same P (take (i + 1) entries) (take i entries ++ entry ∷ []) (take_more entries i entry there)
    (All-push P (take i entries) entry before is)

-- ---- those of a newer journal after those of an older one

-- if the first of the others is above the last, all rise
pub all_rise : (older newer : List Settled) → IsNonDecreasingBy (λ one. one.id) older
    → IsNonDecreasingBy (λ one. one.id) newer
    → ((last first : Settled) → slice_get older (length older - 1) ≡ Some last → slice_get newer 0 ≡ Some first
    → last.id ≤ first.id)
    → IsNonDecreasingBy (λ one. one.id) (older ++ newer)
all_rise older newer up rising above i j d before within = by (cases_lt j (length older)) (cases_lt i (length older))
  where
    place : ℕ → Settled
    place n = get_or (older ++ newer) n d

    in_older : (n : ℕ) → n < length older → (place n).id ≡ (get_or older n d).id
    in_older n below = ap (λ (one : Settled). one.id) (get_or_append_left older newer d n below)

    in_newer : (n : ℕ) → length older ≤ n → (place n).id ≡ (get_or newer (n - length older) d).id
    in_newer n past =
        let there : length older + (n - length older) ≡ n = omega arith in
        ap (λ k. (place k).id) (sym there)
        ∙ ap (λ (one : Settled). one.id) (get_or-append-add older newer (n - length older) d)

    count : length (older ++ newer) ≡ length older + length newer
    count = length-append older newer

    by : (j < length older) ⊎ (length older ≤ j) → (i < length older) ⊎ (length older ≤ i)
        → (place i).id ≤ (place j).id
    by (inl j_in) i_in =
        let low : i < length older = omega arith in
        let rises = up i j d before j_in in
        let at_i = in_older i low in let at_j = in_older j j_in in omega arith
    by (inr j_past) (inr i_past) =
        let last : j - length older < length newer = omega (arith, count) in
        let rises = rising (i - length older) (j - length older) d (omega arith) last in
        let at_i = in_newer i i_past in let at_j = in_newer j j_past in omega arith
    by (inr j_past) (inl i_in) =
        let last : length older - 1 < length older = omega arith in
        let place_j : j - length older < length newer = omega (arith, count) in
        let some : 0 < length newer = omega (arith, count) in
        let first = rising 0 (j - length older) d (omega arith) place_j in
        let most = up i (length older - 1) d (omega arith) last in
        let between = above (get_or older (length older - 1) d) (get_or newer 0 d)
        (slice_get-get_or older (length older - 1) d last) (slice_get-get_or newer 0 d some) in
        let at_i = in_older i i_in in let at_j = in_newer j j_past in omega arith

-- the orders of an older journal stay in front of all others
pub both_permuted : (older more own new all : List Settled) → IsPermutation (more ++ own) new
    → IsPermutation (older ++ new) all → IsPermutation ((older ++ more) ++ own) all
both_permuted older more own new all moves whole =
    IsPermutation-trans ((older ++ more) ++ own) (older ++ new) all
    (subst (λ xs. IsPermutation xs (older ++ new)) (sym (append_assoc older more own))
    (IsPermutation-append_right older (more ++ own) new moves)) whole

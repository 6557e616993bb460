-- Lemmas on what JSON values say.
use Rattle.std.proofs.Common.{◌≡◌, ◌≢◌, ◌<◌, ◌≤◌, ◌↔◌, ◌^◌, ◌%◌, ◌*◌, ◌&&◌, inl, inr, w64, bit_or, ℕ, zero, suc, ◌+◌}
use Rattle.std.proofs.Common.{Bool, true, false, List, [], ◌∷◌, ◌++◌, Option, Some, length, get_or, map, take}
use Rattle.std.proofs.Common.{string_bytes, append_assoc, arith, refl, sym, subst, ap, ◌∙◌}
use Rattle.std.specs.Int.{bit_at}
use Rattle.std.specs.List.{AllByRecursion, Contains, list_all, list_any, sum_by}
use Rattle.std.specs.Option.{option_map_or}
use Rattle.std.specs.Str.{bytes_eq}
use Rattle.std.proofs.lemmas.Bool.{cases_eq}
use Rattle.std.proofs.lemmas.List.{take_more, map-append}
use Rattle.std.proofs.lemmas.List.Elements.{All-from_recursion, Contains-append_left, Contains-append_right}
use Rattle.std.proofs.lemmas.List.Elements.{Contains-append_cases}
use Rattle.std.proofs.lemmas.List.Sums.{sum_by-append}
use Rattle.std.proofs.lemmas.Nat.Bits.{bit_at_set_same, bit_at_set_other}
use Rattle.serde_json.specs.Data.{Data, Items, no_items, item}
use Rattle.serde_json.specs.Find.{as_array, as_object}
use Rattle.serde_json.specs.View.{view, items_view, items_of, members_view}
use Rattle.serde_json.specs.declared.value.Value.{Value}
use Rattle.serde_json.proofs.Views.{Entry}
use Rattle.dali_input.specs.declared.fault.InputFault.{InputFault}
use Rattle.dali_input.specs.declared.fault.InputFault.TheVariants.{Json, Document, TooBig, Hex, Memory, File}
use Rattle.dali_input.specs.Items.{keys_of}
use Rattle.dali_input.specs.Values.{AreEach, IsArrayOf, IsWhole, IsNoReading, has_only_keys}
use Rattle.dali_input.proofs.MemberLemmas.{known_more}

-- if what is wanted needs something that can't be read, it can't be read either
pub needs : {X Y : Type 0} (Part : X → Type 0) (Whole : Y → Type 0) (fault : InputFault)
    → ((y : Y) → Whole y → (x : X) × Part x) → IsNoReading Part fault → IsNoReading Whole fault
needs Part Whole Document need none = λ y whole. let (x, part) = need y whole in none x part
needs Part Whole Memory need none = tt
needs Part Whole Json need none = absurd none
needs Part Whole TooBig need none = absurd none
needs Part Whole Hex need none = absurd none
needs Part Whole File need none = absurd none

pub each_one_more : {X : Type 0} (Says : Data → X → Type 0) (ds : List Data) (xs : List X) (d : Data) (x : X)
    → AreEach Says (items_of ds) xs → Says d x
    → AreEach Says (items_of (ds ++ d ∷ [])) (xs ++ x ∷ [])
each_one_more Says [] [] d x each says = (says, tt)
each_one_more Says [] (y ∷ xs) d x each says = absurd each
each_one_more Says (e ∷ ds) [] d x each says = absurd each
each_one_more Says (e ∷ ds) (y ∷ xs) d x each says = (each.0, each_one_more Says ds xs d x each.1 says)

-- one value more of an array, and what it says
pub each_more : {X : Type 0} (Says : Data → X → Type 0) (vs : List Value) (i : ℕ) (v : Value) (xs : List X) (x : X)
    → i < length vs → v ≡ get_or vs i v
    → AreEach Says (items_view (take i vs)) xs → Says (view v) x
    → AreEach Says (items_view (take (i + 1) vs)) (xs ++ x ∷ [])
each_more Says vs i v xs x within is each says =
    let more : take (i + 1) vs ≡ take i vs ++ v ∷ [] =
    take_more vs i v within ∙ ap (λ w. take i vs ++ w ∷ []) (sym is) in
    let split : map view (take (i + 1) vs) ≡ map view (take i vs) ++ view v ∷ [] =
    ap (map view) more ∙ map-append view (take i vs) (v ∷ []) in
    subst (λ ds. AreEach Says (items_of ds) (xs ++ x ∷ [])) (sym split)
    (each_one_more Says (map view (take i vs)) xs (view v) x each says)

-- if a value of an array says nothing, neither do all of them
not_each : {X : Type 0} (Says : Data → X → Type 0) (vs : List Value) (i : ℕ) (v : Value) (xs : List X) → i < length vs
    → v ≡ get_or vs i v
    → ((x : X) → ¬ Says (view v) x) → ¬ AreEach Says (items_view vs) xs
not_each Says [] i v xs within is none each = absurd (omega (arith, within))
not_each Says (w ∷ vs) i v [] within is none each = absurd each
not_each Says (w ∷ vs) zero v (x ∷ xs) within is none each = none x (subst (λ u. Says (view u) x) (sym is) each.0)
not_each Says (w ∷ vs) (suc i) v (x ∷ xs) within is none each =
    not_each Says vs i v xs (omega (arith, within)) is none each.1

some_items : (o : Option Items) (a b : Items) → o ≡ Some a → o ≡ Some b → a ≡ b
some_items o a b p q = cc

-- and the array is no array of such values
pub no_array_at : {X : Type 0} (Says : Data → X → Type 0) (json : Data) (vs : List Value) (i : ℕ) (v : Value)
    (fault : InputFault)
    → as_array json ≡ Some (items_view vs)
    → i < length vs → v ≡ get_or vs i v → IsNoReading (Says (view v)) fault → IsNoReading (IsArrayOf Says json) fault
no_array_at Says json vs i v Document array within is none = λ xs all.
    not_each Says vs i v xs within is none (subst (λ items. AreEach Says items xs)
    (some_items (as_array json) all.items (items_view vs) all.array array) all.each)
no_array_at Says json vs i v Memory array within is none = tt
no_array_at Says json vs i v Json array within is none = absurd none
no_array_at Says json vs i v TooBig array within is none = absurd none
no_array_at Says json vs i v Hex array within is none = absurd none
no_array_at Says json vs i v File array within is none = absurd none

-- ---- the walk over the keys of an object

-- the members that were passed, of which each key is known
pub record KnownSoFar (is_known : List ℕ → Bool) (all left : List Entry) : Type 0 where
  pub done : List Entry
  pub whole : all ≡ done ++ left
  pub known : list_all is_known (keys_of (members_view done)) ≡ true

pub one_more_known : (is_known : List ℕ → Bool) (all left : List Entry) (e : Entry) → KnownSoFar is_known all (e ∷ left)
    → is_known (string_bytes e.0) ≡ true → KnownSoFar is_known all left
one_more_known is_known all left e so_far known = record {
  done = so_far.done ++ e ∷ [];
  whole = so_far.whole ∙ sym (append_assoc so_far.done (e ∷ []) left);
  known = known_more is_known so_far.done e ∙ rw (so_far.known, known) refl;
}

one_unknown : (is_known : List ℕ → Bool) (done left : List Entry) (e : Entry) → is_known (string_bytes e.0) ≡ false
    → list_all is_known (keys_of (members_view (done ++ e ∷ left))) ≡ false
one_unknown is_known [] left e unknown = rw unknown refl
one_unknown is_known (d ∷ done) left e unknown =
    rw (one_unknown is_known done left e unknown) (and_false (is_known (string_bytes d.0)))
  where
    and_false : (b : Bool) → (b && false) ≡ false
    and_false true = refl
    and_false false = refl

pub not_all_known : (is_known : List ℕ → Bool) (all left : List Entry) (e : Entry) → KnownSoFar is_known all (e ∷ left)
    → is_known (string_bytes e.0) ≡ false
    → list_all is_known (keys_of (members_view all)) ≡ false
not_all_known is_known all left e so_far unknown =
    ap (λ es. list_all is_known (keys_of (members_view es))) so_far.whole
    ∙ one_unknown is_known so_far.done left e unknown

-- or one of them isn't
pub not_only_known : (keys : List (List ℕ)) (json : Data) (all left : List Entry) (e : Entry)
    → as_object json ≡ Some (members_view all)
    → KnownSoFar (λ key. list_any (bytes_eq key) keys) all (e ∷ left)
    → list_any (bytes_eq (string_bytes e.0)) keys ≡ false → has_only_keys keys json ≡ false
not_only_known keys json all left e is so_far unknown =
    ap (λ o. option_map_or (λ members. list_all (λ key. list_any (bytes_eq key) keys) (keys_of members)) o false) is
    ∙ not_all_known (λ key. list_any (bytes_eq key) keys) all left e so_far unknown

-- ---- lists of numbers

same_length : {X : Type 0} (Says : Data → X → Type 0) (items : Items) (xs ys : List X) → AreEach Says items xs
    → AreEach Says items ys → length xs ≡ length ys
same_length Says no_items [] [] one other = refl
same_length Says no_items [] (y ∷ ys) one other = absurd other
same_length Says no_items (x ∷ xs) ys one other = absurd one
same_length Says (item d ds) [] ys one other = absurd one
same_length Says (item d ds) (x ∷ xs) [] one other = absurd other
same_length Says (item d ds) (x ∷ xs) (y ∷ ys) one other = ap suc (same_length Says ds xs ys one.1 other.1)

-- two readings of one array have the same length
pub same_length_of : {X : Type 0} (Says : Data → X → Type 0) (json : Data) (xs ys : List X) → IsArrayOf Says json xs
    → IsArrayOf Says json ys → length xs ≡ length ys
same_length_of Says json xs ys one other =
    same_length Says one.items xs ys one.each (subst (λ items. AreEach Says items ys)
    (some_items (as_array json) other.items one.items other.array one.array) other.each)

-- ---- sets of short addresses

-- the number with one bit more, and the list with one address more
bit_more_at : (addresses : List ℕ) (i bits : ℕ) (d : ℕ) → i < length addresses → get_or addresses i d < 64
    → ((address : ℕ) → (bit_at bits address ≡ 1) ↔ Contains (take i addresses) address)
    → (address : ℕ)
    → (bit_at (bit_or bits (1 * 2 ^ get_or addresses i d % 2 ^ 64)) address ≡ 1)
    ↔ Contains (take (i + 1) addresses) address
bit_more_at addresses i bits d within short so_far address =
    rw (take_more addresses i d within) (elim (cases_eq address (get_or addresses i d)) [
      | inl same ↦ (
        λ set. Contains-append_right (take i addresses) (get_or addresses i d ∷ []) address (rw same here),
        λ among. rw same (bit_at_set_same w64 bits (get_or addresses i d) short),
      )
      | inr differs ↦ (
        λ set. Contains-append_left (take i addresses) (get_or addresses i d ∷ []) address
            ((so_far address).0 (sym (bit_at_set_other w64 bits (get_or addresses i d) short address differs) ∙ set)),
        λ among. bit_at_set_other w64 bits (get_or addresses i d) short address differs
            ∙ (so_far address).1 (before among differs),
      )
    ])
  where
    here : Contains (get_or addresses i d ∷ []) (get_or addresses i d)
    here = (0, omega arith, refl)

    only : Contains (get_or addresses i d ∷ []) address → address ≡ get_or addresses i d
    only (zero, below, is) = sym is
    only (suc k, below, is) = absurd (omega (arith, below))

    before : Contains (take i addresses ++ get_or addresses i d ∷ []) address → address ≢ get_or addresses i d
        → Contains (take i addresses) address
    before among differs = elim (Contains-append_cases (take i addresses) (get_or addresses i d ∷ []) address among) [
      | inl old ↦ old
      | inr new ↦ absurd (differs (only new))
    ]

-- the same, if each address is one
pub bit_more : (addresses : List ℕ) (i bits : ℕ) (d : ℕ) → i < length addresses
    → AllByRecursion (λ address. address ≤ 63) addresses
    → ((address : ℕ) → (bit_at bits address ≡ 1) ↔ Contains (take i addresses) address)
    → (address : ℕ)
    → (bit_at (bit_or bits (1 * 2 ^ get_or addresses i d % 2 ^ 64)) address ≡ 1)
    ↔ Contains (take (i + 1) addresses) address
bit_more addresses i bits d within short so_far =
    let least : get_or addresses i d ≤ 63 = All-from_recursion (λ address. address ≤ 63) addresses short i d within in
    bit_more_at addresses i bits d within (omega (arith, least)) so_far

pub all_within : (least most : ℕ) (items : Items) (xs : List ℕ) → AreEach (IsWhole least most) items xs
    → AllByRecursion (λ x. x ≤ most) xs
all_within least most no_items [] each = tt
all_within least most no_items (x ∷ xs) each = absurd each
all_within least most (item d ds) [] each = absurd each
all_within least most (item d ds) (x ∷ xs) each = (each.0.to, all_within least most ds xs each.1)

-- ---- sums

pub sum_by_of_map : {X Y : Type 0} (f : Y → ℕ) (g : X → Y) (xs : List X)
    → sum_by f (map g xs) ≡ sum_by (λ x. f (g x)) xs
sum_by_of_map f g [] = refl
sum_by_of_map f g (x ∷ xs) =
    sum_by-append f (g x ∷ []) (map g xs) ∙ ap (λ n. sum_by f (g x ∷ []) + n) (sum_by_of_map f g xs)
    ∙ sym (sum_by-append (λ y. f (g y)) (x ∷ []) xs)

-- Lemmas on the updates of fields that lie one after the other.
use Rattle.std.proofs.Common.{◌≡◌, ℕ, zero, suc, ◌+◌, ◌<◌, ◌≤◌, ◌≢◌, ◌⊎◌, inl, inr, lit≤, List, [], ◌∷◌, ◌++◌, Option}
use Rattle.std.proofs.Common.{Some, None, IfSome, IsSomeAnd, unwrap_or, map, replicate, take, length, get_or, set, refl}
use Rattle.std.proofs.Common.{ap, sym, subst, ◌∙◌, arith, lit<, add-zero, length-set, false, is_some, get_or-set_same}
use Rattle.std.proofs.Common.{get_or-set_other}
use Rattle.std.proofs.lemmas.Bool.{cases_eq, cases_lt}
use Rattle.std.specs.Bool.{⊤}
use Rattle.std.specs.List.{AllByRecursion, flat_map}
use Rattle.std.specs.Option.{option_map}
use Rattle.std.proofs.lemmas.List.{take_more, flat_map_more, get_or_past}
use Rattle.std.proofs.lemmas.List.Concat.{length-flat_map}
use Rattle.std.proofs.lemmas.List.Sums.{sum_by-le-sum_by}
use Rattle.dali_bank.specs.declared.field.Field.{Field}
use Rattle.dali_bank.specs.declared.field.Field.TheVariants.{Gtin, Identification}
use Rattle.dali_bank.specs.Draft.{Drafted, AreFound, found_of, bytes_of, placed_at, updates_of, GivesNumber}
use Rattle.dali_bank.specs.Layout.{fields, rank_of, row_of, first_of, length_of, SuitsForm}
use Rattle.dali_bank.specs.Numbers.{big_endian}
use Rattle.dali_bank.specs.Order.{IsWritable, RisesAbove, AreUpdates}

-- ---- bytes at their places

-- one more byte goes after the others
pub placed_at-snoc : (first : ℕ) (bytes : List ℕ) (byte : ℕ)
    → placed_at first (bytes ++ byte ∷ []) ≡ placed_at first bytes ++ (first + length bytes, byte) ∷ []
placed_at-snoc first [] byte = rw add-zero refl
placed_at-snoc first (b ∷ bytes) byte =
    let there : first + 1 + length bytes ≡ first + suc (length bytes) = omega arith in
    ap (λ updates. (first, b) ∷ updates)
    (placed_at-snoc (first + 1) bytes byte ∙ ap (λ n. placed_at (first + 1) bytes ++ (n, byte) ∷ []) there)

pub length-placed_at : (first : ℕ) (bytes : List ℕ) → length (placed_at first bytes) ≡ length bytes
length-placed_at first [] = refl
length-placed_at first (byte ∷ bytes) = ap suc (length-placed_at (first + 1) bytes)

-- updates that rise above the last place of the bytes rise after them
placed_at-rises : (bound first : ℕ) (bytes : List ℕ) (others : List (ℕ × ℕ)) → bound < first
    → ((last : ℕ) → last < first + length bytes → RisesAbove last others)
    → RisesAbove bound (placed_at first bytes ++ others)
placed_at-rises bound first [] others above behind = behind bound (omega arith)
placed_at-rises bound first (byte ∷ bytes) others above behind = (
  above,
  placed_at-rises first (first + 1) bytes others (omega arith) (λ last within. behind last (omega (arith, within))),
)

-- `size` places from the first on lie in one of the two runs that an order may write
abbrev ArePlaces : ℕ → ℕ → Type 0
ArePlaces first size = ((0x03 ≤ first) × (first + size ≤ 0x11)) ⊎ ((0x13 ≤ first) × (first + size ≤ 0x78))

placed_low : (first : ℕ) (bytes : List ℕ) → 0x03 ≤ first → first + length bytes ≤ 0x11
    → AllByRecursion (λ update. IsWritable update.0) (placed_at first bytes)
placed_low first [] low high = tt
placed_low first (byte ∷ bytes) low high =
    (inl (low, omega arith), placed_low (first + 1) bytes (omega arith) (omega arith))

placed_high : (first : ℕ) (bytes : List ℕ) → 0x13 ≤ first → first + length bytes ≤ 0x78
    → AllByRecursion (λ update. IsWritable update.0) (placed_at first bytes)
placed_high first [] low high = tt
placed_high first (byte ∷ bytes) low high =
    (inr (low, omega arith), placed_high (first + 1) bytes (omega arith) (omega arith))

placed_at-writable : (first size : ℕ) (bytes : List ℕ) → ArePlaces first size → length bytes ≤ size
    → AllByRecursion (λ update. IsWritable update.0) (placed_at first bytes)
placed_at-writable first size bytes (inl low) few = placed_low first bytes low.0 (omega (arith, low.1, few))
placed_at-writable first size bytes (inr high) few = placed_high first bytes high.0 (omega (arith, high.1, few))

-- ---- the layout

field_places : (field : Field) → ArePlaces (first_of field) (length_of field)
field_places Gtin = inl (lit≤ tt, lit≤ tt)
field_places Identification = inl (lit≤ tt, lit≤ tt)
field_places _ = inr (lit≤ tt, lit≤ tt)

pub rank_within : (field : Field) → rank_of field < length fields
rank_within Gtin = lit< tt
rank_within _ = lit< tt

rank_place : (field : Field) → get_or fields (rank_of field) Gtin ≡ field
rank_place Gtin = refl
rank_place _ = refl

pub field_room : (field : Field) → SuitsForm (row_of field).form (row_of field).length
field_room Gtin = refl
field_room Identification = refl
field_room _ = (lit≤ tt, lit≤ tt)

pub same_rank : (one other : Field) → rank_of one ≡ rank_of other → one ≡ other
same_rank one other same = sym (rank_place one) ∙ ap (λ k. get_or fields k Gtin) same ∙ rank_place other

all_at : (P : Field → Type 0) (fs : List Field) (k : ℕ) → AllByRecursion P fs → k < length fs → P (get_or fs k Gtin)
all_at P [] k all within = absurd (omega arith)
all_at P (field ∷ fs) zero all within = all.0
all_at P (field ∷ fs) (suc k) all within = all_at P fs k all.1 (omega arith)

-- what holds of all fields of the list holds of each field
pub at_each : (P : Field → Type 0) → AllByRecursion P fields → (field : Field) → P field
at_each P all field = subst P (rank_place field) (all_at P fields (rank_of field) all (rank_within field))

pub all_of : (P : Field → Type 0) (fs : List Field) → ((field : Field) → P field) → AllByRecursion P fs
all_of P [] each = tt
all_of P (field ∷ fs) each = (each field, all_of P fs each)

-- a field that is set to bytes of its length
pub found_with : (found : List (Option (List ℕ))) (field : Field) (bytes : List ℕ) → length bytes ≡ length_of field
    → AreFound found → AreFound (set found (rank_of field) (Some bytes))
found_with found field bytes sized each =
    let Fits : Option (List ℕ) → Field → Type 0 = λ b f. IfSome b (λ bs. length bs ≡ length_of f) in
    all_of (λ f. Fits (get_or (set found (rank_of field) (Some bytes)) (rank_of f) None) f) fields
    (λ f. elim (cases_eq (rank_of f) (rank_of field)) [
      | inl same ↦
          let one : f ≡ field = same_rank f field same in
          rw one (elim (cases_lt (rank_of field) (length found)) [
            | inl within ↦ rw get_or-set_same sized
            | inr past ↦
                let beyond : length (set found (rank_of field) (Some bytes)) ≤ rank_of field = simp length-set past in
                rw (get_or_past (set found (rank_of field) (Some bytes)) (rank_of field) None beyond) tt
          ])
      | inr other ↦ rw get_or-set_other (at_each (λ g. Fits (get_or found (rank_of g) None) g) each f)
    ])

-- each field begins after the one before it
abbrev FollowFrom : ℕ → List Field → Type 0
FollowFrom from [] = ⊤
FollowFrom from (field ∷ others) = (from ≤ first_of field) × FollowFrom (first_of field + length_of field) others

fields_follow : FollowFrom 0x03 fields
fields_follow = search arith

-- ---- the updates of a draft

places_top : (first size : ℕ) → ArePlaces first size → first + size ≤ 0x78
places_top first size (inl low) = omega (arith, low.1)
places_top first size (inr high) = high.1

pub field_top : (field : Field) → first_of field + length_of field ≤ 0x78
field_top field = places_top (first_of field) (length_of field) (field_places field)

pub flat_map-take_more : {X A : Type 0} (f : X → List A) (xs : List X) (i : ℕ) (d : X) → i < length xs
    → flat_map f (take i xs) ++ f (get_or xs i d) ≡ flat_map f (take (i + 1) xs)
flat_map-take_more f xs i d within =
    flat_map_more f [] (take i xs) (get_or xs i d) ∙ ap (flat_map f) (sym (take_more xs i d within))

fitted : (found : Option (List ℕ)) (size : ℕ) → IfSome found (λ bytes. length bytes ≡ size)
    → length (unwrap_or found []) ≤ size
fitted None size fits = omega arith
fitted (Some bytes) size fits = omega (arith, fits)

all_append : (P : ℕ × ℕ → Type 0) (us vs : List (ℕ × ℕ)) → AllByRecursion P us → AllByRecursion P vs
    → AllByRecursion P (us ++ vs)
all_append P [] vs all others = others
all_append P (u ∷ us) vs all others = (all.0, all_append P us vs all.1 others)

abbrev pub placed : Drafted → Field → List (ℕ × ℕ)
placed draft field = placed_at (first_of field) (bytes_of field draft)

fields_writable : (draft : Drafted) → ((field : Field) → length (bytes_of field draft) ≤ length_of field)
    → (fs : List Field)
    → AllByRecursion (λ update. IsWritable update.0) (flat_map (placed draft) fs)
fields_writable draft fits [] = tt
fields_writable draft fits (field ∷ fs) =
    all_append (λ update. IsWritable update.0) (placed draft field) (flat_map (placed draft) fs)
    (placed_at-writable (first_of field) (length_of field) (bytes_of field draft) (field_places field) (fits field))
    (fields_writable draft fits fs)

fields_rise : (draft : Drafted) → ((field : Field) → length (bytes_of field draft) ≤ length_of field)
    → (from : ℕ) (fs : List Field) → FollowFrom from fs
    → (bound : ℕ) → bound < from → RisesAbove bound (flat_map (placed draft) fs)
fields_rise draft fits from [] follow bound below = tt
fields_rise draft fits from (field ∷ fs) follow bound below =
    let fit = fits field in
    placed_at-rises bound (first_of field) (bytes_of field draft) (flat_map (placed draft) fs) (omega (arith, follow.0))
    (λ last within.
    fields_rise draft fits (first_of field + length_of field) fs follow.1 last (omega (arith, within, fit)))

-- the updates of a draft are those of an order, if there are any
pub updates_valid : (draft : Drafted) → AreFound draft.found → 1 ≤ length (updates_of draft)
    → AreUpdates (updates_of draft)
updates_valid draft found some =
    let fits : (field : Field) → length (bytes_of field draft) ≤ length_of field =
    λ field. fitted (found_of field draft) (length_of field)
    (at_each (λ f. IfSome (found_of f draft) (λ bytes. length bytes ≡ length_of f)) found field) in
    let each : (field : Field) → length (placed draft field) ≤ length_of field =
    λ field. rw length-placed_at (fits field) in
    record {
      some = some;
      few = omega (
        arith,
        length-flat_map (placed draft) fields,
        sum_by-le-sum_by (λ field. length (placed draft field)) length_of fields each,
      );
      rising = fields_rise draft fits 0x03 fields fields_follow 0 (lit≤ tt);
      writable = fields_writable draft fits fields;
    }

-- a list of nothing but none
pub map-none : {A B : Type 0} (f : A → B) (xs : List (Option A)) (n : ℕ) → length xs ≡ n
    → ((i : ℕ) → i < n → get_or xs i None ≡ None)
    → map (option_map f) xs ≡ replicate n None
map-none f [] zero sized each = refl
map-none f [] (suc n) sized each = absurd (omega arith)
map-none f (x ∷ xs) zero sized each = absurd (omega arith)
map-none f (x ∷ xs) (suc n) sized each =
    let first : x ≡ None = each 0 (omega arith) in
    rw first
    (ap (λ others. None ∷ others) (map-none f xs n (omega arith) (λ i within. each (suc i) (omega (arith, within)))))

-- a place that reads as none is none
pub unset : {A B : Type 0} (f : A → B) (xs : List (Option A)) (i : ℕ) (d : Option A) → false ≡ is_some (get_or xs i d)
    → get_or (map (option_map f) xs) i None ≡ None
unset f [] i d none = refl
unset f (None ∷ xs) zero d none = refl
unset f (Some x ∷ xs) zero d none = cc none
unset f (x ∷ xs) (suc i) d none = unset f xs i d none

-- ---- numbers of a draft

no_number_found : (found : Option (List ℕ)) (size : ℕ) → IfSome found (λ bytes. length bytes ≡ size)
    → unwrap_or found [] ≡ replicate (length (unwrap_or found [])) 0xFF → (n : ℕ)
    → ¬ IsSomeAnd found (λ bytes. (bytes ≢ replicate size 0xFF) × (big_endian bytes ≡ n))
no_number_found None size sized same n given = given
no_number_found (Some bytes) size sized same n given = given.0 (same ∙ ap (λ k. replicate k 0xFF) sized)

-- a field that isn't set, or set to FFh in every byte, gives no number
pub no_number : (draft : Drafted) (field : Field)
    → IfSome (found_of field draft) (λ bytes. length bytes ≡ length_of field)
    → bytes_of field draft ≡ replicate (length (bytes_of field draft)) 0xFF → (n : ℕ) → ¬ GivesNumber field draft n
no_number draft field sized same = no_number_found (found_of field draft) (length_of field) sized same
